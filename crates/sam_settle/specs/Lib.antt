pub mod Headline
pub mod Settled
pub mod Settling
