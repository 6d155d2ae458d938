pub mod Feeding
pub mod Handling
pub mod Passing
