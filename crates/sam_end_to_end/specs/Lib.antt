pub mod Sessions
pub mod Stopping
pub mod Delivery
pub mod Heirs
pub mod Journals
