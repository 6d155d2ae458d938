pub mod Ends
pub mod Sessions
pub mod Delivery
pub mod Heirs
pub mod Journals
