pub mod Runs
pub mod Sessions
pub mod Times
pub mod Delivery
pub mod Resting
