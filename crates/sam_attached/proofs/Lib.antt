pub mod Parts
pub mod Runs
pub mod Sessions
pub mod Times
pub mod Delivery
pub mod Opened
pub mod Waiting
pub mod Resting
