pub mod Loader
pub mod Tasks
pub mod Runs
pub mod Fronts
pub mod Running
