pub mod Rest
pub mod Loaded
pub mod Names
