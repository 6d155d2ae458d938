pub mod Splices
pub mod Shown
