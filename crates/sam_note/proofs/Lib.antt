pub mod Putting
pub mod Spelling
pub mod Fronts
pub mod Whole
pub mod BothWays
