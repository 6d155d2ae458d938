pub mod Cells
pub mod Groups
pub mod Runs
pub mod Layers
pub mod Faults
pub mod Blocks
pub mod Marks
