pub mod Lines
pub mod Numbers
pub mod Inputs
pub mod WorkerEnds
pub mod Gates
pub mod Cutting
pub mod Tasks
