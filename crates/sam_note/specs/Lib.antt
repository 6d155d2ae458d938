pub mod Kinds
pub mod Messages
pub mod Reading
pub mod Writing
pub mod Calls
pub mod Laws
