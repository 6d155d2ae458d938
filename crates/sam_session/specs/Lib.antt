pub mod Replaying
pub mod Threading
pub mod Session
pub mod Moving
