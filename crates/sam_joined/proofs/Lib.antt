pub mod Words
pub mod Joining
pub mod Carrying
pub mod Calling
pub mod Linking
pub mod Soundness
pub mod ChangesOverCalls
