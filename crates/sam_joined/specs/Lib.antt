pub mod Joined
pub mod Calls
pub mod Linked
pub mod ChangesOverCalls
