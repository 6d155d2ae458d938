pub mod Handles
pub mod ClientStatus
pub mod Clients
