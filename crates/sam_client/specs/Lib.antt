pub mod Faults
pub mod Packets
pub mod Clients
pub mod Delivery
pub mod Notes
pub mod Going
pub mod Batches
