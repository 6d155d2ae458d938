pub mod Making
pub mod Promised
