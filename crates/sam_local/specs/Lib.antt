pub mod Local
pub mod Worlds
pub mod Editing
