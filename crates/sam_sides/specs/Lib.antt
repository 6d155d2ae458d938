pub mod Given
pub mod Logs
pub mod Sides
pub mod RealSides
