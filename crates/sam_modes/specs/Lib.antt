pub mod Limits
pub mod Start
pub mod Serving
pub mod Outcome
pub mod Pieces
pub mod Status
pub mod Words
pub mod Causes
