pub mod Common
pub mod Sessions
pub mod SessionLaws
pub mod Scripts
