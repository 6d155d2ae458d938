pub mod Common
pub mod SettlingLists
pub mod SettlingRuns
pub mod SettlingClauses
pub mod SettlingLaws
