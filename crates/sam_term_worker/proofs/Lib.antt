pub mod Common
pub mod TermSteps
pub mod TermKeeping
pub mod TermTaking
