pub mod EndCalls
pub mod TypingLaws
pub mod Putting
pub mod Replaying
pub mod ServerEnds
pub mod ServerLaws
