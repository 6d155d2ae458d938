pub mod Checksums
pub mod FileLaws
pub mod Fronts
pub mod HeadLaws
pub mod Readings
pub mod Records
pub mod Standing
pub mod Spelling
