pub mod Checksums
pub mod Records
pub mod Files
pub mod Laws
