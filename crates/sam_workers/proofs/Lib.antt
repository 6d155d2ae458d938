pub mod Common
pub mod HostWhole
pub mod Passes
pub mod Feeds
pub mod ApartTurns
pub mod HostSide
pub mod HostCounts
