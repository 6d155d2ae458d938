pub mod Common
pub mod ApartTurns
pub mod RealLaws
pub mod ApartKinds
pub mod ApartJoins
pub mod ApartWalk
pub mod ApartLaws
