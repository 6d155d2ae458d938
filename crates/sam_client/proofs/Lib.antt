pub mod Packets
pub mod Moves
pub mod DeliveryLaws
pub mod GoingLaws
pub mod BatchLaws
pub mod NoteLaws
