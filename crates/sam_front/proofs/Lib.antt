pub mod LoaderLaws
pub mod TaskLaws
pub mod FrontLaws
pub mod RunLaws
pub mod RunningLaws
