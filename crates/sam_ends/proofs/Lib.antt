pub mod Cutting
pub mod GateLaws
