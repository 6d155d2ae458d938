pub mod Refusing
pub mod Growing
