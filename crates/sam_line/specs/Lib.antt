pub mod Clock
pub mod Greeting
pub mod Question
pub mod Line
pub mod Receiving
pub mod Calls
pub mod Laws
pub mod Sessions
