pub mod Common
pub mod Serving
pub mod Playing
pub mod Unique
pub mod Numbers
pub mod Telling
