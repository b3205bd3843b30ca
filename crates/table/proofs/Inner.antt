-- What one proof of the crate wants.
pub mod Comparing
pub mod Turns
pub mod Taken
pub mod Making
