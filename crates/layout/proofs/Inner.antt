-- What one proof of the crate wants.
pub mod Commands
pub mod Wanted
pub mod Filling
pub mod Making
