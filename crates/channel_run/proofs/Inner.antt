-- What one proof of the crate wants.
pub mod Compose
