-- What computes it.
pub mod Benched
