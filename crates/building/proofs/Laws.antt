-- The laws of the crate `building`: its promises, and what the crates above cite.
pub mod Benched
pub mod Fitting
pub mod Fixed
pub mod Promises
pub mod Reach
pub mod Sequence
