-- The laws of the crate `carrying`: its promises, and what the crates above cite.
pub mod Benched
pub mod Promises
pub mod Putting
