-- The laws of the crate `memory`: its promises, and what the crates above cite.
pub mod Benched
pub mod LastWrite
pub mod Moving
pub mod Promises
