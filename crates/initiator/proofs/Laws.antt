-- The laws of the crate `initiator`: its promises, and what the crates above cite.
pub mod Asked
pub mod Benched
pub mod Checked
pub mod Outcomes
pub mod Places
pub mod Promises
pub mod Starting
pub mod Waits
