-- The laws of the crate `tags`: its promises, and what the crates above cite.
pub mod Record
pub mod Kept
pub mod Promises
pub mod Worked
