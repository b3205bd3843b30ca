-- The laws of the crate `header`: its promises, and what the crates above cite.
pub mod Header
pub mod Limits
pub mod Refusal
pub mod Worked
