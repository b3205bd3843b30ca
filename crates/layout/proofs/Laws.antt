-- The laws of the crate `layout`: its promises, and what the crates above cite.
pub mod Benched
pub mod Layout
pub mod Writing
