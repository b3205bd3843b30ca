-- The laws of the crate `night`: the nights that the checker computes.
pub mod Example
