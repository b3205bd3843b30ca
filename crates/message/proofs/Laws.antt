-- The laws of the crate `message`: its promises, and what the crates above cite.
pub mod Addresses
pub mod Back
pub mod Exactly
pub mod Faults
pub mod Fixed
pub mod Going
pub mod Pieces
pub mod Round
pub mod Standing
pub mod Worked
