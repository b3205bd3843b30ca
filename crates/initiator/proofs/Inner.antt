-- What only the proofs of the crate `initiator` cite.
pub mod Parts
pub mod Sending
pub mod Sides
pub mod Told
