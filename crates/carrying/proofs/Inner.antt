-- What only the proofs of the crate `carrying` cite.
pub mod OneCommand
pub mod Underway
