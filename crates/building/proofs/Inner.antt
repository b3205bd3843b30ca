-- What only the proofs of the crate `building` cite.
pub mod Passed
pub mod Placing
pub mod Shapes
