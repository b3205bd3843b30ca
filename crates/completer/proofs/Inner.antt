-- What only the proofs of the crate `completer` cite.
pub mod Verdicts
