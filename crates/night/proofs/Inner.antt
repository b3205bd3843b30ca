-- What the proofs of the crate `night` cite among themselves.
pub mod Decimal
pub mod Written
pub mod Turns
