-- Facts that belong to no one function.
pub mod Laws
pub mod ByNumbers
