-- Laws of words that belong to no one function; the crates above cite them.
pub mod Rules
pub mod Runs
pub mod Parts
pub mod Same
pub mod Crossing
pub mod Places
pub mod Masks
