-- What the contracts of the crate `loader` cite beside those of the crates below: the forms that C can take.
pub mod Build
pub mod Sending
pub mod Outcome
pub mod Training
pub mod Examples
