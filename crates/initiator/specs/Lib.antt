-- What the contracts of the crate `initiator` cite, and what is promised of the sender. Promises, Telling, Examples,
-- BenchSheet and Starts have no module: what is promised, what the inside of `told` goes by, and lines that the checker
-- computes.
pub mod Asking
pub mod Outcome
pub mod Telling
pub mod Places
pub mod Sender
pub mod Promises
pub mod Examples
pub mod BenchSheet
pub mod Starts
