-- Laws of the crate, which the crates above cite, and its promises.
pub mod Attempt
pub mod Sent
pub mod Came
pub mod Calls
pub mod Promises
pub mod Benched
