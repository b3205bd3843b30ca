-- The laws of the crate `answer`: its promises, and what the crates above cite.
pub mod Accepts
pub mod Fixed
pub mod Giving
pub mod Heads
pub mod Looking
pub mod Refuses
pub mod Worked
