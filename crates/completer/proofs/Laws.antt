-- The laws of the crate `completer`: its promises, and what the crates above cite.
pub mod Called
pub mod Served
pub mod Discovered
