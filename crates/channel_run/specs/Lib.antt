-- What the contracts of the crate `channel_run` cite beside those of both ends: Bytes is the crate's root.
pub mod Bytes
pub mod Controller
pub mod Loader
pub mod Night
pub mod Script
