-- The laws of the crate `loader`: its promises.
pub mod Build
pub mod Training
pub mod Benched
