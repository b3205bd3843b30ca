-- What the contracts of the crate `tags` cite. Promises and Examples have no module: the one says it again, the other
-- holds figures that the checker computes.
pub mod Record
pub mod Rule
pub mod Promises
pub mod Examples
