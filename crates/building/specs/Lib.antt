-- What the contracts of the crate `building` cite. Reach, Promises, Sequence, Discovery, Examples and BenchSheet have
-- no module: they say which records calls give, what a refused call leaves, that what is built is what is read, that
-- the fixed discovery can be built, and lines that the checker computes.
pub mod Record
pub mod Asked
pub mod Build
pub mod Reach
pub mod Promises
pub mod Sequence
pub mod Discovery
pub mod Examples
pub mod BenchSheet
