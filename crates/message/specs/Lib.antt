-- What the contracts of the crate `message` cite: document 01's rules of a request. Request, Promises, Exactly and
-- Examples have no module of their name: the first is what `walk` reads, the second says that reading and writing are
-- inverse, the third says the refusals in their own words, the fourth holds datagrams that the checker computes.
pub mod Address
pub mod Faults
pub mod Request
pub mod Walk
pub mod Discovery
pub mod Promises
pub mod Exactly
pub mod Examples
