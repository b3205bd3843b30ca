-- What the contracts of the crate `memory` cite. Promises, what is promised of memory, and Examples, figures that the
-- checker computes, have no module.
pub mod Moves
pub mod Promises
pub mod Examples
