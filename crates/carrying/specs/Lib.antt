-- What the contracts of the crate `carrying` cite. Answers, Promises and Examples have no module: the first is what
-- each command is answered, which `carry` and `putting` make, the second what is promised of it, the third figures that
-- the checker computes.
pub mod Answers
pub mod Putting
pub mod Carry
pub mod Promises
pub mod Examples
