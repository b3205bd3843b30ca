-- What the contracts of the crate `layout` cite. Layout: where the table stands, and its four messages. Writing: a
-- message of it in a lent output. Filling has no function of its own: what the calls inside `write` go by.
-- Examples: both in figures, which the checker computes.
pub mod Layout
pub mod Writing
pub mod Filling
pub mod Examples
