-- What the contracts of the crate `night` cite: Text is its module `text`, Night the crate's root. Examples has no
-- module: nights from bytes, which the checker computes.
pub mod Text
pub mod Night
pub mod Examples
