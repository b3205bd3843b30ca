-- The controller in figures, over the definitions that the contract of `serve` cites. BenchSheet: document 01's lines.
-- Examples: more calls. Lent: what calls leave in what is lent, which lengths are let by, and where the places stand.
pub mod BenchSheet
pub mod Examples
pub mod Lent
