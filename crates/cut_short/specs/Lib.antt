-- Computed examples of [13], from bytes, beside its theorems (crate `trained`). CutShort: lives that are cut short.
-- Failed: what fails, and what a premise is for.
pub mod CutShort
pub mod Failed
