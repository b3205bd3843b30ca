-- What the contracts of the crate `header` cite. The crate's root goes by Header. Examples has no module: it holds
-- figures that the checker computes.
pub mod Limits
pub mod Header
pub mod Refusal
pub mod Examples
