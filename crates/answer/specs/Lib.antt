-- What the contracts of the crate `answer` cite: document 01's rules of an answer. The crate's root goes by Answer.
-- Discovery, Promises, Exactly and Examples have no module: the answer that a sender starts from, that judging and
-- encoding are inverse, the refusals in their own words, and answers that the checker computes.
pub mod Answer
pub mod Discovery
pub mod Promises
pub mod Exactly
pub mod Examples
