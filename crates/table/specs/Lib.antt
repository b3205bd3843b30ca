-- What the contracts of the crate `table` cite. Attempt: what follows from what an answer tells. Calls: the next
-- message, and taking an answer. Comparing has no function of its own: what the calls inside `take` go by. Promises:
-- [13]'s words about both, said of any outcomes and any calls at all. Examples, Messages and Answers: lines that the
-- checker computes.
pub mod Attempt
pub mod Calls
pub mod Comparing
pub mod Promises
pub mod Examples
pub mod Messages
pub mod Answers
