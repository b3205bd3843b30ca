-- What proves it. The crates above cite Tagged and Lives, and Promise and Wrapped for other ends than those of Tags;
-- Lists, Runs and Checked's `both_true` are theirs to use too. Tags: tags modulo 16 give the laws, by Stored (what the
-- controller stores), Waiting (what the sender waits for) over Slots, and Rows (message i has the tag i after the
-- first), within Bounds. Keeps: each event keeps an invariant. Pair: the facts of the plain pair. Checked: premises decided for
-- Example, which computes a bad night with four in flight, and for Sharp, which computes what the ages and the window's
-- bound are for.
pub mod Tagged
pub mod Promise
pub mod Wrapped
pub mod Lives
pub mod Quiet
pub mod Tags
pub mod Stored
pub mod Waiting
pub mod Slots
pub mod Rows
pub mod Bounds
pub mod Keeps
pub mod Runs
pub mod Lists
pub mod Pair
pub mod Example
pub mod Sharp
pub mod Checked
