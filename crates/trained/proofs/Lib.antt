-- What proves it. Writing: what each of the four messages makes of memory. Stages: what holds of memory at each stage
-- of an attempt. Counting: where the mark is 24, all four were carried out. Telling: what the outcome of a message
-- tells. Fitting: with room, nothing fails. Going: what an attempt comes to whose outcomes are its messages'.
-- Attempting: one message longer, one outcome longer. Giving: what `message` gave. Keeping: the attempt and the world,
-- event by event. Called: a life that makes the table's calls offers its attempt's messages; and, as Promise and
-- Failing, the theorems of that name. Carried: what ended in OK was carried out, for Failing.
pub mod Writing
pub mod Stages
pub mod Counting
pub mod Telling
pub mod Fitting
pub mod Going
pub mod Attempting
pub mod Giving
pub mod Keeping
pub mod Called
pub mod Promise
pub mod Carried
pub mod Failing
