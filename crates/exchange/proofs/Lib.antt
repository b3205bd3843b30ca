-- What proves it: Promise has the theorems, and Never those about 12. Facts: the two ends meet what `once` asks, from
-- the facts about the loader (Sender and Taking, by what is lent to it: Waiting) and the controller (Controller, by
-- what its call goes by: Going). Begins and Started: the two starts. Codec: what crosses the channel. Counts: how many
-- commands an outcome has. Each: lists by places. Example, Incident and Sharp compute, by the tests of Checked and the
-- call of Quick.
pub mod Promise
pub mod Never
pub mod Facts
pub mod Sender
pub mod Taking
pub mod Waiting
pub mod Controller
pub mod Going
pub mod Begins
pub mod Started
pub mod Codec
pub mod Counts
pub mod Each
pub mod Example
pub mod Incident
pub mod Sharp
pub mod Quick
pub mod Checked
