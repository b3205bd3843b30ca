-- What a reader has to believe, and nothing else: definitions only. Read them in this order. Promise: the premises,
-- what is promised, and how sends are counted. World: the ends and what can happen. Runs: runs of events. Laws: of
-- which ends the promise holds. Lives: any number of restarts. Tags: the tag rule, and the facts of single calls that
-- give the laws. Wrapped: the same with datagrams in frames. Pair and Example: a pair of ends, and the runs of it that
-- proofs/ computes.
pub mod Promise
pub mod World
pub mod Runs
pub mod Laws
pub mod Lives
pub mod Tags
pub mod Wrapped
pub mod Pair
pub mod Example
