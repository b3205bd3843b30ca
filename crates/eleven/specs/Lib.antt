-- Closed nights, and what they come to: definitions only. Eleven: the eleven restarts. Kept: two nights in which the
-- channel keeps something over a restart.
pub mod Eleven
pub mod Kept
