-- What a reader has to believe, and nothing else: definitions only. Read them in this order.
-- Promise: the theorems. Loading: which lives load the table, and what memory holds of it. Called: the calls that they
-- make. Attempts and Failing: an attempt that fails, with any controller whose outcomes are true.
pub mod Promise
pub mod Loading
pub mod Called
pub mod Attempts
pub mod Failing
