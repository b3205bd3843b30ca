-- What a reader has to believe, and nothing else: definitions only. Read them in this order. Promise: the theorems.
-- Ends: the two ends and their calls. Terms: messages, memory and what is lent. Outcomes: what an outcome is. Example:
-- a closed night from bytes. Incident: the night that 12 is for. Sharp: three that the premises keep out. Sight: what
-- the facts behind the theorems look at.
pub mod Promise
pub mod Ends
pub mod Terms
pub mod Outcomes
pub mod Example
pub mod Incident
pub mod Sharp
pub mod Sight
