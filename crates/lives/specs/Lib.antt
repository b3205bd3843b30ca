-- What a reader has to believe, and nothing else: definitions only. Lives: how a loader begins and how a controller
-- comes up, and the theorems. TaggedAnew: what a message does does not depend on its tag. Mistaken: a hazard, and what
-- cures it.
pub mod Lives
pub mod TaggedAnew
pub mod Mistaken
