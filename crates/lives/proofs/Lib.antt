-- What proves it. Lives: the theorems, from `once` and `exchange`. TaggedAnew and Others: those of their own files of
-- specs/. Example computes.
pub mod Lives
pub mod TaggedAnew
pub mod Others
pub mod Example
