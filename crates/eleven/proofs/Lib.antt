-- What computes them: Example the eleven, Sharp the other two, by the tests of Checked.
pub mod Example
pub mod Sharp
pub mod Checked
