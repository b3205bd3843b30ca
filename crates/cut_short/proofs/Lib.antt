-- What is computed: Example the lives of CutShort, Sharp what fails, by the tests of Checked. Benched: what they open.
pub mod Checked
pub mod Benched
pub mod Example
pub mod Sharp
