-- What the contracts of the crate `word` cite. The crate's root goes by Words and Enables; its module `run`, runs of
-- words, by Words too. Promises has no module: what is promised of words and bytes in other words.
pub mod Words
pub mod Enables
pub mod Promises
