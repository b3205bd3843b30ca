-- What a reader has to believe, and nothing else: definitions only. Public: what "determined" means, and the calls of
-- both ends. Ground: the public functions that these stand on.
pub mod Public
pub mod Ground
