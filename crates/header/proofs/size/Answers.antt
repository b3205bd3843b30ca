-- `header::size` meets its contract: a header and a body. Assumes nothing.
use Rattle.header.specs.Header.{size_of}
use Rattle.header.proofs.size.Goals as goal

pub returns : goal.returns
unfolding size_of
returns c = simp c.body_words.ensures.value
