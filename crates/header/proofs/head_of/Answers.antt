-- `header::head_of` meets its contract: field by field. Assumes nothing.
use Rattle.header.specs.Header.{head_of}
use Rattle.header.proofs.head_of.Goals as goal

pub returns : goal.returns
unfolding head_of
returns c = simp (c.byte1.ensures.value, c.count.ensures.value, c.body_words.ensures.value, c.last.ensures)
