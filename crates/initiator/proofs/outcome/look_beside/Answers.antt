-- `initiator::outcome::look_beside` meets its contract, by the header read. Assumes nothing.
use Rattle.initiator.specs.Telling.{look_beside}
use Rattle.initiator.proofs.outcome.look_beside.Goals as goal

pub returns : goal.returns
unfolding look_beside
returns c = simp (c.look_at.ensures, c.last.ensures, c.count.ensures.value, c.word_at-h.ensures)
