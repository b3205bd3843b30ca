-- `night::Night::start` meets its contract: zero words, zeros stored and kept, a fresh record. Assumes nothing.
use Rattle.night.specs.Night.{at_first}
use Rattle.night.proofs.Night.start.Goals as goal

pub returns : goal.returns
unfolding at_first
returns c = rw c.fresh.ensures
