-- `initiator::places::Checked::waits_for` meets its contract: it waits, and is not answered. Assumes nothing.
use borrow.Author.Tests.{lt-ltb}
use Rattle.word.proofs.Rules.{tests}
use Rattle.initiator.specs.Places.{waits_for}
use Rattle.initiator.proofs.places.Checked.waits_for.Goals as goal

pub returns-then-place-self : goal.returns-then-place-self
unfolding waits_for
returns-then-place-self c = rw (← c.place_in-place.ensures, lt-ltb _ _ c.if-place-self.true, c.answered_at.ensures)

pub returns-else-place-self : goal.returns-else-place-self
unfolding waits_for
returns-else-place-self c = search (tests, ← c.place_in-place.ensures)
