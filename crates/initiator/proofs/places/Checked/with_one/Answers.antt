-- `initiator::places::Checked::with_one` meets its contract: place by place. Assumes nothing.
use Rattle.initiator.specs.Places.{with_one}
use Rattle.initiator.proofs.places.Checked.with_one.Goals as goal

pub returns : goal.returns
unfolding with_one
returns c = rw (c.answered_at.ensures, c.answered_at-2.ensures, c.answered_at-3.ensures)
