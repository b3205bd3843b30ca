-- `initiator::places::Checked::without` meets its contract: place by place. Assumes nothing.
use Rattle.initiator.specs.Places.{without}
use Rattle.initiator.proofs.places.Checked.without.Goals as goal

pub returns : goal.returns
unfolding without
returns c = rw (c.answered_at.ensures, c.answered_at-2.ensures, c.answered_at-3.ensures)
