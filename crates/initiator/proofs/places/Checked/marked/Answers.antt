-- `initiator::places::Checked::marked` meets its contract: place by place. Assumes nothing.
use Rattle.initiator.specs.Places.{marked}
use Rattle.initiator.proofs.places.Checked.marked.Goals as goal

pub returns : goal.returns
unfolding marked
returns c = rw (c.this_or_answered.ensures, c.this_or_answered-2.ensures, c.this_or_answered-3.ensures)
