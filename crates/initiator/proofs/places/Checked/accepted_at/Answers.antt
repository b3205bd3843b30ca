-- `initiator::places::Checked::accepted_at` meets its contract: the oldest, or a younger one. Assumes nothing.
use borrow.Author.Tests.{ne_eqb}
use Rattle.initiator.specs.Sender.{accepted_at}
use Rattle.initiator.proofs.places.Checked.accepted_at.Goals as goal

pub returns-then-place-ne0 : goal.returns-then-place-ne0
unfolding accepted_at
returns-then-place-ne0 c = rw (c.marked.ensures, ne_eqb _ 0 c.if-place-ne0.true)

pub returns : goal.returns
unfolding accepted_at
returns c = rw (c.without.ensures, c.ending-ended.ensures.value, c.if-place-ne0.false)
