-- `initiator::sender::Sender::checked` meets its contract: both halves of 37. Assumes nothing.
use mathlib.Core.Path.{refl}
use Rattle.initiator.proofs.Laws.Places.{ok-is, ok-not}
use Rattle.initiator.proofs.sender.Sender.checked.Goals as goal

pub returns-then-self-ge-TAGS : goal.returns-then-self-ge-TAGS
returns-then-self-ge-TAGS c = (c.of.ensures, ok-not _ c.then-self-ge-TAGS.either)

pub returns : goal.returns
returns c = (refl, ok-is _ c.if-self-ge-TAGS.false c.if-self-gt-MOST.false)
