-- `initiator::outcome::with_item` meets its contract: the answer of command k, or another. Assumes nothing.
use borrow.Author.Tests.{eq-eqb, ne_eqb}
use Rattle.initiator.specs.Telling.{with_item}
use Rattle.initiator.proofs.outcome.with_item.Goals as goal

pub returns-then-told-k : goal.returns-then-told-k
unfolding with_item
returns-then-told-k c = simp (ne_eqb _ _ c.if-told-k.true)

pub returns : goal.returns
unfolding with_item
returns c = simp (eq-eqb _ _ c.if-told-k.false, c.part_of.ensures)
