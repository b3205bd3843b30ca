-- `memory::moves::outside` meets its contract: its two tests are the definition's. Assumes nothing.
use borrow.Author.Tests.{eq-eqb, ne_eqb}
use Rattle.memory.specs.Moves.{outside}
use Rattle.memory.proofs.moves.outside.Goals as goal

pub returns-then-address-ne0 : goal.returns-then-address-ne0
unfolding outside
returns-then-address-ne0 c = rw (ne_eqb _ _ c.if-address-ne0.true)

pub returns-else-address-ne0 : goal.returns-else-address-ne0
unfolding outside
returns-else-address-ne0 c = rw (eq-eqb _ _ c.if-address-ne0.false)
