-- `initiator::sender::Sender::answered_at` meets its contract: it waits, and its mark. Assumes nothing.
use Rattle.word.proofs.Rules.{tests}
use Rattle.initiator.specs.Places.{answered_at}
use Rattle.initiator.proofs.sender.Sender.answered_at.Goals as goal

pub returns-then-place-self : goal.returns-then-place-self
unfolding answered_at
returns-then-place-self c = search (tests, c.mark_at.ensures)

pub returns-else-place-self : goal.returns-else-place-self
unfolding answered_at
returns-else-place-self c = search tests
