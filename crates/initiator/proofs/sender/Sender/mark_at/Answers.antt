-- `initiator::sender::Sender::mark_at` meets its contract: by its places. Assumes nothing.
use mathlib.Core.Path.{◌≡◌}
use native.Mathlib.Omega.{arith}
use Rattle.initiator.specs.Places.{mark_at}
use Rattle.initiator.proofs.Laws.Places.{mark-none}
use Rattle.initiator.proofs.sender.Sender.mark_at.Goals as goal

pub returns-in-1 : goal.returns-in-1
unfolding mark_at
returns-in-1 c = rw c.in-1.is

pub returns-in-2 : goal.returns-in-2
unfolding mark_at
returns-in-2 c = rw c.in-2.is

pub returns-in-3 : goal.returns-in-3
unfolding mark_at
returns-in-3 c = rw c.in-3.is

pub returns-in_default : goal.returns-in_default
returns-in_default c = mark-none _ _ (λ (z : c.args.place ≡ 1). omega arith) (λ (z : c.args.place ≡ 2). omega arith) (λ (z : c.args.place ≡ 3). omega arith)
