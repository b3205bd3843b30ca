-- `initiator::sender::sender_from` meets its contract: by its range. Assumes nothing.
use Rattle.word.proofs.Rules.{tests}
use mathlib.Core.Path.{◌≡◌}
use Prim.Native.Nat.{◌≤◌, ◌<◌}
use native.Mathlib.Omega.{arith}
use Rattle.initiator.specs.Sender.{word_ok, next_after}
use Rattle.initiator.proofs.Laws.Starting.{no-sender}
use Rattle.initiator.proofs.sender.sender_from.Goals as goal

pub returns-in-0 : goal.returns-in-0
unfolding word_ok next_after
returns-in-0 c = simp (c.fresh.ensures, c.in-0.is)

pub returns-in-16-to-31 : goal.returns-in-16-to-31
unfolding word_ok next_after
returns-in-16-to-31 c = search (tests, c.idle.ensures, ← c.tag.ensures.value, c.next_tag.ensures.value)

pub returns-in_default : goal.returns-in_default
returns-in_default c = rw c.of.ensures (no-sender c.args.w (λ (z : c.args.w ≡ 0). omega arith) (λ (f : 16 ≤ c.args.w) (g : c.args.w < 32). omega arith))
