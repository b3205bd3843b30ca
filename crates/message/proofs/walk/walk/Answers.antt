-- `message::walk::walk` meets its contract: a right length, then the commands. Assumes nothing.
use mathlib.Core.Path.{◌∙◌}
use native.Mathlib.Omega.{arith}
use Rattle.word.proofs.Rules.{flag-on, flag_off}
use Rattle.header.proofs.Laws.Refusal.{check-passed, check-failed}
use Rattle.header.proofs.Laws.Limits.{right}
use Rattle.message.proofs.Laws.Going.{walk-long, walk-whole}
use Rattle.std.proofs.Common.{rules}
use Rattle.message.proofs.walk.walk.Goals as goal

pub returns-in_err-check : goal.returns-in_err-check
returns-in_err-check c = rw (← walk-long _ (flag_off c.length_ok.ensures (check-failed _ _ c.in_err-check.ensures))) (search rules)

pub bounds-datagram-0 : goal.bounds-datagram-0
bounds-datagram-0 c = omega (arith, (right _ (flag-on c.length_ok.ensures (check-passed _ _ c.in_ok-check.ensures))).some)

pub walk_on-requires : goal.walk_on-requires
walk_on-requires c = (right _ (flag-on c.length_ok.ensures (check-passed _ _ c.in_ok-check.ensures))).most

pub returns : goal.returns
returns c =
    c.walk_on.ensures ∙ walk-whole _ _ (flag-on c.length_ok.ensures (check-passed _ _ c.in_ok-check.ensures)) c.from.ensures
