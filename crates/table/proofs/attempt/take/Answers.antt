-- `table::attempt::take` meets its contract: refused by the sender, or accepted. Assumes nothing.
use Rattle.std.proofs.Common.{◌≡◌, Err, rules}
use Rattle.table.proofs.Inner.Taken.{refused, accepted}
use Rattle.table.proofs.attempt.take.Goals as goal

pub returns-in_err-progress : goal.returns-in_err-progress
returns-in_err-progress c =
    let e : c.from_residual.result ≡ Err c.in_err-progress.field-0.0 = search rules in
    rw e (refused _ _ _ _ c.in_err-progress.ensures)

pub returns : goal.returns
returns c = accepted _ _ _ _ c.in_ok-progress.ensures c.next_by.ensures
