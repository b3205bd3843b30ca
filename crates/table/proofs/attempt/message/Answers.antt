-- `table::attempt::message` meets its contract: refused, or the message of its stage. Assumes nothing.
use Rattle.std.proofs.Common.{◌≡◌, Err, rules}
use mathlib.Core.Path.{sym}
use lib.Seq.{length-take-le}
use Rattle.table.proofs.Inner.Making.{refuses, write-goes, fits, makes}
use Rattle.table.proofs.attempt.message.Goals as goal

pub returns-in_err-stage : goal.returns-in_err-stage
returns-in_err-stage c =
    let a = c.args in
    let e : c.from_residual.result ≡ Err c.in_err-stage.field-0.0 = search rules in
    rw e (refuses a.attempt a.start a.room a.rows.now a.out.now c.in_err-stage.ensures)

pub returns-in_err-length : goal.returns-in_err-length
returns-in_err-length c =
    let a = c.args in
    absurd
    (write-goes a.attempt a.start a.room a.rows.now a.out.now c.in_ok-stage.ensures (search rules) c.in_err-length.ensures.0)

pub slice_bounds-offer-end : goal.slice_bounds-offer-end
slice_bounds-offer-end c =
    let a = c.args in
    fits a.attempt a.start a.room a.rows.now a.out.now c.in_ok-stage.ensures (search rules) c.in_ok-length.ensures.0 c.write.ensures.1

pub slice_bounds-offer-end-2 : goal.slice_bounds-offer-end-2
slice_bounds-offer-end-2 c =
    let a = c.args in
    sym
    (length-take-le _ _
    (fits a.attempt a.start a.room a.rows.now a.out.now c.in_ok-stage.ensures (search rules) c.in_ok-length.ensures.0 c.write.ensures.1))

pub returns : goal.returns
returns c =
    let a = c.args in
    makes a.attempt a.start a.room a.rows.now a.out.now c.in_ok-stage.ensures (search rules) c.in_ok-length.ensures.0 c.write.ensures.1 (rw c.offer.ensures at c.unwrap_or-sender.ensures)
