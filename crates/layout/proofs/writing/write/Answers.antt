-- `layout::writing::write` meets its contract: refused by the set-up, by begin, or made. Assumes nothing.
use Rattle.std.proofs.Common.{◌≡◌, Err}
use mathlib.Core.Path.{◌∙◌}
use native.Mathlib.Omega.{arith}
use Rattle.header.specs.Refusal.{refusal}
use Rattle.header.proofs.Laws.Refusal.{ok_of}
use borrow.Author.Rules.{rules}
use Rattle.layout.specs.Layout.{set_up_fault}
use Rattle.layout.proofs.Inner.Making.{set-up-stops, begin-stops, fill-goes, close-goes, closed-few, made-well}
use Rattle.layout.proofs.Laws.Layout.{placed}
use Rattle.layout.proofs.writing.write.Goals as goal

pub returns-in_err-set_up : goal.returns-in_err-set_up
returns-in_err-set_up c =
    let s = c.args in
    let e : c.from_residual.result ≡ Err c.in_err-set_up.field-0.0 = search rules in
    rw e (set-up-stops s.stage s.tag s.start s.room s.rows.now s.out.now c.in_err-set_up.ensures)

pub returns-in_err-begun : goal.returns-in_err-begun
returns-in_err-begun c =
    let s = c.args in
    let e : c.from_residual-in_err-begun.result ≡ Err c.in_err-begun.field-0.0 = search rules in
    rw e
    (begin-stops s.stage s.tag s.start s.room s.rows.now s.out.now c.in_ok-set_up.ensures (c.from.ensures.0 ∙ rw c.kind_at.ensures) c.in_err-begun.ensures)

pub invariant_of-table : goal.invariant_of-table
invariant_of-table c =
    let s = c.args in
    record { below = (placed s.start s.room (ok_of (refusal (set_up_fault s.start s.room)) tt c.in_ok-set_up.ensures).0).below }

pub returns-in_err-filled : goal.returns-in_err-filled
returns-in_err-filled c =
    let s = c.args in
    absurd
    (fill-goes s.stage s.tag s.start s.room s.rows.now s.out.now c.in_ok-set_up.ensures (c.from.ensures.0 ∙ rw c.kind_at.ensures) c.in_ok-begun.ensures c.in_err-filled.field-0.0 c.fill.new.out c.in_err-filled.ensures)

pub returns-in_err-closed : goal.returns-in_err-closed
returns-in_err-closed c =
    let s = c.args in
    absurd
    (close-goes s.stage s.tag s.start s.room s.rows.now s.out.now c.in_ok-set_up.ensures (c.from.ensures.0 ∙ rw c.kind_at.ensures) c.in_ok-begun.ensures _ _ c.in_ok-filled.ensures c.in_err-closed.ensures.0)

pub overflow_mul-result : goal.overflow_mul-result
overflow_mul-result c =
    let s = c.args in
    let n =
    closed-few s.stage s.tag s.start s.room s.rows.now s.out.now c.in_ok-set_up.ensures (c.from.ensures.0 ∙ rw c.kind_at.ensures) c.in_ok-begun.ensures _ _ c.in_ok-filled.ensures c.in_ok-closed.ensures.0 in
    omega (arith, n)

pub returns : goal.returns
returns c =
    let s = c.args in
    made-well s.stage s.tag s.start s.room s.rows.now s.out.now c.in_ok-set_up.ensures (c.from.ensures.0 ∙ rw c.kind_at.ensures) c.in_ok-begun.ensures _ _ c.in_ok-filled.ensures c.in_ok-closed.ensures.0 c.close.ensures.1
