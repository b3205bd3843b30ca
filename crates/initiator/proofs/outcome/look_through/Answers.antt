-- `initiator::outcome::look_through` meets its contract. The loop's invariant: what was told and what is still to come make the whole. Assumes nothing.
use mathlib.Core.Path.{sym, ◌∙◌, ap}
use native.Mathlib.Omega.{arith}
use Rattle.word.proofs.Crossing.{length-words_of}
use Rattle.std.specs.Prelude.{Ok}
use Rattle.std.proofs.lemmas.Result.{err_from_is_err_and}
use Rattle.initiator.proofs.Inner.Sides.{next, sides-starts, sides-bad, sides-found, sides-last, sides-next}
use Rattle.initiator.proofs.outcome.look_through.Goals as goal

pub loop-seen-init : goal.loop-seen-init
loop-seen-init c = sides-starts _ _ _ _ c.requires.ready c.requires.answer_len_bound

pub look_beside-requires : goal.look_beside-requires
look_beside-requires c = record { at_in_bounds = (omega (arith, (next c.loop-seen.invariant).here, length-words_of c.args.request.now)); back_le_limit = let g = c.loop-seen.invariant in omega (arith, g.within, g.most) }

pub returns-in_err-seen : goal.returns-in_err-seen
returns-in_err-seen c =
    let p = err_from_is_err_and c.from_residual.result c.from_residual.ensures.1 in
    rw (p.1, p.2) (sides-bad c.loop-seen.invariant _ (sym c.look_beside.ensures ∙ c.in_err-seen.was))

pub with_item-told-requires : goal.with_item-told-requires
with_item-told-requires c =
    let g = c.loop-seen.invariant in
    (omega (arith, g.counted, g.within, g.most), omega (arith, g.within, g.most), (sides-found g _ (sym c.look_beside.ensures ∙ c.in_ok-seen.was)).small)

pub returns-then-seen : goal.returns-then-seen
returns-then-seen c =
    ap Ok (rw c.kind_of-kind.ensures at c.with_item-told.ensures) ∙ sides-last c.loop-seen.invariant _ (sym c.look_beside.ensures ∙ c.in_ok-seen.was) c.if-seen.true

pub overflow_add-at : goal.overflow_add-at
overflow_add-at c = omega (arith, (next c.loop-seen.invariant).here, length-words_of c.args.request.now)

pub body_at-requires : goal.body_at-requires
body_at-requires c = (omega (arith, (next c.loop-seen.invariant).here, length-words_of c.args.request.now))

pub overflow_add-at-in-loop-seen : goal.overflow_add-at-in-loop-seen
overflow_add-at-in-loop-seen c =
    omega (arith, (next c.loop-seen.invariant).here, length-words_of c.args.request.now, c.body_at.ensures.below)

pub overflow_add-back : goal.overflow_add-back
overflow_add-back c =
    let g = c.loop-seen.invariant in
    omega (arith, (sides-found g _ (sym c.look_beside.ensures ∙ c.in_ok-seen.was)).small)

pub overflow_add-back-in-loop-seen : goal.overflow_add-back-in-loop-seen
overflow_add-back-in-loop-seen c =
    let g = c.loop-seen.invariant in
    omega (arith, g.within, g.most, (sides-found g _ (sym c.look_beside.ensures ∙ c.in_ok-seen.was)).small)

pub loop-seen-smaller : goal.loop-seen-smaller
loop-seen-smaller c = omega (arith, (next c.loop-seen.invariant).here)

pub loop-seen-preserved : goal.loop-seen-preserved
loop-seen-preserved c =
    sides-next c.loop-seen.invariant _ (sym c.look_beside.ensures ∙ c.in_ok-seen.was) c.body_at.ensures.value (rw c.kind_of-kind.ensures at c.with_item-told.ensures) c.if-seen.false
