-- `channel_run::build_one` meets its contract: what the three calls gave. Assumes nothing.
use Rattle.std.proofs.Common.{◌≡◌, Err, rules, [], ◌∷◌}
use native.Mathlib.Omega.{arith}
use Rattle.word.proofs.Runs.{below_all, below-cons}
use Rattle.building.specs.Reach.{Lent}
use Rattle.channel_run.proofs.Inner.Compose.{begin-stops, add-stops, close-goes, few, built}
use Rattle.channel_run.proofs.build_one.Goals as goal

pub returns-in_err-begun : goal.returns-in_err-begun
returns-in_err-begun c =
    let s = c.args in
    let e : c.from_residual.result ≡ Err c.in_err-begun.field-0.0 = search rules in
    rw e (begin-stops _ s.tag s.asked s.word c.requires c.in_err-begun.ensures)

pub returns-in_err-added : goal.returns-in_err-added
returns-in_err-added c =
    let s = c.args in
    let e : c.from_residual-in_err-added.result ≡ Err c.in_err-added.field-0.0 = search rules in
    rw e (add-stops _ s.tag s.asked s.word c.requires c.in_ok-begun.ensures c.in_err-added.ensures.0)

pub returns-in_err-closed : goal.returns-in_err-closed
returns-in_err-closed c =
    let s = c.args in
    let l : Lent s.asked (s.word ∷ []) = record { address = search rules; words = below-cons 4294967296 s.word [] (omega arith) (below_all 4294967296 [] (λ i. omega arith)) } in
    absurd (close-goes _ s.tag s.asked s.word c.requires c.in_ok-begun.ensures l c.in_ok-added.ensures.0 c.add.ensures.1 c.in_err-closed.ensures.0)

pub overflow_mul-result : goal.overflow_mul-result
overflow_mul-result c =
    let s = c.args in
    let l : Lent s.asked (s.word ∷ []) = record { address = search rules; words = below-cons 4294967296 s.word [] (omega arith) (below_all 4294967296 [] (λ i. omega arith)) } in
    let n = few _ s.tag s.asked s.word c.requires c.in_ok-begun.ensures l c.in_ok-added.ensures.0 c.add.ensures.1 c.in_ok-closed.ensures.0 in
    omega (arith, n)

pub returns : goal.returns
returns c =
    let s = c.args in
    let l : Lent s.asked (s.word ∷ []) = record { address = search rules; words = below-cons 4294967296 s.word [] (omega arith) (below_all 4294967296 [] (λ i. omega arith)) } in
    built _ s.tag s.asked s.word c.requires c.in_ok-begun.ensures l c.in_ok-added.ensures.0 c.add.ensures.1 c.in_ok-closed.ensures.0 c.close.ensures.1
