-- `word::run::same_words` meets its contract. The loop's invariant: whether the first i words are the same. Assumes nothing.
use native.Mathlib.Omega.{arith}
use native.Mathlib.Numerals.{add-one}
use Prim.Native.Nat.{◌<◌}
use mathlib.Core.Path.{◌≡◌, refl, ◌∙◌}
use lib.ListN.{length}
use Rattle.word.specs.Words.{words_of, Bytes, same}
use Rattle.word.proofs.Crossing.{length-words_of}
use Rattle.word.proofs.Runs.{below_all}
use Rattle.word.proofs.Same.{same_runs, same_next}
use Rattle.word.proofs.run.same_words.Goals as goal

pub loop-i-init : goal.loop-i-init
unfolding same
loop-i-init c = (omega arith, refl)

pub loop-i-preserved : goal.loop-i-preserved
loop-i-preserved c =
    let turn = c.loop-i in
    let a = c.args in
    let x = words_of a.a.now in
    let y = words_of a.b.now in
    let lx : turn.i < length x = rw (length-words_of a.a.now) (omega arith) in
    let ly : turn.i < length y = rw (length-words_of a.b.now) (omega arith) in
    let next = rw (← add-one turn.i) at (same_next turn.i x y lx ly) in
    (omega arith, c.alike-so.ensures ∙ rw (turn.invariant.1, c.word_at.ensures, c.word_at-in-loop-i.ensures) next)

pub returns : goal.returns
returns c =
    let turn = c.loop-i in
    let a = c.args in
    let e : turn.i ≡ a.n = omega arith in
    let p : Bytes a.a.now = below_all 256 _ (λ i. omega (arith, c.shared_slice_known-1.given i)) in
    let q : Bytes a.b.now = below_all 256 _ (λ i. omega (arith, c.shared_slice_known-2-1.given i)) in
    turn.invariant.1 ∙ rw e (same_runs a.n a.a.now a.b.now p q (omega arith) (omega arith))
