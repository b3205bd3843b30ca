-- `word::run::gather` meets its contract. The loop's invariant: the first i words stand at dst's front, and dst keeps its length. Assumes nothing.
use Rattle.word.proofs.Crossing.{length-words_of}
use lib.Seq.{get_or-drop}
use native.Mathlib.Omega.{arith}
use Prim.Native.Nat.{◌+◌, ◌<◌}
use mathlib.Core.Path.{◌≡◌, refl, sym, ◌∙◌}
use lib.ListN.{length, get_or, drop, length-set, length-drop}
use Rattle.word.specs.Words.{words_of}
use Rattle.word.proofs.Runs.{put-none, set_next}
use Rattle.word.proofs.run.gather.Goals as goal

pub loop-i-init : goal.loop-i-init
loop-i-init c = (omega arith, sym (put-none c.args.dst.now 0), refl)

pub loop-i-preserved : goal.loop-i-preserved
loop-i-preserved c =
    let turn = c.loop-i in
    let a = c.args in
    let s = drop a.from (words_of a.b.now) in
    let long : turn.i < length s = rw (length-drop a.from (words_of a.b.now), length-words_of a.b.now) (omega arith) in
    let w : c.word_at.result ≡ get_or s turn.i 0 = c.word_at.ensures ∙ sym (get_or-drop a.from (words_of a.b.now) turn.i 0) in
    let z : 0 + turn.i ≡ turn.i = omega arith in
    (omega arith, rw (turn.invariant.1, w) (rw z at (set_next a.dst.now 0 s turn.i long (omega arith))), simp length-set (omega arith))

pub returns : goal.returns
returns c =
    let turn = c.loop-i in
    let e : turn.i ≡ c.args.n = omega arith in
    turn.invariant.1 ∙ rw e
