-- `word::run::spread` meets its contract. The loop's invariant: the first i words stand in out, which keeps its length. Assumes nothing.
use lib.Seq.{length-take-le}
use native.Mathlib.Omega.{arith}
use Prim.Native.Nat.{◌+◌}
use mathlib.Core.Path.{◌≡◌, refl, sym, ◌∙◌}
use lib.ListN.{take}
use Rattle.word.specs.Words.{put_words}
use Rattle.word.proofs.Runs.{words-none, words-next, length-words}
use Rattle.word.proofs.run.spread.Goals as goal

pub loop-i-init : goal.loop-i-init
loop-i-init c = (omega arith, sym (words-none c.args.out.now c.args.to), refl)

pub loop-i-preserved : goal.loop-i-preserved
loop-i-preserved c =
    let turn = c.loop-i in
    let a = c.args in
    let next : c.put_word.new.out ≡ put_words a.out.now a.to (take (turn.i + 1) a.src.now) =
    rw (c.put_word.ensures, turn.invariant.1) (words-next a.out.now a.to a.src.now turn.i (omega arith) (omega arith)) in
    (omega arith, next, rw next (length-words a.out.now a.to (take (turn.i + 1) a.src.now) (omega (arith, length-take-le (turn.i + 1) a.src.now (omega arith)))))

pub returns : goal.returns
returns c =
    let turn = c.loop-i in
    let e : turn.i ≡ c.args.n = omega arith in
    turn.invariant.1 ∙ rw e
