-- `word::run::paste` meets its contract. The loop's invariant: the first i words stand in dst, which keeps its length. Assumes nothing.
use native.Mathlib.Omega.{arith}
use mathlib.Core.Path.{◌≡◌, refl, sym, ◌∙◌}
use lib.ListN.{length-set}
use Rattle.word.proofs.Runs.{put-none, set_next}
use Rattle.word.proofs.run.paste.Goals as goal

pub loop-i-init : goal.loop-i-init
loop-i-init c = (omega arith, sym (put-none c.args.dst.now c.args.to), refl)

pub loop-i-preserved : goal.loop-i-preserved
loop-i-preserved c =
    let turn = c.loop-i in
    let a = c.args in
    (omega arith, rw turn.invariant.1 (set_next a.dst.now a.to a.src.now turn.i (omega arith) (omega arith)), simp length-set (omega arith))

pub returns : goal.returns
returns c =
    let turn = c.loop-i in
    let e : turn.i ≡ c.args.n = omega arith in
    turn.invariant.1 ∙ rw e
