-- `table::judging::through` meets its contract: the first i rows are well. Assumes nothing.
use mathlib.Core.Path.{sym}
use mathlib.Core.Bool.{true, false}
use native.Mathlib.Omega.{arith}
use Rattle.table.proofs.Inner.Turns.{turn_on, turn-bad, turn_end}
use Rattle.table.proofs.judging.through.Goals as goal

pub returns-then-not-well : goal.returns-then-not-well
returns-then-not-well g c =
    let l = c.loop-i in
    λ w tells. turn-bad w c.args.on l.i (l.invariant w tells) (omega arith) (sym (tells l.i false (omega arith) c.if-not-well.ensures))

pub loop-i-preserved : goal.loop-i-preserved
loop-i-preserved g c =
    let l = c.loop-i in
    λ w tells. turn_on w c.args.on l.i (l.invariant w tells) (omega arith) (sym (tells l.i true (omega arith) c.if-not-well.ensures))

pub returns : goal.returns
returns g c = let l = c.loop-i in λ w tells. turn_end w c.args.on l.i (l.invariant w tells) (omega arith)
