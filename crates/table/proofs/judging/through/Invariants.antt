-- `table::judging::through` meets its contract: the first i rows are well. Assumes nothing.
use Prim.Native.Nat.{ℕ, ◌-◌, ◌<◌}
use mathlib.Core.Path.{◌≡◌}
use mathlib.Core.Bool.{Bool}
use Rattle.layout.specs.Layout.{row_count}
use Rattle.table.specs.Attempt.{through}
use Rattle.table.proofs.judging.through.Given as goal

abbrev pub invariant-loop-i : goal.invariant-loop-i
invariant-loop-i g l =
    (well : ℕ → Bool) → ((i : ℕ) (told : Bool) → i < row_count → goal.F-post g l.well i told → told ≡ well i)
    → through well l.on 0 row_count ≡ through well l.on l.i (row_count - l.i)
