-- `word::run::gather` meets its contract. The loop's invariant: the first i words stand at dst's front, and dst keeps its length. Assumes nothing.
use Prim.Native.Nat.{◌≤◌, ◌-◌}
use mathlib.Core.Path.{◌≡◌}
use lib.ListN.{length, take, drop}
use Rattle.word.specs.Words.{words_of, put}
use Rattle.word.proofs.run.gather.Given as goal

abbrev pub invariant-loop-i : goal.invariant-loop-i
invariant-loop-i l = (l.i ≤ l.n) × (l.dst ≡ put l.initial.dst 0 (take l.i (drop l.from (words_of l.b)))) × (length l.dst ≡ length l.initial.dst)

abbrev pub decreases-loop-i : goal.decreases-loop-i
decreases-loop-i l = l.n - l.i
