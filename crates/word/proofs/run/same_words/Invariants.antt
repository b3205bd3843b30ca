-- `word::run::same_words` meets its contract. The loop's invariant: whether the first i words are the same. Assumes nothing.
use Prim.Native.Nat.{◌≤◌, ◌-◌}
use mathlib.Core.Path.{◌≡◌}
use lib.ListN.{take}
use Rattle.word.specs.Words.{words_of, same}
use Rattle.word.proofs.run.same_words.Given as goal

abbrev pub invariant-loop-i : goal.invariant-loop-i
invariant-loop-i l = (l.i ≤ l.n) × (l.so ≡ same (take l.i (words_of l.a)) (take l.i (words_of l.b)))

abbrev pub decreases-loop-i : goal.decreases-loop-i
decreases-loop-i l = l.n - l.i
