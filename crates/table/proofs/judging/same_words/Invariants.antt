-- `table::judging::same_words` meets its contract: the first j words are the same. Assumes nothing.
use Prim.Native.Nat.{ℕ, ◌<◌}
use mathlib.Core.Path.{◌≡◌}
use lib.ListN.{get_or}
use Rattle.word.specs.Words.{words_of}
use Rattle.table.proofs.judging.same_words.Given as goal

abbrev pub invariant-loop-j : goal.invariant-loop-j
invariant-loop-j l = (k : ℕ) → k < l.j → get_or (words_of l.part) k 0 ≡ get_or l.row k 0
