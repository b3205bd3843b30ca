-- `word::run::copy_two` meets its contract: the words that are read are the first two. Assumes nothing.
use Prim.Native.Nat.{◌≤◌}
use native.Mathlib.Omega.{arith}
use lib.ListN.{length}
use Rattle.word.specs.Words.{words_of, Bytes}
use Rattle.word.proofs.Crossing.{length-words_of, words-in-front}
use Rattle.word.proofs.Runs.{first_two, below_all}
use Rattle.word.proofs.run.copy_two.Goals as goal

pub returns : goal.returns
returns c =
    let a = c.args in
    let bytes : Bytes a.b.now = below_all 256 _ (λ i. omega (arith, c.shared_slice_known-1.given i)) in
    let long : 2 ≤ length (words_of a.b.now) = rw (length-words_of a.b.now) (omega arith) in
    words-in-front a.out.now a.b.now 2 bytes (omega arith)
    (rw (c.word_at.ensures, c.word_at-2.ensures) (first_two (words_of a.b.now) long))
    c.spread.ensures
