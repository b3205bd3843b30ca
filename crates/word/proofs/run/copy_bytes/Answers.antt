-- `word::run::copy_bytes` meets its contract: two or three words by themselves; else the stage holds the words, whose
-- bytes are those that came. Assumes nothing.
use Prim.Native.Nat.{◌≤◌}
use native.Mathlib.Omega.{arith}
use lib.ListN.{length}
use Rattle.word.specs.Words.{words_of, Bytes}
use Rattle.word.proofs.Crossing.{length-words_of, words-in-front}
use Rattle.word.proofs.Runs.{staged, below_all}
use Rattle.word.proofs.run.copy_bytes.Goals as goal

pub returns-then-n-eq2 : goal.returns-then-n-eq2
returns-then-n-eq2 c = rw c.if-n-eq2.true c.copy_two.ensures

pub returns-then-n-eq3 : goal.returns-then-n-eq3
returns-then-n-eq3 c = rw c.if-n-eq3.true c.copy_three.ensures

pub returns : goal.returns
returns c =
    let a = c.args in
    let bytes : Bytes a.b.now = below_all 256 _ (λ i. omega (arith, c.shared_slice_known-1.given i)) in
    let long : a.n ≤ length (words_of a.b.now) = rw (length-words_of a.b.now) (omega arith) in
    let words = staged _ (words_of a.b.now) a.n long c.gather.ensures in
    words-in-front a.out.now a.b.now a.n bytes (omega arith) words c.spread.ensures
