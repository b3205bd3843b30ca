-- `word::word_at` meets its contract: a word is found by its number. Assumes nothing.
use native.Mathlib.Omega.{arith}
use Rattle.word.proofs.Crossing.{word-nth}
use Rattle.word.proofs.word_at.Goals as goal

pub returns : goal.returns
returns c =
    let a = c.args in
    omega (arith, word-nth a.b.now a.i (omega arith))
