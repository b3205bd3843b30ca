-- `table::judging::same_words` meets its contract: the first j words are the same. Assumes nothing.
use mathlib.Core.Path.{refl, sym, ◌∙◌}
use native.Mathlib.Omega.{arith}
use Rattle.table.proofs.Inner.Comparing.{other_length, other_word, all_same, one_more}
use Rattle.table.proofs.judging.same_words.Goals as goal

pub returns-then-part-row : goal.returns-then-part-row
returns-then-part-row c = let a = c.args in other_length a.part.now a.row.now c.if-part-row.true

pub loop-j-init : goal.loop-j-init
loop-j-init c = λ k h. absurd (omega arith)

pub word_at-requires : goal.word_at-requires
word_at-requires c = omega (arith, c.if-part-row.false)

pub returns-then-word_at-row : goal.returns-then-word_at-row
returns-then-word_at-row c =
    let a = c.args in
    other_word a.part.now a.row.now c.loop-j.j c.word_at.ensures refl c.if-word_at-row.true

pub loop-j-preserved : goal.loop-j-preserved
loop-j-preserved c =
    let l = c.loop-j in
    one_more l.j l.invariant (sym c.word_at.ensures ∙ c.if-word_at-row.false)

pub returns : goal.returns
returns c =
    let a = c.args in
    all_same a.part.now a.row.now c.if-part-row.false (λ k h. c.loop-j.invariant k (omega arith))
