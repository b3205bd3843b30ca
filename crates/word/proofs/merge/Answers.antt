-- `word::merge` meets its contract: the whole word, or what differs exchanged under the mask. Assumes nothing.
use native.Mathlib.Omega.{arith}
use mathlib.Core.Path.{sym, ap, ◌∙◌}
use Rattle.word.specs.Enables.{merged}
use Rattle.word.proofs.Places.{merge-whole}
use Rattle.word.proofs.Masks.{merge-under}
use Rattle.word.proofs.merge.Goals as goal

pub returns-then-enables-eq15 : goal.returns-then-enables-eq15
returns-then-enables-eq15 c =
    let a = c.args in sym (ap (merged a.old a.new) c.if-enables-eq15.true ∙ merge-whole a.old a.new (omega arith))

pub returns : goal.returns
returns c = let a = c.args in merge-under a.old a.new a.enables (omega arith) (omega arith) c.covered.ensures
