-- `layout::writing::Table::add_mark` meets its contract: its command is never refused. Assumes nothing.
use mathlib.Core.Path.{refl}
use mathlib.Core.List.{[]}
use native.Mathlib.Omega.{arith}
use Rattle.word.proofs.Runs.{below_all, below-cons}
use borrow.Author.Rules.{rules}
use Rattle.layout.proofs.Inner.Filling.{mark-added}
use Rattle.layout.proofs.writing.Table.add_mark.Goals as goal

pub returns : goal.returns
returns c =
    let s = c.args.self in
    let e = c.add.ensures in
    λ o tag g. mark-added (below-cons 4294967296 c.args.value [] (omega arith) (below_all 4294967296 [] (λ i. search rules))) s.start c.args.value s.below refl e.0 e.1 g
