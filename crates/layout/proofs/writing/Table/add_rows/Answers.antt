-- `layout::writing::Table::add_rows` meets its contract: a row's command is never refused. Assumes nothing.
use mathlib.Core.Path.{◌≡◌}
use native.Mathlib.Omega.{arith}
use Rattle.layout.specs.Layout.{row_count}
use Rattle.layout.proofs.writing.Table.add_rows.Goals as goal

pub returns-in_err-grown : goal.returns-in_err-grown
returns-in_err-grown c =
    λ o kind tag k g. absurd (c.in_err-grown.ensures o kind tag k (c.loop-i.invariant o kind tag k g))

pub returns : goal.returns
returns c =
    let e : c.loop-i.i ≡ row_count = omega arith in
    rw e at c.loop-i.invariant
