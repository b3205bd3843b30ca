-- `layout::writing::Table::add_row` meets its contract: its command is never refused. Assumes nothing.
use Rattle.layout.proofs.Inner.Filling.{row-added}
use Rattle.layout.proofs.writing.Table.add_row.Goals as goal

pub returns : goal.returns
returns c =
    let s = c.args.self in
    let e = c.add.ensures in
    let w = c.row_of-row.ensures in
    λ o kind tag k g.
    row-added w.words s.start _ c.args.i c.requires s.below w.value e.0 e.1 k g
