-- `layout::writing::Table::fill` meets its contract: by the stage. Assumes nothing.
use Rattle.layout.proofs.Inner.Filling.{fill-rows}
use Rattle.layout.proofs.writing.Table.fill.Goals as goal

pub returns-in-Clear : goal.returns-in-Clear
returns-in-Clear c = rw c.in-Clear.is c.add_mark.ensures

pub returns-in-Rows : goal.returns-in-Rows
returns-in-Rows c =
    fill-rows c.args.self.start c.args.self.rows.now _ _ _ _ c.in-Rows.is c.add_rows.ensures

pub returns-in-Mark : goal.returns-in-Mark
returns-in-Mark c = rw c.in-Mark.is c.add_mark-in-Mark.ensures
