-- `layout::writing::Table::add_rows` meets its contract. The loop's invariant: the first i are added. Assumes nothing.
use Rattle.std.proofs.Common.{Ok}
use Rattle.layout.specs.Filling.{RowsAdded}
use Rattle.layout.proofs.writing.Table.add_rows.Given as goal

abbrev pub invariant-loop-i : goal.invariant-loop-i
invariant-loop-i l = RowsAdded l.self.start l.self.rows.now l.i l.initial.grown l.initial.out (Ok l.grown) l.out
