-- What is asked for of each command of the table's messages: the row's or the mark's. Filling.antt cites it. Assumes
-- nothing.
use Prim.Native.Nat.{ℕ}
use Rattle.building.specs.declared.asked.Asked.{Asked}
use Rattle.layout.specs.Layout.{row_address, mark_address}

abbrev pub row_asked : ℕ → ℕ → Asked
row_asked start i = record { address = row_address start i; first = 15; last = 15; count = 8 }

abbrev pub mark_asked : ℕ → Asked
mark_asked start = record { address = mark_address start; first = 15; last = 0; count = 1 }
