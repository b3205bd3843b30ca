-- A row that came back as sent is one that reads so. Assumes nothing.
use Prim.Native.Nat.{ℕ}
use mathlib.Core.Path.{◌≡◌, ap, ◌∙◌}
use mathlib.Core.Bool.{true}
use mathlib.Core.List.{List}
use Rattle.word.proofs.Same.{same_self}
use Rattle.layout.specs.Layout.{row_of}
use Rattle.table.specs.Attempt.{Told, is_ok, read_row}
use Rattle.table.specs.Promises.{AsSent}
use Rattle.table.proofs.Laws.Attempt.{read_is}

pub sent-on : (told : Told) (i : ℕ) (rows : List ℕ) → AsSent rows told i → read_row rows told i ≡ true
sent-on told i rows s = read_is told i rows ∙ rw (ap is_ok s.0, s.1) (same_self (row_of rows i))
