-- [13] Lives that load the training table, and what memory holds of it. Assumes nothing.
use Rattle.std.specs.Prelude.{ℕ, suc, ◌+◌, ◌/◌, List, [], ◌∷◌, get_or, take, drop}
use Rattle.completer.specs.Controller.{Controller}
use Rattle.once.specs.Lives.{Life, unheard, begun, Lives, next}
use Rattle.exchange.specs.Ends.{ends}
use Rattle.exchange.specs.Promise.{window}
use Rattle.lives.specs.Lives.{restarts, sender_by, world}
use Rattle.table.specs.Calls.{beginning}
use Rattle.trained.specs.Called.{Calls}

-- the complete word in a memory, and the 24 rows
abbrev pub mark_in : ℕ → List ℕ → ℕ
mark_in start memory = get_or memory (start / 4 + 192) 0

abbrev pub rows_in : ℕ → List ℕ → List ℕ
rows_in start memory = take 192 (drop (start / 4) memory)

-- A life that loads the table, once, with these rows: it makes the table's calls (Called), from the sender that it came
-- to, and offers nothing else.
abbrev pub Loads : ℕ → ℕ → List ℕ → Controller → Life ends → Type 0
Loads start room rows c (unheard xs) = Unit {0}
Loads start room rows c (begun o es) = Calls start room rows (beginning (sender_by o).sender) (world c o []) es

-- Lives that load it one after another, "every life using the same start", each with room and rows of its own:
-- `room n` and `rows n` are those of life n, and the first of these is life n
abbrev pub AllLoad : ℕ → (ℕ → ℕ) → (ℕ → List ℕ) → ℕ → Controller → Lives ends → Type 0
AllLoad start room rows n c [] = Unit {0}
AllLoad start room rows n c (l ∷ ls) =
    Loads start (room n) (rows n) c l.0 × AllLoad start room rows (suc n) (next window restarts c l) ls
