-- What the calls inside `take` go by; nobody else needs to read it. Assumes nothing.
use Rattle.std.specs.Prelude.{ℕ, ◌<◌, ◌≡◌, Bool, List}
use Rattle.word.specs.Words.{bytes_of, Words, same}
use Rattle.layout.specs.Layout.{row_count}
use Rattle.table.specs.declared.attempt.Next.{Next}
use Rattle.table.specs.Attempt.{through}

-- a part of an answer, compared with words
abbrev pub Compares : List ℕ → List ℕ → Bool → Type 0
Compares part row r = (ws : List ℕ) → Words ws → part ≡ bytes_of ws → r ≡ same ws row

-- all 24 rows gone through by a test that is known by its results, whatever tells the same of each row
abbrev pub Goes : (ℕ → Bool → Type 0) → Next → Next → Type 0
Goes Tells on next =
    (well : ℕ → Bool) → ((i : ℕ) (told : Bool) → i < row_count → Tells i told → told ≡ well i)
    → next ≡ through well on 0 row_count
