-- [13] "24 rows of 8 words, numbered 1 to 24 in the first word, then one complete word holding 24": where the table
-- stands, and the four messages that load it. Assumes nothing.
use Rattle.std.specs.Prelude.{ℕ, zero, suc, ◌+◌, ◌*◌, ◌%◌, Bool, false, ◌&&◌, List, [], ◌∷◌, ◌++◌, get_or, leb, eqb}
use Rattle.header.specs.declared.Kind.{Kind}
use Rattle.header.specs.declared.Kind.TheVariants.{Write, Read}
use Rattle.header.specs.Header.{byte0_from}
use Rattle.header.specs.Refusal.{unless}
use Rattle.message.specs.Request.{Command, Request}
use Rattle.layout.specs.declared.Stage.{Stage}
use Rattle.layout.specs.declared.Stage.TheVariants.{Clear, Rows, Back, Mark}

-- f i, f (i + 1) and so on, n of them
unfoldable pub each_from : {A : Type 0} → (ℕ → A) → ℕ → ℕ → List A
each_from f i zero = []
each_from f i (suc n) = f i ∷ each_from f (suc i) n

-- "24 rows"
abbrev pub row_count : ℕ
row_count = 24

-- "of 8 words, numbered 1 to 24 in the first word": row i, counted from 0. Its other seven words are the caller's:
-- `rows` has those of all rows, one row behind another.
unfoldable pub row_of : List ℕ → ℕ → List ℕ
row_of rows i =
    (i + 1) ∷ get_or rows (7 * i) 0 ∷ get_or rows (7 * i + 1) 0 ∷ get_or rows (7 * i + 2) 0 ∷ get_or rows (7 * i + 3) 0
    ∷ get_or rows (7 * i + 4) 0 ∷ get_or rows (7 * i + 5) 0 ∷ get_or rows (7 * i + 6) 0 ∷ []

-- all of them, one behind another
unfoldable pub joined : List (List ℕ) → List ℕ
joined [] = []
joined (row ∷ more) = row ++ joined more

abbrev pub table_of : List ℕ → List ℕ
table_of rows = joined (each_from (row_of rows) 0 row_count)

-- where row i stands, and "then one complete word": byte addresses
abbrev pub row_address : ℕ → ℕ → ℕ
row_address start i = start + 32 * i

abbrev pub mark_address : ℕ → ℕ
mark_address start = start + 768

-- "holding 24"
abbrev pub complete : ℕ
complete = 24

-- not "room for fewer than 193 words, a start not a multiple of 4 or an end past 2^32"
unfoldable pub set_up_ok : ℕ → ℕ → Bool
set_up_ok start room = leb 193 room && eqb (start % 4) 0 && leb (start + 4 * room) 4294967296

-- "A set-up with [these] is refused as 40"
unfoldable pub set_up_fault : ℕ → ℕ → ℕ
set_up_fault start room = unless (set_up_ok start room) 40 0

-- the commands: a row written whole, a row read, a word written to the mark
unfoldable pub row_write : ℕ → List ℕ → ℕ → Command
row_write start rows i = record { byte1 = 255; count = 8; address = row_address start i; payload = row_of rows i }

unfoldable pub row_read : ℕ → ℕ → Command
row_read start i = record { byte1 = 0; count = 8; address = row_address start i; payload = [] }

unfoldable pub mark_write : ℕ → ℕ → Command
mark_write start value = record { byte1 = 15; count = 1; address = mark_address start; payload = value ∷ [] }

-- "The upper part writes the rows and reads them back by messages, and writes the complete word [..]; each attempt
-- first writes 0 there"
abbrev pub kind_at : Stage → Kind
kind_at Clear = Write
kind_at Rows = Write
kind_at Back = Read
kind_at Mark = Write

abbrev pub commands_at : Stage → ℕ → List ℕ → List Command
commands_at Clear start rows = mark_write start 0 ∷ []
commands_at Rows start rows = each_from (row_write start rows) 0 row_count
commands_at Back start rows = each_from (row_read start) 0 row_count
commands_at Mark start rows = mark_write start complete ∷ []

-- the message of a stage, with the tag that the sender asks
unfoldable pub request_at : Stage → ℕ → ℕ → List ℕ → Request
request_at stage tag start rows =
    record { byte0 = byte0_from tag (kind_at stage) false false; commands = commands_at stage start rows }
