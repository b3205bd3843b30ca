-- The layout in figures: which set-ups are refused, when a message is made, and the messages' own words.
-- `proofs/Laws/Benched.antt` computes them. Assumes nothing.
use Rattle.std.specs.Prelude.{ℕ, ◌≡◌, List, [], ◌∷◌, ◌++◌, length, take, drop, replicate}
use Rattle.word.specs.Words.{bytes_of}
use Rattle.message.specs.Request.{All, written}
use Rattle.building.specs.Examples.{Number, Same}
use Rattle.layout.specs.declared.Stage.{Stage}
use Rattle.layout.specs.declared.Stage.TheVariants.{Clear, Rows, Back, Mark}
use Rattle.layout.specs.Layout.{set_up_fault, table_of, request_at}
use Rattle.layout.specs.Writing.{Wrote, make_fault, wrote_of, wrote_to}

-- the number that a set-up gets, by its start in bytes and its room in words
abbrev pub set_up : ℕ → ℕ → ℕ → Number
set_up start room n = record { given = set_up_fault start room; is = n }

unfoldable pub set_ups : List Number
set_ups =
    -- "room for fewer than 193 words"
    set_up 0 193 0
    ∷ set_up 0 192 40
    ∷ set_up 0 0 40
    -- "a start not a multiple of 4"
    ∷ set_up 2 193 40
    ∷ set_up 4 193 0
    -- "an end past 2^32": 193 words that end there, and one word further; all of it, and one word more
    ∷ set_up 4294966524 193 0
    ∷ set_up 4294966528 193 40
    ∷ set_up 0 1073741824 0
    ∷ set_up 4 1073741824 40
    ∷ set_up 0 1073741825 40
    ∷ set_up 18446744073709551612 18446744073709551615 40
    -- two faults at once, and three
    ∷ set_up 2 192 40
    ∷ set_up 4294967294 193 40
    ∷ set_up 4294967296 192 40
    ∷ set_up 4294967297 192 40
    ∷ []

-- the number that making a message gets, by the set-up, the output's length in bytes and the tag
abbrev pub making : ℕ → ℕ → ℕ → ℕ → ℕ → Number
making start room long tag n = record { given = make_fault start room long tag; is = n }

unfoldable pub makings : List Number
makings =
    making 64 193 8972 0 0
    ∷ making 64 193 8971 0 21
    ∷ making 64 193 0 0 21
    ∷ making 64 193 8972 15 0
    ∷ making 64 193 8972 16 21
    ∷ making 64 193 8971 16 21
    -- 40 before 21
    ∷ making 64 192 8972 0 40
    ∷ making 64 192 8971 0 40
    ∷ making 64 192 8972 16 40
    ∷ making 66 193 8971 16 40
    ∷ []

-- the caller's words of a table: those of rows 1, 2 and 24, and between them 0
unfoldable pub shown_rows : List ℕ
shown_rows =
    (0xA1000001 ∷ 0xA1000002 ∷ 0xA1000003 ∷ 0xA1000004 ∷ 0xA1000005 ∷ 0xA1000006 ∷ 0xA1000007 ∷ [])
    ++ (0xA2000001 ∷ 0xA2000002 ∷ 0xA2000003 ∷ 0xA2000004 ∷ 0xA2000005 ∷ 0xA2000006 ∷ 0xA2000007 ∷ [])
    ++ replicate 147 0
    ++ (0xB8000001 ∷ 0xB8000002 ∷ 0xB8000003 ∷ 0xB8000004 ∷ 0xB8000005 ∷ 0xB8000006 ∷ 0xB8000007 ∷ [])

-- its messages at start 0x40, under tag 5: in bytes; and made in an output of 8,972 bytes
abbrev pub shown : Stage → List ℕ
shown stage = written (request_at stage 5 0x40 shown_rows)

unfoldable pub shown_out : List ℕ
shown_out = replicate 8972 0xAA

abbrev pub shown_made : Stage → Wrote
shown_made stage = wrote_of stage 5 0x40 193 shown_rows shown_out

abbrev pub accepted : ℕ → Wrote
accepted n = record { refusal = 0; length = n }

-- "writes the rows": the first two commands and the last one
abbrev pub first_writes : List ℕ
first_writes =
    0x0008FF15 ∷ 0x00000040 ∷ 0x00000001
    ∷ 0xA1000001 ∷ 0xA1000002 ∷ 0xA1000003 ∷ 0xA1000004 ∷ 0xA1000005 ∷ 0xA1000006 ∷ 0xA1000007
    ∷ 0x0008FF15 ∷ 0x00000060 ∷ 0x00000002
    ∷ 0xA2000001 ∷ 0xA2000002 ∷ 0xA2000003 ∷ 0xA2000004 ∷ 0xA2000005 ∷ 0xA2000006 ∷ 0xA2000007
    ∷ []

abbrev pub last_write : List ℕ
last_write =
    0x8008FF15 ∷ 0x00000320 ∷ 0x00000018
    ∷ 0xB8000001 ∷ 0xB8000002 ∷ 0xB8000003 ∷ 0xB8000004 ∷ 0xB8000005 ∷ 0xB8000006 ∷ 0xB8000007
    ∷ []

-- every figure is as it must be
pub record LayoutShown : Type 0 where
  pub set_ups : All Same set_ups
  pub makings : All Same makings
  -- "24 rows of 8 words"
  pub table : length (table_of shown_rows) ≡ 192
  -- "each attempt first writes 0 there", behind the rows
  pub clear : shown Clear ≡ bytes_of (0x80010F15 ∷ 0x00000340 ∷ 0x00000000 ∷ [])
  pub first_rows : take 80 (shown Rows) ≡ bytes_of first_writes
  pub last_row : drop 920 (shown Rows) ≡ bytes_of last_write
  -- "and reads them back"
  pub first_back : take 16 (shown Back) ≡ bytes_of (0x00080025 ∷ 0x00000040 ∷ 0x00080025 ∷ 0x00000060 ∷ [])
  pub last_back : drop 184 (shown Back) ≡ bytes_of (0x80080025 ∷ 0x00000320 ∷ [])
  -- "holding 24"
  pub mark : shown Mark ≡ bytes_of (0x80010F15 ∷ 0x00000340 ∷ 0x00000018 ∷ [])
  -- made: their lengths, and the output behind one of them
  pub clear_made : shown_made Clear ≡ accepted 12
  pub rows_made : shown_made Rows ≡ accepted 960
  pub back_made : shown_made Back ≡ accepted 192
  pub mark_made : shown_made Mark ≡ accepted 12
  pub output : wrote_to Mark 5 0x40 193 shown_rows shown_out
      ≡ bytes_of (0x80010F15 ∷ 0x00000340 ∷ 0x00000018 ∷ []) ++ replicate 8960 0xAA
