-- [13] an attempt: what follows from what an accepted answer tells, whatever it tells. Assumes nothing.
use Rattle.std.specs.Prelude.{ℕ, zero, suc, Bool, true, false, cond, ◌&&◌, List, get_or, Option, Some, None}
use Rattle.word.specs.Words.{same}
use Rattle.header.specs.Header.{kind_of}
use Rattle.message.specs.Walk.{read}
use Rattle.answer.specs.declared.Status.{Status}
use Rattle.answer.specs.declared.Status.TheVariants.{Ok, Timeout, Error}
use Rattle.initiator.specs.Outcome.{judged_by, ending_in, data_in}
use Rattle.layout.specs.declared.Stage.{Stage}
use Rattle.layout.specs.declared.Stage.TheVariants.{Clear, Rows, Back, Mark}
use Rattle.layout.specs.Layout.{row_of, row_count}
use Rattle.table.specs.declared.attempt.Next.{Next}
use Rattle.table.specs.declared.attempt.Next.TheVariants.{Send, Done}
use Rattle.table.specs.declared.attempt.Next.TheVariants as next

-- "its outcome is the status and read data of each answered command": of command k, counted from 0
pub record Told : Type 0 where
  pub ending : ℕ → Option Status
  pub words : ℕ → List ℕ

-- as `ended` and `read_data` tell them of an answer to a message
abbrev pub told_of : List ℕ → List ℕ → Told
told_of message answer =
    record {
      ending = λ k. ending_in k (judged_by (read message) answer);
      words = λ k. data_in (kind_of (get_or message 0 0)) k (judged_by (read message) answer);
    }

-- "A failed command": Timeout as Error; one that was not answered was not carried out
abbrev pub status_ok : Status → Bool
status_ok Ok = true
status_ok Timeout = false
status_ok Error = false

abbrev pub is_ok : Option Status → Bool
is_ok None = false
is_ok (Some status) = status_ok status

-- whether row i, counted from 0, was written, and whether it "came back as sent", word by word
unfoldable pub wrote_row : Told → ℕ → Bool
wrote_row told i = is_ok (told.ending i)

unfoldable pub read_row : List ℕ → Told → ℕ → Bool
read_row rows told i = is_ok (told.ending i) && same (told.words i) (row_of rows i)

-- "A failed command or a row that differs ends the attempt with the row's number": of n rows from row i on the first
-- that is not well; else it goes on
unfoldable pub through : (ℕ → Bool) → Next → ℕ → ℕ → Next
through well on i zero = on
through well on i (suc n) = cond (well i) (through well on (suc i) n) (next.Ended (suc i))

-- "(25 for the mark)"
unfoldable pub marking : Told → Next → Next
marking told on = cond (is_ok (told.ending 0)) on (next.Ended 25)

-- what follows a stage: "writes the complete word only if every row came back as sent; each attempt first writes 0
-- there". No row is sent before the clearing is known to be OK.
unfoldable pub next_of : List ℕ → Stage → Told → Next
next_of rows Clear told = marking told (Send Rows)
next_of rows Rows told = through (wrote_row told) (Send Back) 0 row_count
next_of rows Back told = through (read_row rows told) (Send Mark) 0 row_count
next_of rows Mark told = marking told Done

-- what follows an outcome; an attempt that is done or has ended stays so
abbrev pub next_by : List ℕ → Next → Told → Next
next_by rows (Send stage) told = next_of rows stage told
next_by rows Done told = Done
next_by rows (next.Ended n) told = next.Ended n
