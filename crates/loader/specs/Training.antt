-- The training table as C takes it: what comes next is two numbers. Assumes nothing.
use Rattle.std.specs.Prelude.{ℕ, ◌≡◌, cond, List, eqb}
use Rattle.layout.specs.declared.Stage.{Stage}
use Rattle.layout.specs.declared.Stage.TheVariants.{Clear, Rows, Back, Mark}
use Rattle.table.specs.declared.attempt.Next.{Next}
use Rattle.table.specs.declared.attempt.Next.TheVariants.{Send, Done, Ended}
use Rattle.table.specs.declared.attempt.Attempt.{Attempt}
use Rattle.table.specs.Calls.{Made}
use Rattle.table.specs.Calls.{Taken}
use Rattle.table.specs.Calls.{attempt_at, made_of, taken_of}
use Rattle.loader.specs.declared.training.TableAttempt.{TableAttempt}
use Rattle.loader.specs.declared.training.TableMade.{TableMade}
use Rattle.loader.specs.declared.training.TableTaken.{TableTaken}

-- 0 to 3 the message that is to be sent
abbrev pub stage_no : Stage → ℕ
stage_no Clear = 0
stage_no Rows = 1
stage_no Back = 2
stage_no Mark = 3

-- 4 done, 5 and every other number ended, with the row's number
unfoldable pub next_from : ℕ → ℕ → Next
next_from stage row =
    cond (eqb stage 0) (Send Clear)
    (cond (eqb stage 1) (Send Rows)
    (cond (eqb stage 2) (Send Back)
    (cond (eqb stage 3) (Send Mark)
    (cond (eqb stage 4) Done
    (Ended row)))))

-- the attempt that the numbers say
abbrev pub attempt_of : TableAttempt → Attempt
attempt_of a = attempt_at a.sender (next_from a.stage a.row)

-- and an attempt by its numbers, the row 0 where it has not ended
abbrev pub next_no : Next → ℕ
next_no (Send stage) = stage_no stage
next_no Done = 4
next_no (Ended row) = 5

abbrev pub row_no : Next → ℕ
row_no (Send stage) = 0
row_no Done = 0
row_no (Ended row) = row

abbrev pub numbers_of : Attempt → TableAttempt
numbers_of a = record { sender = a.sender; stage = next_no a.next; row = row_no a.next }

-- what the calls of `table` give, by numbers; "Refusals .. change nothing": the attempt as it came, whatever it says
abbrev pub made_by : Made → TableAttempt → TableMade
made_by made a =
    cond (eqb made.refusal 0)
    (record { refusal = made.refusal; length = made.length; attempt = numbers_of made.attempt })
    (record { refusal = made.refusal; length = 0; attempt = a })

unfoldable pub table_made_of : TableAttempt → ℕ → ℕ → List ℕ → List ℕ → TableMade
table_made_of a start room rows out = made_by (made_of (attempt_of a) start room rows out) a

abbrev pub taken_by : Taken → TableAttempt → TableTaken
taken_by taken a =
    cond (eqb taken.refusal.number 0)
    (record { refusal = taken.refusal; attempt = numbers_of taken.attempt })
    (record { refusal = taken.refusal; attempt = a })

unfoldable pub table_taken_of : TableAttempt → List ℕ → List ℕ → List ℕ → TableTaken
table_taken_of a message answer rows = taken_by (taken_of (attempt_of a) message answer rows) a

-- What the numbers say is what they were made of.
abbrev pub NumbersTell : Type 0
NumbersTell = (a : Attempt) → attempt_of (numbers_of a) ≡ a

-- So each call comes to what the table's own comes to with the attempt that the numbers say; and refused, it gives the
-- numbers back as they came, those too that say nothing.
pub record AsMade (a : TableAttempt) (made : Made) (given : TableMade) : Type 0 where
  pub refusal : given.refusal ≡ made.refusal
  pub length : given.length ≡ made.length
  pub attempt : attempt_of given.attempt ≡ made.attempt
  pub stays : (given.refusal ≡ 0 → ⊥) → given.attempt ≡ a

abbrev pub MessageAsMade : Type 0
MessageAsMade =
    (a : TableAttempt) (start room : ℕ) (rows out : List ℕ)
    → AsMade a (made_of (attempt_of a) start room rows out) (table_made_of a start room rows out)

pub record AsTaken (a : TableAttempt) (taken : Taken) (given : TableTaken) : Type 0 where
  pub refusal : given.refusal ≡ taken.refusal
  pub attempt : attempt_of given.attempt ≡ taken.attempt
  pub stays : (given.refusal.number ≡ 0 → ⊥) → given.attempt ≡ a

abbrev pub AnswerAsTaken : Type 0
AnswerAsTaken =
    (a : TableAttempt) (message answer rows : List ℕ)
    → AsTaken a (taken_of (attempt_of a) message answer rows) (table_taken_of a message answer rows)
