-- [13] of an attempt alone, for any accepted outcomes and any calls at all: what leads to each message, to the end and
-- to each failure, in the documents' words, beside the definitions (Attempt, Calls). proofs/Laws/Promises.antt proves
-- each statement under its own name. Assumes nothing.
use Rattle.std.specs.Prelude.{ℕ, ◌+◌, ◌<◌, ◌≡◌, cond, List, [], ◌∷◌, ◌++◌, eqb, take, drop}
use Rattle.word.specs.Words.{Words}
use Rattle.header.specs.Refusal.{refusal}
use Rattle.message.specs.Request.{Means}
use Rattle.message.specs.Walk.{read}
use Rattle.answer.specs.declared.Status.TheVariants.{Ok}
use Rattle.initiator.specs.declared.sender.Sender.{Sender}
use Rattle.std.specs.Prelude.{Some, Result, Ok, Err}
use Rattle.header.specs.declared.refusal.Refusal.{Refusal}
use Rattle.table.specs.declared.attempt.Offered.{Offered}
use Rattle.initiator.specs.Sender.{offer_of}
use Rattle.layout.specs.declared.Stage.{Stage}
use Rattle.layout.specs.declared.Stage.TheVariants.{Clear, Rows, Back, Mark}
use Rattle.layout.specs.Layout.{row_of, row_count, set_up_fault, request_at}
use Rattle.table.specs.declared.attempt.Next.{Next}
use Rattle.table.specs.declared.attempt.Next.TheVariants.{Send, Done}
use Rattle.table.specs.declared.attempt.Next.TheVariants as next
use Rattle.table.specs.declared.attempt.Attempt.{Attempt}
use Rattle.table.specs.Calls.{Made, Taken, offered_of, answered_of}
use Rattle.table.specs.Attempt.{Told, told_of, next_by}
use Rattle.table.specs.Calls.{beginning, made_of, made_to, taken_of}

-- what an attempt comes to by these outcomes, one after another
abbrev pub came_to : List ℕ → Next → List Told → Next
came_to rows next [] = next
came_to rows next (told ∷ more) = came_to rows (next_by rows next told) more

-- command k did not fail; row i, counted from 0, "came back as sent", all eight words
abbrev pub Well : Told → ℕ → Type 0
Well told k = told.ending k ≡ Some Ok

abbrev pub AsSent : List ℕ → Told → ℕ → Type 0
AsSent rows told i = Well told i × (told.words i ≡ row_of rows i)

-- "every row"; and the row with this number is the first that is not so
abbrev pub EveryRow : (ℕ → Type 0) → Type 0
EveryRow Good = (i : ℕ) → i < row_count → Good i

pub record FirstNot (Good : ℕ → Type 0) (number : ℕ) : Type 0 where
  pub i : ℕ
  pub is : number ≡ i + 1
  pub row : i < row_count
  pub before : (j : ℕ) → j < i → Good j
  pub not : Good i → ⊥

-- The outcomes so far, and what comes next: a is that of the clearing, b of the writes, c of the reads, d of the mark.
pub data Came (rows : List ℕ) : List Told → Next → Type 0 where
  -- "each attempt first writes 0 there"
  begins : Came rows [] (Send Clear)
  -- "writes the rows": only when the clearing is known to be OK
  cleared : {a : Told} → Well a 0 → Came rows (a ∷ []) (Send Rows)
  -- "and reads them back": when every row was written
  wrote : {a b : Told} → Well a 0 → EveryRow (Well b) → Came rows (a ∷ b ∷ []) (Send Back)
  -- "writes the complete word only if every row came back as sent"
  compared : {a b c : Told} → Well a 0 → EveryRow (Well b) → EveryRow (AsSent rows c)
      → Came rows (a ∷ b ∷ c ∷ []) (Send Mark)
  -- and it is done when that was OK
  marked : {a b c d : Told} {more : List Told} → Well a 0 → EveryRow (Well b) → EveryRow (AsSent rows c) → Well d 0
      → Came rows (a ∷ b ∷ c ∷ d ∷ more) Done
  -- "A failed command or a row that differs ends the attempt with the row's number (25 for the mark)"
  not-cleared : {a : Told} {more : List Told} → (Well a 0 → ⊥) → Came rows (a ∷ more) (next.Ended 25)
  not_written : {a b : Told} {more : List Told} {number : ℕ} → Well a 0 → FirstNot (Well b) number
      → Came rows (a ∷ b ∷ more) (next.Ended number)
  not-as-sent : {a b c : Told} {more : List Told} {number : ℕ} → Well a 0 → EveryRow (Well b)
      → FirstNot (AsSent rows c) number → Came rows (a ∷ b ∷ c ∷ more) (next.Ended number)
  not-marked : {a b c d : Told} {more : List Told} → Well a 0 → EveryRow (Well b) → EveryRow (AsSent rows c)
      → (Well d 0 → ⊥) → Came rows (a ∷ b ∷ c ∷ d ∷ more) (next.Ended 25)

-- These, and nothing else: "Nothing else but a restart ends an attempt short of the mark".
abbrev pub CameExactly : Type 0
CameExactly =
    (rows : List ℕ) (sender : Sender) (outcomes : List Told)
    → Came rows outcomes (came_to rows (beginning sender).next outcomes)
    × ((next : Next) → Came rows outcomes next → came_to rows (beginning sender).next outcomes ≡ next)

-- An attempt begun where a message waits stays there: 37 refuses all its messages, where 40 does not, and all answers.
abbrev pub BegunWaiting : Type 0
BegunWaiting =
    (s : Sender) → (s.waiting ≡ 0 → ⊥)
    → ((start room : ℕ) (rows out : List ℕ) → set_up_fault start room ≡ 0
    → (made_of (beginning s) start room rows out).refusal ≡ 37)
    × ((message answer rows : List ℕ) → (taken_of (beginning s) message answer rows).refusal ≡ refusal 37)

-- "It knows the sender only by its promises". What a message that is not refused is: its bytes stand first in the
-- output, are read as the message of the stage, under the tag that offering asks, and the sender takes it: one waits.
pub record Ready (a : Attempt) (start : ℕ) (rows : List ℕ) (stage : Stage) (made : Made) (out : List ℕ) : Type 0 where
  pub means : read (take made.length out) ≡ Means (request_at stage a.sender.next start rows)
  pub offered : (offer_of a.sender (take made.length out)).refusal ≡ refusal 0
  pub sender : made.attempt.sender ≡ (offer_of a.sender (take made.length out)).sender
  pub waits : made.attempt.sender.waiting ≡ 1
  pub next : made.attempt.next ≡ Send stage

abbrev pub MessageReady : Type 0
MessageReady =
    (a : Attempt) (start room : ℕ) (rows out : List ℕ) → Words rows → (made_of a start room rows out).refusal ≡ 0
    → (stage : Stage) × (a.next ≡ Send stage)
    × Ready a start rows stage (made_of a start room rows out) (made_to a start room rows out)

-- what lies behind it is as it was; a refusal changes nothing
abbrev pub MessageStays : Type 0
MessageStays =
    (a : Attempt) (start room : ℕ) (rows out : List ℕ) → let made = made_of a start room rows out in
    (drop made.length (made_to a start room rows out) ≡ drop made.length out)
    × ((made.refusal ≡ 0 → ⊥) → (made_to a start room rows out ≡ out) × (made.attempt ≡ a))

-- A refused answer ends nothing: the attempt is as it was.
abbrev pub RefusedStays : Type 0
RefusedStays =
    (a : Attempt) (message answer rows : List ℕ) → ((taken_of a message answer rows).refusal.number ≡ 0 → ⊥)
    → (taken_of a message answer rows).attempt ≡ a

-- what a call gives back, of the attempt that was lent: refused, it is as it was
abbrev pub made_from : Attempt → Result Offered Refusal → Made
made_from a (Ok offered) = record { refusal = 0; length = offered.length; attempt = offered.attempt }
made_from a (Err r) = record { refusal = r.number; length = 0; attempt = a }

abbrev pub taken_from : Attempt → Result Attempt Refusal → Taken
taken_from a (Ok after) = record { refusal = refusal 0; attempt = after }
taken_from a (Err r) = record { refusal = r; attempt = a }

-- it tells all that the call comes to, of which the theorems speak
pub record ResultsTell : Type 0 where
  pub message : (a : Attempt) (start room : ℕ) (rows out : List ℕ)
      → made_from a (offered_of (made_of a start room rows out)) ≡ made_of a start room rows out
  pub take : (a : Attempt) (message answer rows : List ℕ)
      → taken_from a (answered_of (taken_of a message answer rows)) ≡ taken_of a message answer rows

-- an accepted one is what the attempt goes on by
abbrev pub AcceptedGoesOn : Type 0
AcceptedGoesOn =
    (a : Attempt) (message answer rows : List ℕ) → (taken_of a message answer rows).refusal.number ≡ 0
    → (taken_of a message answer rows).attempt.next ≡ next_by rows a.next (told_of message answer)

-- Over any calls at all that are lent the same rows: `message` into this output, `take` of this message and this
-- answer.
pub data Call : Type 0 where
  gives : List ℕ → Call
  takes : List ℕ → List ℕ → Call

-- the attempt behind a call, and behind all of them
abbrev pub attempt_after : ℕ → ℕ → List ℕ → Attempt → Call → Attempt
attempt_after start room rows a (gives out) = (made_of a start room rows out).attempt
attempt_after start room rows a (takes message answer) = (taken_of a message answer rows).attempt

abbrev pub attempt_by : ℕ → ℕ → List ℕ → Attempt → List Call → Attempt
attempt_by start room rows a [] = a
attempt_by start room rows a (call ∷ more) = attempt_by start room rows (attempt_after start room rows a call) more

-- what is heard by a call: what an accepted answer tells; and by all of them, in order
abbrev pub heard_of : List ℕ → Attempt → Call → List Told
heard_of rows a (gives out) = []
heard_of rows a (takes message answer) =
    cond (eqb (taken_of a message answer rows).refusal.number 0) (told_of message answer ∷ []) []

abbrev pub heard_in : ℕ → ℕ → List ℕ → Attempt → List Call → List Told
heard_in start room rows a [] = []
heard_in start room rows a (call ∷ more) =
    heard_of rows a call ++ heard_in start room rows (attempt_after start room rows a call) more

-- Whatever was called, the attempt is where the accepted answers lead, and nothing else moves it.
abbrev pub AnyCalls : Type 0
AnyCalls =
    (start room : ℕ) (rows : List ℕ) (a : Attempt) (calls : List Call)
    → (attempt_by start room rows a calls).next ≡ came_to rows a.next (heard_in start room rows a calls)
