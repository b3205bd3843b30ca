-- The calls of an attempt: its next message, and taking an answer. Assumes nothing.
use Rattle.std.specs.Prelude.{ℕ, Bool, true, false, cond, List, [], eqb, length, Result, Err}
use Rattle.word.specs.Words.{put}
use Rattle.header.specs.declared.refusal.Refusal.{Refusal}
use Rattle.header.specs.Limits.{tag_count}
use Rattle.header.specs.Refusal.{refusal, unless, result_of}
use Rattle.message.specs.Request.{written}
use Rattle.building.specs.Build.{long_ok}
use Rattle.initiator.specs.declared.sender.Sender.{Sender}
use Rattle.initiator.specs.declared.sender.Taken.{Taken as Took}
use Rattle.initiator.specs.Places.{sender_ok}
use Rattle.initiator.specs.Sender.{idle, offer_of, take_of}
use Rattle.layout.specs.declared.Stage.{Stage}
use Rattle.layout.specs.declared.Stage.TheVariants.{Clear}
use Rattle.layout.specs.Layout.{set_up_ok, request_at}
use Rattle.table.specs.declared.attempt.Next.{Next}
use Rattle.table.specs.declared.attempt.Next.TheVariants.{Send, Done, Ended}
use Rattle.table.specs.declared.attempt.Attempt.{Attempt}
use Rattle.table.specs.declared.attempt.Offered.{Offered}
use Rattle.table.specs.Attempt.{told_of, next_by}

-- a sender, and what comes next
abbrev pub attempt_at : Sender → Next → Attempt
attempt_at sender next = record { sender = sender; next = next }

-- "each attempt first writes 0 there". The answer to a message that waits already could be taken for the clearing's:
-- then the attempt's sender is one that 37 stops.
abbrev pub beginning : Sender → Attempt
beginning s = attempt_at (cond (eqb s.waiting 0) s (idle tag_count)) (Send Clear)

-- whether a message is to be sent
abbrev pub sends : Next → Bool
sends (Send stage) = true
sends Done = false
sends (Ended n) = false

-- the bytes of the next message, with this tag
abbrev pub next_bytes : Next → ℕ → ℕ → List ℕ → List ℕ
next_bytes (Send stage) tag start rows = written (request_at stage tag start rows)
next_bytes Done tag start rows = []
next_bytes (Ended n) tag start rows = []

-- the refusal of a message: 40; 37; 36 "offering while one waits", since the table's messages go one at a time; 30,
-- none is left; then building's 21, a short output. Nothing else is ever refused.
unfoldable pub message_fault : Attempt → ℕ → ℕ → ℕ → ℕ
message_fault a start room long =
    unless (set_up_ok start room) 40
    (unless (sender_ok a.sender) 37
    (unless (eqb a.sender.waiting 0) 36
    (unless (sends a.next) 30
    (unless (long_ok long) 21 0))))

-- the stage whose message is to be sent, by what comes next and the refusal's number
abbrev pub due_by : Next → ℕ → Result Stage Refusal
due_by (Send stage) number = result_of (refusal number) stage
due_by Done number = Err (refusal number)
due_by (Ended n) number = Err (refusal number)

-- what a message comes to: the number of its refusal (0: none), its length in bytes, and the attempt then
pub record Made : Type 0 where
  pub refusal : ℕ
  pub length : ℕ
  pub attempt : Attempt

-- as a function gives it back
abbrev pub offered_of : Made → Result Offered Refusal
offered_of made = result_of (refusal made.refusal) (record { length = made.length; attempt = made.attempt })

-- the message is offered to the sender, under its next tag; a refusal changes nothing
abbrev pub refused_with : ℕ → Attempt → Made
refused_with number a = record { refusal = number; length = 0; attempt = a }

abbrev pub given_with : List ℕ → Attempt → Made
given_with m a =
    record { refusal = 0; length = length m; attempt = attempt_at (offer_of a.sender m).sender a.next }

unfoldable pub made_of : Attempt → ℕ → ℕ → List ℕ → List ℕ → Made
made_of a start room rows out =
    cond (eqb (message_fault a start room (length out)) 0)
    (given_with (next_bytes a.next a.sender.next start rows) a)
    (refused_with (message_fault a start room (length out)) a)

-- and the output: the message's bytes stand first, what lies behind is as it was
unfoldable pub made_to : Attempt → ℕ → ℕ → List ℕ → List ℕ → List ℕ
made_to a start room rows out =
    cond (eqb (message_fault a start room (length out)) 0)
    (put out 0 (next_bytes a.next a.sender.next start rows)) out

-- what an answer comes to: its refusal (number 0: none), and the attempt then
pub record Taken : Type 0 where
  pub refusal : Refusal
  pub attempt : Attempt

-- as a function gives it back
abbrev pub answered_of : Taken → Result Attempt Refusal
answered_of taken = result_of taken.refusal taken.attempt

-- taking an answer: where the sender refuses it, "Nothing else [..] ends an attempt", which is as it was
abbrev pub not_taken : Refusal → Attempt → Taken
not_taken refusal a = record { refusal = refusal; attempt = a }

abbrev pub taken_by : Took → Attempt → Next → Taken
taken_by took a next =
    cond (eqb took.refusal.number 0)
    (record { refusal = took.refusal; attempt = attempt_at took.sender next })
    (not_taken took.refusal a)

unfoldable pub taken_of : Attempt → List ℕ → List ℕ → List ℕ → Taken
taken_of a message answer rows =
    taken_by (take_of a.sender message answer) a (next_by rows a.next (told_of message answer))
