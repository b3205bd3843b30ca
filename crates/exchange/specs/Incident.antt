-- The night of the incident, from bytes: a watchdog restarts the loader, and it counts its tags from nought behind the
-- controller's back. proofs/Incident.antt computes it, with document 01's controller and with ours. Assumes nothing.
use Rattle.std.specs.Prelude.{ℕ, zero, suc, ◌+◌, ◌*◌, ◌≡◌, true, false, cond, List, [], ◌∷◌, ◌++◌, eqb, length, replicate}
use Rattle.word.specs.Words.{bytes_of, put_words}
use Rattle.header.specs.Limits.{limit, limit_bytes}
use Rattle.header.specs.Refusal.{refusal}
use Rattle.message.specs.Walk.{read}
use Rattle.message.specs.Discovery.{discovery_bytes}
use Rattle.tags.specs.Record.{places, fresh_record}
use Rattle.completer.specs.Controller.{Controller, After}
use Rattle.completer.specs.Verdict.{judged}
use Rattle.completer.specs.Serving.{after_by, after}
use Rattle.completer.specs.Called.{Unchanged}
use Rattle.initiator.specs.Sender.{offer_of}
use Rattle.once.specs.World.{Event, offer, send, arrive, back, World}
use Rattle.once.specs.Promise.{after as after_all}
use Rattle.exchange.specs.Ends.{ends_by}
use Rattle.exchange.specs.Promise.{window, Begins}
use Rattle.exchange.specs.Example.{loader, output, ok}

-- what a controller's call does
abbrev pub Call : Type 0
Call = Controller → List ℕ → List ℕ → After

-- Document 01's call, where all that is lent is allowed: "whatever the repeat's body says", the stored answer is sent.
-- It keeps requests too, and never looks at them. It holds four answers, which tells nothing here: each tag that comes
-- in the two lives is the newest or the next. Ours holds the verdict to the kept request (`held_to`).
abbrev pub after_base : Call
after_base c output datagram = after_by (judged c.tags (read datagram)) c output datagram

-- A table of two rows: word 0 is the complete mark, 2 where both rows are in, and words 1 and 2 are the rows. The mark
-- is clear, and last summer's rows are in.
abbrev pub summer : Controller
summer = record {
  memory = 0 ∷ 0x0501 ∷ 0x0502 ∷ [];
  stored = replicate (places * limit) 0;
  kept = replicate (places * limit_bytes) 0;
  tags = fresh_record;
}

-- the message of this tag that writes one word of the table
abbrev pub writes : ℕ → ℕ → ℕ → List ℕ
writes tag word value = bytes_of ((0x80010F10 + tag) ∷ (4 * word) ∷ value ∷ [])

-- A life: a loader that counts from nought, and the controller as it finds it. Nothing of an earlier life is under way,
-- no late copy and no late answer: `told` below rests on that.
abbrev pub life : (call : Call) → Controller → List (Event (ends_by call)) → World (ends_by call)
life call c events = after_all (ends_by call) window c loader events

-- The first life writes row 1. Then the watchdog restarts the loader, and this is the controller that it finds.
abbrev pub first_life : World (ends_by after)
first_life = life after summer (offer (writes 0 1 0x0701) ∷ send 0 ∷ arrive 0 output ∷ back 0 ∷ [])

abbrev pub found : Controller
found = first_life.controller

-- The second life trains anew, and row 2 is ready first: row 2 and row 1. The mark follows when both are told.
abbrev pub rows : (call : Call) → List (Event (ends_by call))
rows call =
    offer (writes 0 2 0x0802) ∷ offer (writes 1 1 0x0801) ∷ send 0 ∷ send 1 ∷ arrive 0 output ∷ arrive 1 output
    ∷ back 0 ∷ back 1 ∷ []

abbrev pub mark : (call : Call) → ℕ → List (Event (ends_by call))
mark call told = cond (eqb told 2) (offer (writes 2 0 2) ∷ send 0 ∷ arrive 2 output ∷ back 2 ∷ []) []

abbrev pub second_life : (call : Call) → World (ends_by call)
second_life call = life call found (rows call ++ mark call (length (life call found (rows call)).outcomes))

-- The first writes of n lives: row 1, as each life trained it.
abbrev pub first_writes : ℕ → List (List ℕ)
first_writes zero = []
first_writes (suc n) = writes 0 1 (0x0701 + suc n) ∷ first_writes n

-- what is given to each of them, by number, 0 being OK; and the controller after all of them
abbrev pub numbers : Call → Controller → List (List ℕ) → List ℕ
numbers call c [] = []
numbers call c (m ∷ ms) = (call c output m).refusal.number ∷ numbers call (call c output m).controller ms

abbrev pub left_by : Call → Controller → List (List ℕ) → Controller
left_by call c [] = c
left_by call c (m ∷ ms) = left_by call (call c output m).controller ms

-- the table as the first life left it
abbrev pub half_done : List ℕ
half_done = 0 ∷ 0x0701 ∷ 0x0502 ∷ []

-- [9] A first life that went on, each row twice, so that four are held; and what the second life sends first, four
-- messages in flight, the last of them the mark.
abbrev pub four_held : Controller
four_held = left_by after found (writes 1 2 0x0702 ∷ writes 2 1 0x0711 ∷ writes 3 2 0x0712 ∷ [])

abbrev pub four_sent : List (List ℕ)
four_sent = writes 0 2 0x0802 ∷ writes 1 1 0x0801 ∷ writes 2 2 0x0812 ∷ writes 3 0 2 ∷ []

abbrev pub offers : List (List ℕ) → List (Event (ends_by after))
offers [] = []
offers (m ∷ ms) = offer m ∷ offers ms

pub record Incident : Type 0 where
  -- The first life: row 1 is written.
  pub first : first_life.outcomes ≡ ok [] ∷ []
  pub table : found.memory ≡ half_done
  -- "Send .. from a fresh pair or a discovery answer": the loader's new life is neither, so demand 3 promises nothing.
  pub behind : Begins found loader → ⊥
  -- Document 01's controller takes row 2 for a repeat of row 1. All three messages are told to have gone well.
  pub base_told : (second_life after_base).outcomes ≡ ok [] ∷ ok [] ∷ ok [] ∷ []
  -- And the mark stands over last summer's row 2.
  pub base_table : (second_life after_base).controller.memory ≡ 2 ∷ 0x0801 ∷ 0x0502 ∷ []
  -- Ours refuses row 2 as 12: nothing is sent, nothing changes.
  pub refused : (after found output (writes 0 2 0x0802)).refusal ≡ refusal 12
  pub nothing : Unchanged found output (after found output (writes 0 2 0x0802))
  -- The loader is told nothing: row 2 waits, and row 1, which had the next tag and is answered, waits behind it.
  pub told : (second_life after).outcomes ≡ []
  pub waits : (second_life after).sender.sender
      ≡ record { next = 0; waiting = 2; second = true; third = false; fourth = false }
  -- So the mark is not written.
  pub unmarked : (second_life after).controller.memory ≡ 0 ∷ 0x0801 ∷ 0x0502 ∷ []
  -- Eleven restarts: eleven times 12, and the controller is as it was.
  pub eleven : numbers after found (first_writes 11) ≡ replicate 11 12
  pub unchanged : left_by after found (first_writes 11) ≡ found
  -- Document 01's said eleven times OK, and wrote nothing.
  pub base_eleven : numbers after_base found (first_writes 11) ≡ replicate 11 0
  pub base_nothing : (left_by after_base found (first_writes 11)).memory ≡ half_done
  -- Where four are held, all of the first four are 12, and nothing changes.
  pub four_table : four_held.memory ≡ 0 ∷ 0x0711 ∷ 0x0712 ∷ []
  pub four : numbers after four_held four_sent ≡ replicate 4 12
  pub four_unchanged : left_by after four_held four_sent ≡ four_held
  -- No answer comes, so the four wait on, and nothing else can be offered: 36.
  pub no_more : (offer_of (life after four_held (offers four_sent)).sender.sender (writes 4 1 0x0811)).refusal ≡ refusal 36
  -- A controller that holds four and does not look at requests would say four times OK, to the mark too, and write
  -- nothing.
  pub base_four : numbers after_base four_held four_sent ≡ replicate 4 0
  pub base_four_nothing : (left_by after_base four_held four_sent).memory ≡ 0 ∷ 0x0711 ∷ 0x0712 ∷ []

-- [9] What 12 does not cure. A first life that came to its end: the mark cleared, both rows, the mark.
abbrev pub whole : Controller
whole = left_by after summer (writes 0 0 0 ∷ writes 1 1 0x0701 ∷ writes 2 2 0x0702 ∷ writes 3 0 2 ∷ [])

abbrev pub whole_table : List ℕ
whole_table = 2 ∷ 0x0701 ∷ 0x0702 ∷ []

-- A loader that restarts, counts from nought and sends its first message again, byte for byte.
abbrev pub cleared : World (ends_by after)
cleared = life after whole (offer (writes 0 0 0) ∷ send 0 ∷ arrive 0 output ∷ back 0 ∷ [])

pub record StaleRepeat : Type 0 where
  pub table : whole.memory ≡ whole_table
  -- It is a repeat of the fourth-last: the loader is told OK, nothing is done, and the mark stands.
  pub told : cleared.outcomes ≡ ok [] ∷ []
  pub stands : cleared.controller.memory ≡ whole_table
  -- Asked first, by discovery, the controller says 3: the message has tag 4 then, is new, and the mark is cleared.
  pub asked : (after whole output discovery_bytes).output ≡ put_words output 0 (0x800200B0 ∷ limit_bytes ∷ 0x00000013 ∷ [])
  pub clears : (after whole output (writes 4 0 0)).controller.memory ≡ 0 ∷ 0x0701 ∷ 0x0702 ∷ []
