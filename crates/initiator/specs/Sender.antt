-- The sender: made fresh or from a discovery's answer; offering, sending, taking an answer. Assumes nothing.
use Rattle.std.specs.Prelude.{ℕ, Bool, false, cond, List, [], ◌∷◌, get_or, ltb, eqb, Result, Ok, Err}
use Rattle.header.specs.declared.refusal.Refusal.{Refusal}
use Rattle.header.specs.Limits.{tag_count}
use Rattle.header.specs.Header.{tag_of, next_tag}
use Rattle.header.specs.Refusal.{refusal, unless}
use Rattle.message.specs.Request.{Request, Reading, Refused, Means, refusal_in, given}
use Rattle.message.specs.Walk.{read}
use Rattle.message.specs.Discovery.{discovery_request}
use Rattle.answer.specs.declared.Status.{Status}
use Rattle.answer.specs.declared.Status.TheVariants.{Ok as Went, Timeout, Error}
use Rattle.answer.specs.Answer.{Answered, judge}
use Rattle.initiator.specs.declared.sender.Sender.{Sender}
use Rattle.initiator.specs.declared.sender.Moved.{Moved}
use Rattle.initiator.specs.declared.sender.Taken.{Taken}
use Rattle.initiator.specs.declared.sender.Progress.{Progress}
use Rattle.initiator.specs.Asking.{asked_as}
use Rattle.initiator.specs.Outcome.{judged_in}
use Rattle.initiator.specs.Places.{sender_ok, has_room, place_in, waits_for, new_tag}
use Rattle.initiator.specs.Places.{with_one, marked, ending_of, without}

-- a record with this next tag at which none waits
abbrev pub idle : ℕ → Sender
idle next = record { next = next; waiting = 0; second = false; third = false; fourth = false }

-- "A sender starts with next tag 0 for a fresh pair"
abbrev pub fresh_sender : Sender
fresh_sender = idle 0

-- offering: 37, 36, 31
unfoldable pub offering : Sender → List ℕ → Reading Request
offering s message =
    unless (sender_ok s) (Refused (refusal 37))
    (unless (has_room s) (Refused (refusal 36))
    (asked_as (eqb (new_tag s)) (read message)))

-- sending, and taking before the answer is looked at: 37, 30, 31
unfoldable pub sending : Sender → List ℕ → Reading Request
sending s message =
    unless (sender_ok s) (Refused (refusal 37))
    (unless (ltb 0 s.waiting) (Refused (refusal 30))
    (asked_as (waits_for s) (read message)))

-- what offering gives back: accepted, one more waits
abbrev pub offer_by : Sender → List ℕ → Result Sender Refusal
offer_by s message = given (λ _. with_one s) (offering s message)

-- what an offer or a discovery gave back, as C has it: number 0 is none, and refused, this sender is kept
abbrev pub moved_from : Sender → Result Sender Refusal → Moved
moved_from s (Ok after) = record { refusal = refusal 0; sender = after }
moved_from s (Err r) = record { refusal = r; sender = s }

-- "Refusals .. sender unchanged"
abbrev pub offered_by : Sender → Reading Request → Moved
offered_by s p = moved_from s (given (λ _. with_one s) p)

unfoldable pub offer_of : Sender → List ℕ → Moved
offer_of s message = offered_by s (offering s message)

-- "sending hands back that message's own bytes", or what refuses it
abbrev pub sent_by : Sender → List ℕ → Result (List ℕ) Refusal
sent_by s message = given (λ _. message) (sending s message)

-- none where it is refused
abbrev pub hands_back : Reading Request → List ℕ → List ℕ
hands_back (Refused r) message = []
hands_back (Means q) message = message

unfoldable pub send_of : Sender → List ℕ → List ℕ
send_of s message = hands_back (sending s message) message

-- and the refusal, number 0 for none
unfoldable pub send_fault : Sender → List ℕ → Refusal
send_fault s message = refusal_in (sending s message)

-- "An accepted answer ends it, also when a command failed": the oldest; a younger one waits on
unfoldable pub accepted_at : Sender → ℕ → Taken
accepted_at s place = cond (eqb place 0)
    (record { refusal = refusal 0; sender = without s (ending_of s); ended = ending_of s })
    (record { refusal = refusal 0; sender = marked s place; ended = 0 })

-- "Refusals .. sender unchanged", and nothing ended
abbrev pub refused_take : Sender → Refusal → Taken
refused_take s r = record { refusal = r; sender = s; ended = 0 }

abbrev pub taken_by : Sender → ℕ → Reading (List Answered) → Taken
taken_by s place (Refused r) = refused_take s r
taken_by s place (Means items) = accepted_at s place

-- taking: 37, 30, 31, then 32 to 35, "judges by the request lent"
unfoldable pub take_of : Sender → List ℕ → List ℕ → Taken
take_of s message answer = taken_by s (place_in s (tag_of (get_or message 0 0))) (judged_in (sending s message) answer)

-- what taking gives back: the same, the refusal apart; and as C has it, where refused, this sender is kept
abbrev pub progress_at : Sender → ℕ → Progress
progress_at s place = record { sender = (accepted_at s place).sender; ended = (accepted_at s place).ended }

abbrev pub take_by : Sender → List ℕ → List ℕ → Result Progress Refusal
take_by s message answer =
    given (λ _. progress_at s (place_in s (tag_of (get_or message 0 0)))) (judged_in (sending s message) answer)

abbrev pub taken_from : Sender → Result Progress Refusal → Taken
taken_from s (Ok p) = record { refusal = refusal 0; sender = p.sender; ended = p.ended }
taken_from s (Err r) = refused_take s r

-- not "word 1 has bits above 4 set, or bit 4 clear and a tag nonzero"
unfoldable pub word_ok : ℕ → Bool
word_ok w = cond (ltb w 16) (eqb w 0) (ltb w 32)

-- "word 1 gives the next tag, stored plus 1 modulo 16, or 0 if none"
unfoldable pub next_after : ℕ → ℕ
next_after w = cond (ltb w 16) 0 (next_tag (tag_of w))

-- what word 1 of an OK answer makes
abbrev pub sender_from : ℕ → Result Sender Refusal
sender_from w = cond (word_ok w) (Ok (idle (next_after w))) (Err (refusal 38))

-- "discovery status not OK" is 38 too
abbrev pub sender_by : Status → ℕ → Result Sender Refusal
sender_by Went w = sender_from w
sender_by Timeout w = Err (refusal 38)
sender_by Error w = Err (refusal 38)

abbrev pub discovered_from : Reading (List Answered) → Result Sender Refusal
discovered_from (Refused r) = Err r
discovered_from (Means []) = Err (refusal 38)
discovered_from (Means (a ∷ more)) = sender_by a.status (get_or a.payload 1 0)

-- "or from the answer to the fixed discovery .. judged against it by 32 to 35, then 38"
abbrev pub discovered_by : List ℕ → Result Sender Refusal
discovered_by answer = discovered_from (judge discovery_request answer)

-- a refused discovery hands back a sender that 37 stops, whoever goes on with it
abbrev pub or_stopped : Result Sender Refusal → Moved
or_stopped r = moved_from (idle tag_count) r

abbrev pub spoiled : Refusal → Moved
spoiled r = or_stopped (Err r)

unfoldable pub started_at : ℕ → Moved
started_at w = or_stopped (sender_from w)

abbrev pub started_by : Status → ℕ → Moved
started_by Went w = started_at w
started_by Timeout w = spoiled (refusal 38)
started_by Error w = spoiled (refusal 38)

unfoldable pub start_of : List ℕ → Moved
start_of answer = or_stopped (discovered_by answer)
