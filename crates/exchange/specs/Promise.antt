-- The promise about the two ends of this project, in the user's words: what is assumed, then the theorems.
-- proofs/Promise.antt proves each under its own name, but for `ToldCounts` (proofs/Counts.antt) and for `ComesAlone`,
-- `NeverTwelve` and `AnswerIsOwn` (proofs/Never.antt). The words used here are defined in Ends (the ends, `ends`),
-- Terms (messages and what is lent, `terms`), and in the crate `once`: World (events, and what they do), Promise
-- (`AllowedRun`, `made`, `results`, `Progress`, `Extends`). Assumes nothing.
use Rattle.std.specs.Prelude.{ℕ, suc, ◌+◌, ◌%◌, ◌<◌, ◌≤◌, ◌≡◌, true, false, cond, ◌⊎◌, List, [], ◌∷◌, ◌++◌, length, get_or, take, Ok}
use Rattle.std.proofs.Math.Option.{Option, none, some}
use Rattle.std.proofs.Math.ListN.{get_elem?}
use Rattle.word.specs.Words.{bytes_of}
use Rattle.header.specs.Header.{tag_of, kind_of, discovery_of}
use Rattle.message.specs.Request.{Command, Request, Means}
use Rattle.message.specs.Discovery.{discovery_bytes}
use Rattle.message.specs.Walk.{read, request_of}
use Rattle.answer.specs.Answer.{Answered}
use Rattle.memory.specs.Moves.{fails}
use Rattle.memory.specs.Promises.{carried}
use Rattle.carrying.specs.Answers.{failed}
use Rattle.carrying.specs.Promises.{AnsweredThen}
use Rattle.tags.specs.declared.rule.Verdict.TheVariants.{Repeat}
use Rattle.tags.specs.Record.{is_fresh, holds}
use Rattle.completer.specs.Controller.{Controller, request_in}
use Rattle.completer.specs.Serving.{accepts, after_by, after as after_call}
use Rattle.completer.specs.Called.{allowed}
use Rattle.initiator.specs.declared.sender.Sender.{Sender}
use Rattle.initiator.specs.declared.sender.Taken.{Taken}
use Rattle.initiator.specs.Outcome.{judged_by, count_in}
use Rattle.initiator.specs.Places.{new_tag, with_one}
use Rattle.initiator.specs.Sender.{fresh_sender, take_of, start_of}
use Rattle.once.specs.World.{Ends, Origin, Event, offer, send, arrive, back, other, World, finished, sent, step}
use Rattle.once.specs.Promise.{Ages, AllowedRun, after, made, results, Progress, Extends}
use Rattle.once.specs.Tags.{asked}
use Rattle.exchange.specs.Outcomes.{Outcome, result_of, told, outcome_over}
use Rattle.exchange.specs.Ends.{Loader, awaits, ends}
use Rattle.exchange.specs.Terms.{Offers, Lendable, terms, Sound}

-- "from a fresh pair": [9] the record has no tag, and the sender starts with tag 0
pub record FreshPair (c : Controller) (s : Loader) : Type 0 where
  pub tags : is_fresh c.tags ≡ true
  pub sender : s.sender ≡ fresh_sender

-- "or a discovery answer made since the last accepted request": the sender is made from the answer to the fixed
-- discovery, which the controller gave when its record was what it is now. Its memory, its stored answers, its kept
-- requests and what it was lent may have been others.
pub record Discovered (c : Controller) (s : Loader) : Type 0 where
  pub earlier : Controller
  pub sound : Sound earlier
  pub since : earlier.tags ≡ c.tags
  pub lent : List ℕ
  pub long : Lendable lent
  pub answer : List ℕ
  pub given : (ends.serve earlier lent discovery_bytes).1 ≡ some answer
  pub sender : s.sender ≡ (start_of answer).sender

-- The start: an allowed controller, nothing lent to the sender, and one of the two.
pub record Begins (c : Controller) (s : Loader) : Type 0 where
  pub sound : Sound c
  pub nothing : s.waiting ≡ []
  pub pair : FreshPair c s ⊎ Discovered c s

-- [9] "The sender may have up to four messages waiting"
abbrev pub window : ℕ
window = 4

-- "no request arrives 15 or more behind the last accepted", [9] "no answer may arrive 16 or more behind any waiting
-- message"
abbrev pub ages : Ages
ages = record { request = 15; answer = 16 }

-- "Send N well-formed messages, no discoveries, each tagged as offering asks", up to four waiting. "The channel may
-- lose, repeat and reorder but not alter; nothing sent earlier arrives; nothing else comes but discoveries without
-- writes, buffer lengths are allowed": each event is allowed where it happens (`Allowed` of once). Nobody else touches
-- buffers, memory or records: only these events happen.
abbrev pub Night : Controller → Loader → List (Event ends) → Type 0
Night c s es = AllowedRun ends terms window ages c s es

-- the world after them
abbrev pub morning : Controller → Loader → List (Event ends) → World ends
morning c s es = after ends window c s es

-- "Then memory is always what the first k messages, each carried out once in order, make of it", [9] "k lies between
-- the number finished and four more".
pub record FirstMessages (m : List ℕ) (w : World ends) : Type 0 where
  pub k : ℕ
  pub least : finished ends w ≤ k
  pub most : k ≤ finished ends w + window
  pub offered : k ≤ length w.offered
  pub memory : w.controller.memory ≡ made terms m (take k w.offered)

abbrev pub Memory : Type 0
Memory = (c : Controller) (s : Loader) → Begins c s → (es : List (Event ends)) → Night c s es
    → FirstMessages c.memory (morning c s es)

-- the newest tag that the controller's record holds; none if it is fresh
abbrev pub tag_held : Controller → Option ℕ
tag_held c = cond (is_fresh c.tags) none (some c.tags.tag)

-- the controller holds the message's tag, and keeps the message for it
pub record HeldBy (c : Controller) (message : List ℕ) : Type 0 where
  pub held : holds c.tags (tag_of (get_or message 0 0)) ≡ true
  pub kept : request_in c.kept c.tags (tag_of (get_or message 0 0)) ≡ message

-- The newest tag that the controller's record holds is that of the last message counted as accepted, and what it was at
-- the start if none is; those counted so are the first messages, and they made memory. w.taken is their number. The
-- controller holds the last four of them.
pub record RecordHolds (c : Controller) (w : World ends) : Type 0 where
  pub offered : w.taken ≤ length w.offered
  pub memory : w.controller.memory ≡ made terms c.memory (take w.taken w.offered)
  pub first : w.taken ≡ 0 → tag_held w.controller ≡ tag_held c
  pub last : (i : ℕ) (message : List ℕ) → suc i ≡ w.taken → get_elem? w.offered i ≡ some message
      → tag_held w.controller ≡ some (tag_of (get_or message 0 0))
  pub four : (i : ℕ) (message : List ℕ) → i < w.taken → w.taken ≤ i + window → get_elem? w.offered i ≡ some message
      → HeldBy w.controller message

abbrev pub LastAccepted : Type 0
LastAccepted = (c : Controller) (s : Loader) → Begins c s → (es : List (Event ends)) → Night c s es
    → RecordHolds c (morning c s es)

-- "Each finished outcome is from that carrying out", [9] "Outcomes are handed over in order of tag": `results` takes
-- `outcome_over` (Outcomes) of each message, in order, over memory as the ones before it made it.
pub record OutcomesOf (m : List ℕ) (w : World ends) : Type 0 where
  pub offered : finished ends w ≤ length w.offered
  pub are : w.outcomes ≡ results terms m (take (finished ends w) w.offered)

abbrev pub FinishedOutcomes : Type 0
FinishedOutcomes = (c : Controller) (s : Loader) → Begins c s → (es : List (Event ends)) → Night c s es
    → OutcomesOf c.memory (morning c s es)

-- That outcome, command by command, is "the status and read data of each answered command": each command up to the
-- first that fails is answered with its status, and a read with memory's words at that moment (`AnsweredThen` of
-- carrying).
abbrev pub OutcomeThen : Type 0
OutcomeThen =
    (memory message : List ℕ) (before : List Command) (c : Command) (behind : List Command)
    → (request_of message).commands ≡ before ++ (c ∷ behind)
    → carried (kind_of (request_of message).byte0) (length memory) before ≡ before
    → (a : Answered)
    × (get_or (outcome_over memory message) (length before) (result_of (kind_of (request_of message).byte0) failed)
    ≡ result_of (kind_of (request_of message).byte0) a)
    × AnsweredThen (request_of message) 0 memory before c a

-- n is the number of the message's commands "up to the last or the first Error", over this memory: so it is not 0.
pub record UpToError (memory message : List ℕ) (n : ℕ) : Type 0 where
  pub all :
      carried (kind_of (request_of message).byte0) (length memory) (request_of message).commands
      ≡ (request_of message).commands → n ≡ length (request_of message).commands
  pub error :
      (before : List Command) (c : Command) (behind : List Command)
      → (request_of message).commands ≡ before ++ (c ∷ behind)
      → carried (kind_of (request_of message).byte0) (length memory) before ≡ before
      → fails (kind_of (request_of message).byte0) (length memory) c ≡ true → n ≡ suc (length before)
  pub some : 0 < n

-- outcome i, o, has as many commands: those of message i, over memory as the ones before it made it
pub record CommandsOf (m : List ℕ) (w : World ends) (i : ℕ) (o : Outcome) : Type 0 where
  pub message : List ℕ
  pub is : get_elem? w.offered i ≡ some message
  pub many : UpToError (made terms m (take i w.offered)) message (length o)

-- How many commands a finished outcome has: those of its message up to the first Error, so at least one.
abbrev pub OutcomeCounts : Type 0
OutcomeCounts = (c : Controller) (s : Loader) → Begins c s → (es : List (Event ends)) → Night c s es
    → (i : ℕ) (o : Outcome) → get_elem? (morning c s es).outcomes i ≡ some o
    → CommandsOf c.memory (morning c s es) i o

-- and what the loader is told has as many as `answered` says
abbrev pub ToldCounts : Type 0
ToldCounts = (message answer : List ℕ) → length (told message answer) ≡ count_in (judged_by (read message) answer)

-- what comes to the controller at an event, and what it is lent then, of any two ends: what was sent j-th, where
-- something was handed back, or another datagram
abbrev pub lent_to : {D L : Type 0} → L → Option D → Option (D × L)
lent_to output none = none
lent_to output (some datagram) = some (datagram, output)

abbrev pub comes : (E : Ends) → World E → Event E → Option (E.Datagram × E.Lent)
comes E w (offer message) = none
comes E w (send p) = none
comes E w (arrive j output) = lent_to output (sent E w j).1
comes E w (back n) = none
comes E w (other datagram output) = some (datagram, output)

-- what the controller is after that, and what it gives
abbrev pub called_on : (E : Ends) → E.Controller → Option (E.Datagram × E.Lent) → E.Controller × Option E.Datagram
called_on E c none = (c, none)
called_on E c (some call) = E.serve c call.1 call.0

-- Nothing else is served: neither the controller nor an answer comes of anything else.
pub record Alone (E : Ends) (w : World E) (e : Event E) : Type 0 where
  pub controller : (step E window w e).controller ≡ (called_on E w.controller (comes E w e)).0
  pub answers : ((step E window w e).answers ≡ w.answers)
      ⊎ ((from : Origin)
      × ((step E window w e).answers ≡ w.answers ++ (from, (called_on E w.controller (comes E w e)).1) ∷ []))

-- So it is of any two ends, also of a controller that counts its calls: a call that changes nothing and gives nothing,
-- as one that is refused, is named too.
abbrev pub ComesAlone : Type 1
ComesAlone = (E : Ends) (w : World E) (e : Event E) → Alone E w e

-- [7] "Under demand 3's premises 12 is never given": not at any event of a night, to whatever comes
abbrev pub NeverTwelve : Type 0
NeverTwelve = (c : Controller) (s : Loader) → Begins c s → (es : List (Event ends)) (e : Event ends)
    → Night c s (es ++ e ∷ []) → (datagram output : List ℕ) → comes ends (morning c s es) e ≡ some (datagram, output)
    → (after_call (morning c s es).controller output datagram).refusal.number ≡ 12 → ⊥

-- And whatever the channel does: a message that is answered is carried out by that very call, or it is the kept request
-- of its tag, and then "the stored answer is sent, nothing else happens", the one of its tag.
abbrev pub AnswerIsOwn : Type 0
AnswerIsOwn = (c : Controller) (output message : List ℕ) (r : Request) → allowed c output ≡ true
    → read message ≡ Means r → discovery_of r.byte0 ≡ false → (after_call c output message).refusal.number ≡ 0
    → (after_call c output message ≡ accepts c output message)
    ⊎ ((request_in c.kept c.tags (tag_of r.byte0) ≡ message)
    × (after_call c output message ≡ after_by (Ok (Repeat (tag_of r.byte0))) c output message))

-- The sender refuses an answer, and does not change.
pub record RefusedStill (s : Sender) (r : Taken) : Type 0 where
  pub refused : r.refusal.number ≡ 0 → ⊥
  pub sender : r.sender ≡ s
  pub ended : r.ended ≡ 0

-- `take` is lent the message that waits, is not yet answered and has the answer's tag (`awaits`). Whichever message of
-- another tag than that one's is lent to it with that answer, or any where there is none, it is refused, and the sender
-- does not change.
abbrev pub OnlyItsOwn : Type 0
OnlyItsOwn = (c : Controller) (s : Loader) → Begins c s → (es : List (Event ends)) → Night c s es
    → (message answer : List ℕ)
    → ((own : List ℕ) → awaits (tag_of (get_or answer 0 0)) (morning c s es).sender.waiting ≡ some own
    → tag_of (get_or message 0 0) ≡ tag_of (get_or own 0 0) → ⊥)
    → RefusedStill (morning c s es).sender.sender (take_of (morning c s es).sender.sender message answer)

-- "If sending goes on and of any L sends in a row (L at least 1) one arrives and its answer is back before the next
-- send, all are finished by send N times L", [9] "L counts sends of the oldest unfinished message": for each number of
-- messages, and from any moment on; between those sends others may be sent (`Progress` of once).
abbrev pub AllFinished : Type 0
AllFinished = (c : Controller) (s : Loader) → Begins c s → Progress ends terms window ages c s

-- The premises can always be met further: a message that may be offered can be offered, sent, and its answer be back
-- (`Extends`).
abbrev pub NeverStuck : Type 0
NeverStuck = (c : Controller) (s : Loader) → Begins c s → Extends ends terms window ages c s

-- For each sender of next tag 0 to 15 at which fewer than four wait some message fits: a NOP of count 0, LAST, of "the
-- tag after the newest". Offering it is accepted.
abbrev pub nop_of : ℕ → List ℕ
nop_of tag = bytes_of ((0x80000000 + tag) ∷ [])

pub record Fitting (s : Loader) (message : List ℕ) : Type 0 where
  pub fits : Offers s message
  pub accepted : ends.offer s message ≡ record {
    sender = with_one s.sender;
    waiting = s.waiting ++ asked message ∷ [];
  }

abbrev pub SomeFits : Type 0
SomeFits = (s : Loader) → s.sender.next < 16 → s.sender.waiting < window → Fitting s (nop_of (new_tag s.sender))

-- "each tagged as offering asks" is what the sender's record says: message i, counted from 0, has the tag that is i
-- after the first next tag, the record's next tag is that of the message to be finished next, and it says that all
-- behind the finished ones wait.
pub record TagsAsked (s : Loader) (w : World ends) : Type 0 where
  pub tags : (i : ℕ) (message : List ℕ) → get_elem? w.offered i ≡ some message
      → tag_of (get_or message 0 0) ≡ (s.sender.next + i) % 16
  pub next : w.sender.sender.next ≡ (s.sender.next + finished ends w) % 16
  pub waiting : finished ends w + w.sender.sender.waiting ≡ length w.offered

abbrev pub Tags : Type 0
Tags = (c : Controller) (s : Loader) → Begins c s → (es : List (Event ends)) → Night c s es
    → TagsAsked s (morning c s es)
