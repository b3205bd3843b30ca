-- The two ends of this project, as `once` wants them: each call is the definition that the contract of its function
-- cites, or for `offer`, `send` and `take` the one that `ResultsTell` of `initiator` ties to it. Assumes nothing.
use Rattle.std.specs.Prelude.{ℕ, cond, List, [], ◌∷◌, ◌++◌, eqb, get_or, take, drop}
use Rattle.std.proofs.Math.Option.{Option, none, some}
use Rattle.std.proofs.Math.ListN.{get_elem?}
use Rattle.header.specs.Header.{tag_of}
use Rattle.completer.specs.Controller.{Controller, After}
use Rattle.completer.specs.Serving.{after}
use Rattle.initiator.specs.declared.sender.Sender.{Sender}
use Rattle.initiator.specs.declared.sender.Moved.{Moved}
use Rattle.initiator.specs.declared.sender.Taken.{Taken}
use Rattle.initiator.specs.Sender.{offer_of, send_of, take_of}
use Rattle.once.specs.World.{Ends}
use Rattle.once.specs.Tags.{Slot, asked, answered, message_in}
use Rattle.exchange.specs.Outcomes.{Outcome, told}

-- A message that waits stays lent to the sender. [9] "A message answered before an older one still counts as waiting
-- until the older one ends, its answer staying lent".
abbrev pub Waiting : Type 0
Waiting = Slot (List ℕ) (List ℕ)

-- The loader: the sender's record, and what is lent to it, the oldest message first.
pub record Loader : Type 0 where
  pub sender : Sender
  pub waiting : List Waiting

-- `serve`: the controller after it, and "the first n of the output, n being the returned length"; nothing where it
-- refuses
abbrev pub sent_in : After → Option (List ℕ)
sent_in a = cond (eqb a.refusal.number 0) (some (take a.sent a.output)) none

abbrev pub serve_by : (Controller → List ℕ → List ℕ → After) → Controller → List ℕ → List ℕ
    → Controller × Option (List ℕ)
serve_by call c output datagram = ((call c output datagram).controller, sent_in (call c output datagram))

-- `offer`: an accepted message stays lent to the sender, behind those that wait
abbrev pub offered_in : Moved → Loader → List ℕ → Loader
offered_in r s message =
    cond (eqb r.refusal.number 0) (record { sender = r.sender; waiting = s.waiting ++ asked message ∷ [] }) s

-- `send`: the bytes that it hands back, lent the message of one place; none where they are none
abbrev pub handed : List ℕ → Option (List ℕ)
handed [] = none
handed (b ∷ bytes) = some (b ∷ bytes)

abbrev pub send_at : Sender → Option Waiting → Option (List ℕ)
send_at s none = none
send_at s (some x) = handed (send_of s (message_in x))

-- `take` is lent the message that waits, is not yet answered and has the answer's tag
abbrev pub awaits : ℕ → List Waiting → Option (List ℕ)
awaits tag [] = none
awaits tag (asked message ∷ l) = cond (eqb (tag_of (get_or message 0 0)) tag) (some message) (awaits tag l)
awaits tag (answered message answer ∷ l) = awaits tag l

-- and from then on the answer is lent beside it
abbrev pub with_answer : ℕ → List ℕ → List Waiting → List Waiting
with_answer tag a [] = []
with_answer tag a (asked message ∷ l) =
    cond (eqb (tag_of (get_or message 0 0)) tag) (answered message a ∷ l) (asked message ∷ with_answer tag a l)
with_answer tag a (answered message answer ∷ l) = answered message answer ∷ with_answer tag a l

-- what the outcome functions tell of each lent pair, "in order of tag"
abbrev pub outcomes_in : List Waiting → List Outcome
outcomes_in [] = []
outcomes_in (asked message ∷ l) = outcomes_in l
outcomes_in (answered message answer ∷ l) = told message answer ∷ outcomes_in l

-- Where `take` accepts, as many messages end as it says, the oldest; the others stay lent, `lent` being all of them.
abbrev pub taken_in : Taken → Loader → List Waiting → Loader × List Outcome
taken_in r s lent =
    cond (eqb r.refusal.number 0)
    (record { sender = r.sender; waiting = drop r.ended lent }, outcomes_in (take r.ended lent)) (s, [])

-- Where no such message waits, nothing is lent and nothing happens.
abbrev pub take_by : Option (List ℕ) → Loader → List ℕ → Loader × List Outcome
take_by none s answer = (s, [])
take_by (some message) s answer =
    taken_in (take_of s.sender message answer) s (with_answer (tag_of (get_or answer 0 0)) answer s.waiting)

-- the two ends, where a controller's call does what `call` says; ours does what `after` says
abbrev pub ends_by : (Controller → List ℕ → List ℕ → After) → Ends
ends_by call =
    record {
      Message = List ℕ;
      Datagram = List ℕ;
      Outcome = Outcome;
      Lent = List ℕ;
      Controller = Controller;
      Sender = Loader;
      serve = serve_by call;
      offer = λ s message. offered_in (offer_of s.sender message) s message;
      send = λ s p. send_at s.sender (get_elem? s.waiting p);
      take = λ s answer. take_by (awaits (tag_of (get_or answer 0 0)) s.waiting) s answer;
    }

abbrev pub ends : Ends
ends = ends_by after
