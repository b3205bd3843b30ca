-- The two ends, the channel between them, and what can happen. Promise.antt speaks of runs of `step`.
-- Assumes nothing.
use Rattle.std.specs.Prelude.{ℕ, suc, ◌+◌, Bool, cond, List, [], ◌∷◌, ◌++◌, eqb, ltb, length, get_or}
use Rattle.std.proofs.Math.Option.{Option, none, some}

-- A controller and a sender: what their calls do, and nothing of what holds of it. A message is what is offered and
-- carried out; a datagram is what the channel carries, either way. `Lent` is what the controller is lent for one call,
-- its output.
pub record Ends : Type 1 where
  pub Message : Type 0
  pub Datagram : Type 0
  pub Outcome : Type 0
  pub Lent : Type 0
  pub Controller : Type 0
  pub Sender : Type 0
  -- what the controller is after a datagram, and its answer: none where it refuses
  pub serve : Controller → Lent → Datagram → Controller × Option Datagram
  pub offer : Sender → Message → Sender
  -- what is handed back for the waiting message of that place, counted from the oldest: none where it refuses
  pub send : Sender → ℕ → Option Datagram
  -- what the sender is after an answer, and the outcomes that it hands over: none where it refuses
  pub take : Sender → Datagram → Sender × List Outcome

-- Whose datagram the controller answered: a copy of message i, counted from 0, or somebody else's.
pub data Origin : Type 0 where
  message : ℕ → Origin
  stranger : Origin

-- What can happen, in any order and any number of times.
-- offer d: the message d is offered to the sender.
-- send p: the sender is asked to send the waiting message of place p; what it hands back goes into the air.
-- arrive j b: a copy of what was sent j-th comes to the controller, which is lent b.
-- back n: a copy of what the controller gave n-th comes to the sender.
-- other x b: a datagram x that is no copy of a message comes to the controller, which is lent b.
pub data Event (E : Ends) : Type 0 where
  offer : E.Message → Event E
  send : ℕ → Event E
  arrive : ℕ → E.Lent → Event E
  back : ℕ → Event E
  other : E.Datagram → E.Lent → Event E

-- The two ends, and what has happened so far.
pub record World (E : Ends) : Type 0 where
  pub controller : E.Controller
  pub sender : E.Sender
  -- the messages so far, in order
  pub offered : List E.Message
  -- how many messages came to the controller in their turn: by the laws it accepts these and no other, so that the last
  -- accepted is the last of them
  pub taken : ℕ
  -- the outcomes handed over so far
  pub outcomes : List E.Outcome
  -- what the sender handed back at each send, with the number of its message
  pub air : List (ℕ × Option E.Datagram)
  -- what the controller gave at each arrival
  pub answers : List (Origin × Option E.Datagram)

-- how many are taken after the arrival of a copy of message i: one more if it is in its turn
abbrev pub accepted : ℕ → ℕ → ℕ
accepted i taken = cond (eqb i taken) (suc taken) taken

module _ (E : Ends) where
  -- a controller and a sender before anything has happened
  abbrev pub start : E.Controller → E.Sender → World E
  start c s = record { controller = c; sender = s; offered = []; taken = 0; outcomes = []; air = []; answers = [] }

  -- how many messages are finished
  abbrev pub finished : World E → ℕ
  finished w = length w.outcomes

  -- what was sent j-th, and what the controller gave n-th
  abbrev pub sent : World E → ℕ → ℕ × Option E.Datagram
  sent w j = get_or w.air j (0, none)

  abbrev pub given : World E → ℕ → Origin × Option E.Datagram
  given w n = get_or w.answers n (stranger, none)

  -- the controller gave r to a datagram of that origin, and k messages are taken now
  abbrev pub gave : World E → Origin → ℕ → E.Controller × Option E.Datagram → World E
  gave w from k r =
      record {
        controller = r.0;
        sender = w.sender;
        offered = w.offered;
        taken = k;
        outcomes = w.outcomes;
        air = w.air;
        answers = w.answers ++ (from, r.1) ∷ [];
      }

  -- what was sent for message i comes to the controller; where nothing was handed back, nothing comes
  abbrev pub came : World E → E.Lent → ℕ → Option E.Datagram → World E
  came w b i none = gave w (message i) w.taken (w.controller, none)
  came w b i (some x) = gave w (message i) (accepted i w.taken) (E.serve w.controller b x)

  -- the sender took an answer, and that gave r
  abbrev pub took : World E → E.Sender × List E.Outcome → World E
  took w r =
      record {
        controller = w.controller;
        sender = r.0;
        offered = w.offered;
        taken = w.taken;
        outcomes = w.outcomes ++ r.1;
        air = w.air;
        answers = w.answers;
      }

  -- what the controller gave comes to the sender; where it gave nothing, nothing comes
  abbrev pub heard : World E → Option E.Datagram → World E
  heard w none = w
  heard w (some a) = took w (E.take w.sender a)

  module _ (W : ℕ) where
    -- at most W messages wait: there is room for one more
    abbrev pub room : World E → Bool
    room w = ltb (length w.offered) (finished w + W)

    -- An offer with no room is refused: it is made, and counts for nothing.
    abbrev pub step : World E → Event E → World E
    step w (offer d) =
        record {
          controller = w.controller;
          sender = E.offer w.sender d;
          offered = cond (room w) (w.offered ++ d ∷ []) w.offered;
          taken = w.taken;
          outcomes = w.outcomes;
          air = w.air;
          answers = w.answers;
        }
    step w (send p) =
        record {
          controller = w.controller;
          sender = w.sender;
          offered = w.offered;
          taken = w.taken;
          outcomes = w.outcomes;
          air = w.air ++ (finished w + p, E.send w.sender p) ∷ [];
          answers = w.answers;
        }
    step w (arrive j b) = came w b (sent w j).0 (sent w j).1
    step w (back n) = heard w (given w n).1
    step w (other x b) = gave w stranger w.taken (E.serve w.controller b x)
