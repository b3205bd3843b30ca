-- The promise: its premises, what holds at every moment, and by when messages are finished. The theorems are in
-- proofs/Promise.antt; Laws.antt says of which ends they hold.
-- Assumes nothing.
use Rattle.std.specs.Prelude.{ℕ, ◌+◌, ◌*◌, ◌≤◌, ◌<◌, ◌≡◌, true, length, take}
use mathlib.Core.List.{List, [], ◌∷◌, ◌++◌, foldl}
use Rattle.once.specs.Runs.{run, Always, rounds, Often}
use Rattle.once.specs.World.{Ends, Event, offer, send, arrive, back, other, Origin, message, stranger}
use Rattle.once.specs.World.{World, start, finished, sent, given, room, step}

-- What the promise says of messages, which is in neither end's hands.
pub record Terms (E : Ends) : Type 1 where
  pub Memory : Type 0
  -- the memory that the controller holds
  pub memory : E.Controller → Memory
  -- what carrying out a message makes of memory, and its outcome
  pub carry : Memory → E.Message → Memory
  pub outcome : Memory → E.Message → E.Outcome
  -- the message is well-formed, no discovery, and tagged as offering it to this sender asks
  pub Fits : E.Sender → E.Message → Type 0
  -- the datagram is a discovery without writes
  pub Quiet : E.Datagram → Type 0
  -- what is lent has an allowed length
  pub Lendable : E.Lent → Type 0

-- How far behind something may not arrive.
pub record Ages : Type 0 where
  pub request : ℕ
  pub answer : ℕ

-- The user's: no request 15 or more behind the last accepted, no answer 16 or more behind any waiting message.
abbrev pub usual : Ages
usual = record { request = 15; answer = 16 }

module _ (E : Ends) (T : Terms E) (W : ℕ) (A : Ages) where
  -- The answer is not too old: where a message waits, it answers none that is `A.answer` or more behind the newest
  -- offered, and so behind any that waits. A stranger's never is.
  abbrev pub Timely : World E → Origin → Type 0
  Timely w (message i) = finished E w < length w.offered → length w.offered ≤ i + A.answer
  Timely w stranger = Unit {0}

  -- The premises, event by event.
  abbrev pub Allowed : World E → Event E → Type 0
  -- "Send N well-formed messages, no discoveries, each tagged as offering asks"; "The sender may have up to four
  -- messages waiting": at most W, and an offer beyond that is refused, whatever is offered.
  Allowed w (offer d) = room E W w ≡ true → T.Fits w.sender d
  -- "which stays lent to it and may be sent any number of times". A send of a place where none waits, or one that is
  -- answered, is refused, not forbidden.
  Allowed w (send p) = p < W
  -- "The channel may lose, repeat and reorder but not alter; nothing sent earlier arrives; no request arrives 15 or
  -- more behind the last accepted; buffer lengths are allowed": only what was sent arrives, any number of times, in any
  -- order, or never.
  Allowed w (arrive j b) = (j < length w.air) × (w.taken ≤ (sent E w j).0 + A.request) × T.Lendable b
  -- "no answer may arrive 16 or more behind any waiting message": only what the controller gave comes back, as often
  -- and as late as may be.
  Allowed w (back n) = (n < length w.answers) × Timely w (given E w n).0
  -- "nothing else comes but discoveries without writes": their answers may come back to the sender too.
  Allowed w (other x b) = T.Quiet x × T.Lendable b

module _ {E : Ends} (T : Terms E) where
  -- what the messages, each carried out once in order, make of memory
  abbrev pub made : T.Memory → List E.Message → T.Memory
  made m ds = foldl T.carry m ds

  -- their outcomes
  abbrev pub results : T.Memory → List E.Message → List E.Outcome
  results m [] = []
  results m (d ∷ ds) = T.outcome m d ∷ results (T.carry m d) ds

-- "Then memory is always what the first k messages, each carried out once in order, make of it"; "k lies between the
-- number finished and four more": W more. "Each finished outcome is from that carrying out"; "Outcomes are handed over
-- in order of tag". m is the memory at the start.
pub record Safe (E : Ends) (T : Terms E) (W : ℕ) (m : T.Memory) (w : World E) : Type 0 where
  pub k : ℕ
  pub finished-or : finished E w ≤ k
  pub more : k ≤ finished E w + W
  pub offered : k ≤ length w.offered
  pub memory : T.memory w.controller ≡ made T m (take k w.offered)
  pub outcomes : w.outcomes ≡ results T m (take (finished E w) w.offered)

-- "one arrives and its answer is back before the next send": in the round of the send at w, a message waits, what is
-- sent arrives, and what the controller gives to it comes back. Events of any kind may stand before, between and after.
pub record Good (E : Ends) (W : ℕ) (w : World E) (r : List (Event E)) : Type 0 where
  pub waits : finished E w < length w.offered
  pub first : List (Event E)
  pub lent : E.Lent
  pub between : List (Event E)
  pub last : List (Event E)
  pub is :
      r ≡ first ++ arrive (length w.air) lent
      ∷ (between ++ back (length (run (step E W) w (send 0 ∷ first)).answers) ∷ last)

-- the world after a run of events, from the start
abbrev pub after : (E : Ends) (W : ℕ) → E.Controller → E.Sender → List (Event E) → World E
after E W c s es = run (step E W) (start E c s) es

module _ (E : Ends) (T : Terms E) (W : ℕ) (A : Ages) (c : E.Controller) (s : E.Sender) where
  -- The run is allowed.
  abbrev pub AllowedRun : List (Event E) → Type 0
  AllowedRun es = Always (step E W) (Allowed E T W A) (start E c s) es

  -- At every moment of an allowed run: what has happened so far is itself an allowed run.
  abbrev pub Safety : Type 0
  Safety = (es : List (Event E)) → AllowedRun es → Safe E T W (T.memory c) (after E W c s es)

  -- "If sending goes on and of any L sends in a row (L at least 1) one arrives and its answer is back before the next
  -- send, all are finished by send N times L": for each number K of messages, and from any moment on. "L counts sends
  -- of the oldest unfinished message", and which of them count is free: a round may hold others. One when nothing waits
  -- hands back nothing: it counts among the L, and is not the good one. When K are finished, no more is asked of the
  -- sends.
  abbrev pub Progress : Type 0
  Progress =
      (es : List (Event E)) (rs : List (List (Event E))) (K L : ℕ) → AllowedRun (es ++ rounds (step E W) (send 0) rs) →
      Often (step E W) (send 0) (Good E W) (λ w. K ≤ finished E w) L (after E W c s es) rs → K * L ≤ length rs →
      K ≤ finished E (after E W c s (es ++ rounds (step E W) (send 0) rs))

  -- The premises can always be met further: after any allowed run, whichever message may be offered next, offering it,
  -- sending, and one arrival with its answer are allowed, and the round is good. (Where no more may wait, any may be
  -- offered: it is refused, and the oldest that waits is sent.)
  abbrev pub Extends : Type 0
  Extends =
      (es : List (Event E)) (d : E.Message) (b : E.Lent) → AllowedRun es
      → Allowed E T W A (after E W c s es) (offer d) → T.Lendable b →
      (r : List (Event E)) × AllowedRun (es ++ offer d ∷ send 0 ∷ r) × Good E W (after E W c s (es ++ offer d ∷ [])) r
