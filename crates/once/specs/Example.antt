-- Closed runs of the plain pair: a bad night with four in flight that the premises allow; and runs that break the
-- promise, which the premises would allow with an age of one more, with answers aged by the oldest that waits, or with
-- a window of nine. proofs/Example.antt and proofs/Sharp.antt compute them. Assumes nothing.
use Rattle.std.specs.Prelude.{ℕ, zero, suc, ◌+◌, ◌*◌, ◌-◌, ◌%◌, ◌<◌, List, [], ◌∷◌, ◌++◌, length}
use Rattle.once.specs.Runs.{Always, rounds}
use Rattle.once.specs.World.{Ends, Origin, message, stranger, Event, offer, send, arrive, back, other}
use Rattle.once.specs.World.{World, start, finished, given, step}
use Rattle.once.specs.Promise.{Terms, Ages, usual, Allowed, Safe, after}
use Rattle.once.specs.Pair.{Work, Message, discovery, Controller, Sender, ends, terms}

-- Memory is a list of numbers. Carrying out 0 leaves it as it is, and any other number is put at its end; the outcome
-- is how many numbers memory held.
abbrev pub put : List ℕ → ℕ → List ℕ
put m zero = m
put m (suc n) = m ++ suc n ∷ []

abbrev pub numbers : Work
numbers = record { Memory = List ℕ; Body = ℕ; Outcome = ℕ; carry = put; outcome = λ m n. length m }

-- message i, with its tag
abbrev pub numbered : ℕ → Message numbers
numbered i = (i % 16, i + 1)

-- a fresh pair
abbrev pub controller : Controller numbers
controller = record { memory = []; stored = [] }

abbrev pub sender : Sender numbers
sender = record { next = 0; waiting = [] }

module _ (W : ℕ) where
  abbrev pub pair : Ends
  pair = ends numbers W

  abbrev pub about : Terms pair
  about = terms numbers W

  -- With these premises the run is allowed; and the world after it.
  abbrev pub May : (World pair → Event pair → Type 0) → List (Event pair) → Type 0
  May Premises es = Always (step pair W) Premises (start pair controller sender) es

  abbrev pub end : List (Event pair) → World pair
  end es = after pair W controller sender es

  -- The run is allowed with these premises, and the promise is broken after it.
  abbrev pub Breaks : (World pair → Event pair → Type 0) → List (Event pair) → Type 0
  Breaks Premises es = May Premises es × (Safe pair about W [] (end es) → ⊥)

  -- those of the promise, with these ages
  abbrev pub Aged : Ages → World pair → Event pair → Type 0
  Aged A w e = Allowed pair about W A w e

  -- those with the usual ages, but that an answer's is counted from the oldest that waits
  abbrev pub Near : World pair → Origin → Type 0
  Near w (message i) = finished pair w < length w.offered → finished pair w < i + usual.answer
  Near w stranger = Unit {0}

  abbrev pub ByOldest : World pair → Event pair → Type 0
  ByOldest w (offer d) = Aged usual w (offer d)
  ByOldest w (send p) = Aged usual w (send p)
  ByOldest w (arrive j b) = Aged usual w (arrive j b)
  ByOldest w (back n) = (n < length w.answers) × Near w (given pair w n).0
  ByOldest w (other x b) = Aged usual w (other x b)

  -- n messages, from message i on, one after the other over a channel that is in order
  abbrev pub plainly : ℕ → ℕ → List (Event pair)
  plainly zero i = []
  plainly (suc n) i = offer (numbered i) ∷ send 0 ∷ arrive i 1 ∷ back i ∷ plainly n (suc i)

  -- n messages are offered, from message i on; n sends, of the places from p on
  abbrev pub offers : ℕ → ℕ → List (Event pair)
  offers zero i = []
  offers (suc n) i = offer (numbered i) ∷ offers n (suc i)

  abbrev pub sends : ℕ → ℕ → List (Event pair)
  sends zero p = []
  sends (suc n) p = send p ∷ sends n (suc p)

  -- n sends arrive, from send j on; n answers come back, from answer a on
  abbrev pub arrivals : ℕ → ℕ → List (Event pair)
  arrivals zero j = []
  arrivals (suc n) j = arrive j 1 ∷ arrivals n (suc j)

  abbrev pub backs : ℕ → ℕ → List (Event pair)
  backs zero a = []
  backs (suc n) a = back a ∷ backs n (suc a)

-- Four messages are carried out; the answers to the fourth and to the second come back first.
abbrev pub crossed : List (Event (pair 4))
crossed = offers 4 4 0 ++ sends 4 4 0 ++ arrivals 4 4 0 ++ back 3 ∷ back 1 ∷ []

-- Before the first counted send: a send when nothing waits, four offers, and a fifth.
abbrev pub evening : List (Event (pair 4))
evening = send 0 ∷ offers 4 4 0 ++ offer (numbered 9) ∷ []

-- Two rounds for the four messages from 4 g on. The first send of the oldest does not arrive. The others are sent, and
-- arrive too early. A discovery comes, and its answer reaches the sender.
abbrev pub first : ℕ → List (Event (pair 4))
first g =
    send 3 ∷ send 2 ∷ send 1 ∷ arrive (6 * g + 2) 1 ∷ arrive (6 * g + 3) 1 ∷ arrive (6 * g + 4) 1
    ∷ other (discovery 0) 1 ∷ back (13 * g + 3) ∷ []

-- The second send of the oldest arrives, and then the others in order; each of the four once more; and a message 14
-- behind the last of them, or the first where there is none so old. The fourth one's answer is back, twice, and the
-- second one's, which is sent once more. Then the first one's ends two, and the third one's the others. The next four
-- are offered, and the answer to the message 15 behind the newest of them, or the first one's, comes again.
abbrev pub second : ℕ → List (Event (pair 4))
second g =
    arrive (6 * g + 5) 1 ∷ arrive (6 * g + 4) 1 ∷ arrive (6 * g + 3) 1 ∷ arrive (6 * g + 2) 1
    ∷ arrive (6 * g + 5) 9 ∷ arrive (6 * g + 4) 9 ∷ arrive (6 * g + 3) 9 ∷ arrive (6 * g + 2) 9
    ∷ arrive (6 * (g - 3) + 4) 1
    ∷ back (13 * g + 7) ∷ back (13 * g + 11) ∷ back (13 * g + 5) ∷ send 1 ∷ back (13 * g + 4) ∷ back (13 * g + 10)
    ∷ (offers 4 4 (4 * g + 4) ++ back (13 * (g - 2) + 4) ∷ [])

-- the rounds of n times four messages, from 4 g on
abbrev pub rows : ℕ → ℕ → List (List (Event (pair 4)))
rows zero g = []
rows (suc n) g = first g ∷ second g ∷ rows n (suc g)

-- n sends that are lost
abbrev pub lost : ℕ → List (List (Event (pair 4)))
lost zero = []
lost (suc n) = [] ∷ lost n

-- The bad night: twenty messages, so that tags go past 15, and then sends up to the fortieth.
abbrev pub all_rows : List (List (Event (pair 4)))
all_rows = rows 5 0 ++ lost 30

abbrev pub night : List (Event (pair 4))
night = evening ++ rounds (step (pair 4) 4) (send 0) all_rows

-- With requests let in that are one more behind: after sixteen messages, the first comes again.
abbrev pub later_requests : Ages
later_requests = record { request = usual.request + 1; answer = usual.answer }

abbrev pub late_request : List (Event (pair 4))
late_request = plainly 4 16 0 ++ arrive 0 1 ∷ []

-- With answers let in that are one more behind: while the seventeenth message waits, the first one's answer comes
-- again.
abbrev pub later_answers : Ages
later_answers = record { request = usual.request; answer = usual.answer + 1 }

abbrev pub late_answer : List (Event (pair 4))
late_answer = plainly 4 16 0 ++ offer (numbered 16) ∷ back 0 ∷ []

-- "behind any waiting message": while four wait, the first one's answer comes again, 13 behind the oldest of them and
-- 16 behind the newest, whose tag it has. Then the other three arrive, and their answers are back.
abbrev pub behind_newest : List (Event (pair 4))
behind_newest = plainly 4 13 0 ++ offers 4 4 13 ++ sends 4 3 0 ++ back 0 ∷ arrivals 4 3 13 ++ backs 4 3 13

-- With a window of nine: the last of nine that wait is eight ahead of the next, and has the tag of the one eight behind
-- it, whose stored answer it gets. Then the other eight arrive, and their answers are back.
abbrev pub nine : List (Event (pair 9))
nine = plainly 9 8 0 ++ offers 9 9 8 ++ sends 9 9 0 ++ arrive 16 1 ∷ back 8 ∷ arrivals 9 8 8 ++ backs 9 8 9
