-- The two ages are sharp: with either one more, or with answers aged by the oldest message that waits, a night that is
-- then allowed breaks the promise. proofs/Sharp.antt computes all three. Assumes nothing.
use Rattle.std.specs.Prelude.{ℕ, zero, suc, ◌+◌, ◌%◌, ◌<◌, List, [], ◌∷◌, ◌++◌, length}
use Rattle.word.specs.Words.{bytes_of}
use Rattle.once.specs.Runs.{Always}
use Rattle.once.specs.World.{Origin, message, stranger, Event, offer, send, arrive, back, other}
use Rattle.once.specs.World.{World, start, finished, given, step}
use Rattle.once.specs.Promise.{Ages, Allowed}
use Rattle.exchange.specs.Ends.{ends}
use Rattle.exchange.specs.Terms.{terms}
use Rattle.exchange.specs.Promise.{window, ages, morning, FirstMessages}
use Rattle.exchange.specs.Example.{controller, loader, output}

-- Message i, with its tag: it writes i + 1 to word 0.
abbrev pub numbered : ℕ → List ℕ
numbered i = bytes_of ((0x80010F10 + i % 16) ∷ 0 ∷ (i + 1) ∷ [])

-- n messages, from message i on, one after the other over a channel that is in order
abbrev pub plainly : ℕ → ℕ → List (Event ends)
plainly zero i = []
plainly (suc n) i = offer (numbered i) ∷ send 0 ∷ arrive i output ∷ back i ∷ plainly n (suc i)

-- The night is allowed with these premises, and memory after it is not what the first k messages make of it.
abbrev pub Breaks : (World ends → Event ends → Type 0) → List (Event ends) → Type 0
Breaks Premises es = Always (step ends window) Premises (start ends controller loader) es
    × (FirstMessages controller.memory (morning controller loader es) → ⊥)

-- the premises of the promise, with these ages
abbrev pub Aged : Ages → World ends → Event ends → Type 0
Aged A w e = Allowed ends terms window A w e

-- 15 made 16: after sixteen messages, the first comes again.
abbrev pub later_requests : Ages
later_requests = record { request = ages.request + 1; answer = ages.answer }

abbrev pub late_request : List (Event ends)
late_request = plainly 16 0 ++ arrive 0 output ∷ []

-- 16 made 17: while the seventeenth message waits, the first one's answer comes again.
abbrev pub later_answers : Ages
later_answers = record { request = ages.request; answer = ages.answer + 1 }

abbrev pub late_answer : List (Event ends)
late_answer = plainly 16 0 ++ offer (numbered 16) ∷ back 0 ∷ []

-- [9] "16 or more behind any waiting message" made 16 or more behind the oldest: the usual premises, but for answers
abbrev pub Near : World ends → Origin → Type 0
Near w (message i) = finished ends w < length w.offered → finished ends w < i + ages.answer
Near w stranger = Unit {0}

abbrev pub ByOldest : World ends → Event ends → Type 0
ByOldest w (offer d) = Aged ages w (offer d)
ByOldest w (send p) = Aged ages w (send p)
ByOldest w (arrive j b) = Aged ages w (arrive j b)
ByOldest w (back n) = (n < length w.answers) × Near w (given ends w n).0
ByOldest w (other x b) = Aged ages w (other x b)

-- While four wait, the first one's answer comes again, 13 behind the oldest of them and 16 behind the newest, whose tag
-- it has. Then the other three arrive, and their answers are back.
abbrev pub behind_newest : List (Event ends)
behind_newest =
    plainly 13 0 ++ offer (numbered 13) ∷ offer (numbered 14) ∷ offer (numbered 15) ∷ offer (numbered 16)
    ∷ send 0 ∷ send 1 ∷ send 2 ∷ back 0 ∷ arrive 13 output ∷ arrive 14 output ∷ arrive 15 output
    ∷ back 13 ∷ back 14 ∷ back 15 ∷ []

pub record Sharp : Type 0 where
  pub requests : Breaks (Aged later_requests) late_request
  pub answers : Breaks (Aged later_answers) late_answer
  pub oldest : Breaks ByOldest behind_newest
