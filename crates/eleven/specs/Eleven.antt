-- "Now the eleven": eleven restarts in one night, from bytes. Twelve lives of the loader over one controller, which is
-- reset once, on a channel that loses, repeats and reorders; lives that die before they have asked, before they are
-- answered, with nothing offered, with one message waiting, with four, and after their last. proofs/Example.antt
-- computes the night. Assumes nothing.
use Rattle.std.specs.Prelude.{ℕ, zero, suc, ◌+◌, ◌*◌, ◌%◌, ◌≡◌, List, [], ◌∷◌, ◌++◌, replicate}
use Rattle.word.specs.Words.{bytes_of}
use Rattle.header.specs.Limits.{limit, limit_bytes}
use Rattle.message.specs.Discovery.{discovery_bytes}
use Rattle.tags.specs.Record.{places, fresh_record}
use Rattle.completer.specs.Controller.{Controller}
use Rattle.initiator.specs.Sender.{idle}
use Rattle.once.specs.World.{Event, offer, send, arrive, back}
use Rattle.once.specs.Lives.{unasked, asking, Life, unheard, begun, restart, reset, Lives, quietly, next}
use Rattle.exchange.specs.Outcomes.{Outcome}
use Rattle.exchange.specs.Ends.{Loader, ends}
use Rattle.exchange.specs.Terms.{Sound}
use Rattle.exchange.specs.Promise.{window}
use Rattle.exchange.specs.Example.{output, longer, ok}
use Rattle.lives.specs.Lives.{restarts, left, world, Lived, AllLived}
use Rattle.lives.specs.Mistaken.{reading}

-- a fresh controller over these three words, its stored answers and kept requests full of one byte
abbrev pub fresh : List ℕ → ℕ → Controller
fresh memory byte = record {
  memory = memory;
  stored = replicate (places * limit) byte;
  kept = replicate (places * limit_bytes) byte;
  tags = fresh_record;
}

abbrev pub summer : Controller
summer = fresh (0x51 ∷ 0x52 ∷ 0x53 ∷ []) 0

-- Message i of life n writes 100 n + i (hexadecimal) to word i modulo 3. A list of k such messages, from this one and
-- this tag on, is offered.
abbrev pub numbered : ℕ → ℕ → ℕ → List ℕ
numbered n i tag = bytes_of ((0x80010F10 + tag % 16) ∷ (4 * (i % 3)) ∷ (0x100 * n + i) ∷ [])

abbrev pub offers : ℕ → ℕ → ℕ → ℕ → List (Event ends)
offers zero n i tag = []
offers (suc k) n i tag = offer (numbered n i tag) ∷ offers k n (suc i) (suc tag)

abbrev pub sends : List (Event ends)
sends = send 0 ∷ send 1 ∷ send 2 ∷ send 3 ∷ []

-- a sender of this next tag; and a life that asked once, and learnt it
abbrev pub at : ℕ → Loader
at tag = record { sender = idle tag; waiting = [] }

abbrev pub heard : ℕ → List (Event ends) → Life ends
heard tag es = begun (asking [] output [] (at tag)) es

-- The first starts with the fresh pair, unasked. Four wait; the third comes before the second, and is lost then; two
-- are carried out, and the first is answered.
abbrev pub first : Life ends
first =
    begun unasked
    (offers 4 1 0 0 ++ sends ++ arrive 0 output ∷ arrive 2 output ∷ arrive 1 output ∷ back 0 ∷ [])

-- The second dies before it has asked, the third before it is answered: the controller is reset, and comes up with
-- other bytes in its buffers.
abbrev pub third : Life ends
third = unheard ((discovery_bytes, output) ∷ [])

abbrev pub anew : Controller
anew = fresh (0x100 ∷ 0x101 ∷ 0x53 ∷ []) 7

-- The fourth starts with the fresh pair again. Four wait, and no answer comes; two of them are carried out.
abbrev pub fourth : Life ends
fourth =
    begun unasked
    (offers 4 4 0 0 ++ sends
    ++ arrive 1 output ∷ arrive 0 output ∷ arrive 1 longer ∷ arrive 3 output ∷ arrive 0 output ∷ [])

-- The fifth asks while a stranger does; one message waits, is sent twice, and comes twice. The answer to the stranger's
-- discovery reaches the sender.
abbrev pub fifth : Life ends
fifth =
    begun (asking ((reading 0x800200A1, output) ∷ []) output ((discovery_bytes, longer) ∷ []) (at 2))
    (offers 1 5 0 2 ++ send 0 ∷ send 0 ∷ arrive 1 output ∷ arrive 0 output ∷ back 0 ∷ [])

-- The sixth finishes its list of four, the arrivals and the answers crossed.
abbrev pub sixth : Life ends
sixth =
    heard 3
    (offers 4 6 0 3 ++ sends
    ++ arrive 1 output ∷ arrive 0 output ∷ arrive 1 output ∷ arrive 3 output ∷ arrive 2 output ∷ arrive 3 output
    ∷ back 6 ∷ back 3 ∷ back 2 ∷ back 0 ∷ back 5 ∷ [])

-- The seventh dies when it has just heard, the eighth with four waiting, of which none arrived.
abbrev pub eighth : Life ends
eighth = heard 7 (offers 4 8 0 7 ++ sends)

-- The ninth finishes five: the first send of the first comes late, a repeat.
abbrev pub ninth : Life ends
ninth =
    heard 7
    (offers 4 9 0 7 ++ sends
    ++ send 0 ∷ arrive 4 output ∷ arrive 1 output ∷ back 1 ∷ offers 1 9 4 11
    ++ send 3 ∷ arrive 0 output ∷ arrive 2 output ∷ arrive 3 output ∷ arrive 5 output
    ∷ back 6 ∷ back 5 ∷ back 4 ∷ back 2 ∷ [])

-- The tenth asks twice, a stranger in between, and is not answered.
abbrev pub tenth : Life ends
tenth = unheard ((discovery_bytes, output) ∷ (reading 0x800200A1, longer) ∷ (discovery_bytes, output) ∷ [])

-- The eleventh dies with four waiting, all carried out; the answers to the second and the fourth are back.
abbrev pub eleventh : Life ends
eleventh =
    heard 12
    (offers 4 11 0 12 ++ sends
    ++ arrive 0 output ∷ arrive 1 output ∷ arrive 2 output ∷ arrive 3 output ∷ back 2 ∷ back 4 ∷ [])

-- the lives that are over
abbrev pub eleven : Lives ends
eleven =
    (first, restart) ∷ (unheard [], restart) ∷ (third, reset anew) ∷ (fourth, restart) ∷ (fifth, restart)
    ∷ (sixth, restart) ∷ (heard 7 [], restart) ∷ (eighth, restart) ∷ (ninth, restart) ∷ (tenth, restart)
    ∷ (eleventh, restart) ∷ []

-- The twelfth learns tag 0, the one after 15. It reads all three words first, and finishes its list of five.
abbrev pub twelfth : Life ends
twelfth =
    heard 0
    (offer (bytes_of (0x80030020 ∷ 0x00000000 ∷ [])) ∷ offers 3 12 1 1 ++ sends
    ++ arrive 2 output ∷ arrive 0 output ∷ arrive 1 output ∷ arrive 3 output ∷ send 2 ∷ arrive 4 output
    ∷ arrive 3 output ∷ arrive 0 longer ∷ back 7 ∷ back 7 ∷ offers 1 12 4 4
    ++ send 3 ∷ arrive 5 output ∷ back 8 ∷ back 6 ∷ back 5 ∷ back 3 ∷ [])

-- what is seen at the end of a life: how many of its list are carried out, the outcomes it was told, and memory
pub record Seen : Type 0 where
  pub taken : ℕ
  pub outcomes : List Outcome
  pub memory : List ℕ

abbrev pub seen_of : Controller → Life ends → Seen
seen_of c (unheard xs) = record { taken = 0; outcomes = []; memory = (quietly ends c xs).memory }
seen_of c (begun o es) = record {
  taken = (world c o es).taken;
  outcomes = (world c o es).outcomes;
  memory = (world c o es).controller.memory;
}

-- of lives that are over, and of the present one
abbrev pub seen_in : Controller → Lives ends → Life ends → List Seen
seen_in c [] l = seen_of c l ∷ []
seen_in c (k ∷ ls) l = seen_of c k.0 ∷ seen_in (next window restarts c k) ls l

abbrev pub saw : ℕ → List Outcome → ℕ → ℕ → ℕ → Seen
saw taken outcomes a b c = record { taken = taken; outcomes = outcomes; memory = a ∷ b ∷ c ∷ [] }

abbrev pub figures : List Seen
figures =
    saw 2 (ok [] ∷ []) 0x100 0x101 0x53
    ∷ saw 0 [] 0x100 0x101 0x53
    ∷ saw 0 [] 0x100 0x101 0x53
    ∷ saw 2 [] 0x400 0x401 0x53
    ∷ saw 1 [] 0x500 0x401 0x53
    ∷ saw 4 (replicate 4 (ok [])) 0x603 0x601 0x602
    ∷ saw 0 [] 0x603 0x601 0x602
    ∷ saw 0 [] 0x603 0x601 0x602
    ∷ saw 5 (replicate 5 (ok [])) 0x903 0x904 0x902
    ∷ saw 0 [] 0x903 0x904 0x902
    ∷ saw 4 [] 0xB03 0xB01 0xB02
    -- the twelfth read what the eleventh left
    ∷ saw 5 (ok (0xB03 ∷ 0xB01 ∷ 0xB02 ∷ []) ∷ replicate 4 (ok [])) 0xC03 0xC04 0xC02
    ∷ []

pub record Eleven : Type 0 where
  pub sound : Sound summer
  pub allowed : AllLived summer eleven
  pub last : Lived (left summer eleven) twelfth
  pub seen : seen_in summer eleven twelfth ≡ figures
