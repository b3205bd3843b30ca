-- A closed night from bytes, four in flight: two writes and two reads wait, and a fifth message is refused. Two come
-- too early, and again; a send comes late, and one never; arrivals and answers come twice; the answers are crossed, so
-- that three messages end at once; a discovery in between, whose answer reaches the sender; repeats of the fourth-last;
-- and a sender made anew. proofs/Example.antt computes it. Assumes nothing.
use Rattle.std.specs.Prelude.{ℕ, ◌+◌, ◌*◌, ◌≡◌, List, [], ◌∷◌, ◌++◌, replicate, Some}
use Rattle.std.proofs.Math.Option.{Option, none, some}
use Rattle.word.specs.Words.{bytes_of}
use Rattle.header.specs.Limits.{limit, limit_bytes}
use Rattle.header.specs.Refusal.{refusal}
use Rattle.message.specs.Discovery.{discovery_bytes}
use Rattle.answer.specs.declared.Status.TheVariants.{Ok}
use Rattle.tags.specs.Record.{places, fresh_record}
use Rattle.completer.specs.Controller.{Controller}
use Rattle.completer.specs.Serving.{after}
use Rattle.initiator.specs.Sender.{idle, fresh_sender, start_of}
use Rattle.once.specs.World.{Origin, Event, offer, send, arrive, back, other, message, stranger}
use Rattle.exchange.specs.Outcomes.{Outcome}
use Rattle.exchange.specs.Ends.{Loader, ends}
use Rattle.exchange.specs.Promise.{Begins, Night, morning}

-- A fresh pair: a memory of two zero words, and the stored answers and the kept requests of the least length.
abbrev pub controller : Controller
controller = record {
  memory = 0 ∷ 0 ∷ [];
  stored = replicate (places * limit) 0;
  kept = replicate (places * limit_bytes) 0;
  tags = fresh_record;
}

abbrev pub loader : Loader
loader = record { sender = fresh_sender; waiting = [] }

-- Outputs of two lengths, with something in them.
abbrev pub output : List ℕ
output = replicate limit_bytes 170

abbrev pub longer : List ℕ
longer = replicate (limit_bytes + 3) 85

-- Tag 0: FEEDC0DE is written to word 1. Tag 1: words 0 and 1 are read. Tag 2: ABADCAFE is written to word 0. Tag 3:
-- words 0 and 1 are read again. Tag 4: 0 is written to word 1.
abbrev pub write : List ℕ
write = bytes_of (0x80010F10 ∷ 0x00000004 ∷ 0xFEEDC0DE ∷ [])

abbrev pub reading : List ℕ
reading = bytes_of (0x80020021 ∷ 0x00000000 ∷ [])

abbrev pub second : List ℕ
second = bytes_of (0x80010F12 ∷ 0x00000000 ∷ 0xABADCAFE ∷ [])

abbrev pub rereading : List ℕ
rereading = bytes_of (0x80020023 ∷ 0x00000000 ∷ [])

abbrev pub clear : List ℕ
clear = bytes_of (0x80010F14 ∷ 0x00000004 ∷ 0x00000000 ∷ [])

-- until the first answer is back
abbrev pub underway : List (Event ends)
underway =
    -- four wait, and a fifth is refused; each is sent, the oldest twice
    offer write ∷ offer reading ∷ offer second ∷ offer rereading ∷ offer clear
    ∷ send 0 ∷ send 1 ∷ send 2 ∷ send 3 ∷ send 0
    -- the reading comes before the write, whose first send does not come yet; then the write's second does, and the
    -- reading again
    ∷ arrive 1 output ∷ arrive 4 output ∷ arrive 1 longer
    -- the last comes before the third; a discovery; and the last again
    ∷ arrive 3 output ∷ arrive 2 output ∷ other discovery_bytes output ∷ arrive 3 longer
    -- the write's first send comes now, the fourth-last; and the third once more
    ∷ arrive 0 output ∷ arrive 2 output ∷ []

abbrev pub night : List (Event ends)
night =
    underway
    -- the discovery's answer reaches the sender, then the last one's, twice, and the third one's; the write's ends it
    ++ back 5 ∷ back 6 ∷ back 6 ∷ back 4 ∷ back 1
    -- the fifth is offered again, and sent; the third, answered, is not; the reading's answer ends three messages
    ∷ offer clear ∷ send 3 ∷ send 1 ∷ back 2
    -- the write's answer comes again; the fifth is sent once more, and lost; its first send comes
    ∷ back 7 ∷ send 0 ∷ arrive 5 output
    -- the reading, the fourth-last now, is repeated; the write is older; the fifth one's answer is back
    ∷ arrive 1 output ∷ arrive 0 output ∷ back 9 ∷ []

-- what the controller gave at each arrival, the words of it: nothing to what came too early, and nothing to the write
-- when four others were held; each time the same to a repeat, its own; 800200B0, the limit and 12 to the discovery
abbrev pub given : List (Origin × Option (List ℕ))
given =
    (message 1, none)
    ∷ (message 0, some (bytes_of (0x80000030 ∷ [])))
    ∷ (message 1, some (bytes_of (0x80020031 ∷ 0x00000000 ∷ 0xFEEDC0DE ∷ [])))
    ∷ (message 3, none)
    ∷ (message 2, some (bytes_of (0x80000032 ∷ [])))
    ∷ (stranger, some (bytes_of (0x800200B0 ∷ limit_bytes ∷ 0x00000012 ∷ [])))
    ∷ (message 3, some (bytes_of (0x80020033 ∷ 0xABADCAFE ∷ 0xFEEDC0DE ∷ [])))
    ∷ (message 0, some (bytes_of (0x80000030 ∷ [])))
    ∷ (message 2, some (bytes_of (0x80000032 ∷ [])))
    ∷ (message 4, some (bytes_of (0x80000034 ∷ [])))
    ∷ (message 1, some (bytes_of (0x80020031 ∷ 0x00000000 ∷ 0xFEEDC0DE ∷ [])))
    ∷ (message 0, none)
    ∷ []

-- A sender made from the answer to a discovery that comes now: a start with this controller, whatever memory held then.
abbrev pub anew : Loader
anew = record { sender = (start_of (bytes_of (0x800200B0 ∷ limit_bytes ∷ 0x00000014 ∷ []))).sender; waiting = [] }

abbrev pub Anew : Type 0
Anew = Begins (morning controller loader night).controller anew

-- the outcome of one command that is OK, with these words read
abbrev pub ok : List ℕ → Outcome
ok words = record { ending = Some Ok; words = words } ∷ []

abbrev pub outcomes : List Outcome
outcomes = ok [] ∷ ok (0 ∷ 0xFEEDC0DE ∷ []) ∷ ok [] ∷ ok (0xABADCAFE ∷ 0xFEEDC0DE ∷ []) ∷ ok [] ∷ []

-- The premises, and the end.
pub record Played : Type 0 where
  pub begins : Begins controller loader
  pub allowed : Night controller loader night
  pub given : (morning controller loader night).answers ≡ given
  -- none is finished yet, and four have made memory: k is "four more"
  pub none : (morning controller loader underway).outcomes ≡ []
  pub four : (morning controller loader underway).controller.memory ≡ 0xABADCAFE ∷ 0xFEEDC0DE ∷ []
  -- what comes too early is 11, as the reading to the fresh controller; so is what is older than the four, as the write
  -- in the end
  pub early : (after controller output reading).refusal ≡ refusal 11
  pub older : (after (morning controller loader night).controller output write).refusal ≡ refusal 11
  pub memory : (morning controller loader night).controller.memory ≡ 0xABADCAFE ∷ 0 ∷ []
  pub outcomes : (morning controller loader night).outcomes ≡ outcomes
  pub sender : (morning controller loader night).sender ≡ record { sender = idle 5; waiting = [] }
  pub anew : Anew
