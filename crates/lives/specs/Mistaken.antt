-- A hazard, and what cures it. A loader begins from the answer to its own discovery. The answer to a stranger's
-- discovery that reads two words, with tag 0 and a 32-bit address, has the very header of that answer, and memory's
-- words where the advertisement's stand: `Mistaken`, computed in proofs/Example.antt. So everybody else's discoveries
-- carry a tag that is not 0: `OthersRefused`, proved in proofs/Others.antt. Assumes nothing.
use Rattle.std.specs.Prelude.{ℕ, ◌*◌, ◌≡◌, true, List, [], ◌∷◌, replicate}
use Rattle.std.proofs.Math.Option.{none, some}
use Rattle.word.specs.Words.{bytes_of, Bytes}
use Rattle.header.specs.Limits.{limit, limit_bytes}
use Rattle.header.specs.Header.{tag_of, discovery_of}
use Rattle.header.specs.Refusal.{refusal}
use Rattle.message.specs.Request.{Request, Means}
use Rattle.message.specs.Walk.{read}
use Rattle.tags.specs.Record.{places, fresh_record}
use Rattle.completer.specs.Controller.{Controller}
use Rattle.initiator.specs.Sender.{idle, start_of}
use Rattle.exchange.specs.Ends.{Loader, ends}
use Rattle.exchange.specs.Terms.{Finds, Lendable, Sound}
use Rattle.exchange.specs.Promise.{Begins}
use Rattle.exchange.specs.Example.{output}
use Rattle.lives.specs.Lives.{restarts}

-- a fresh controller, whose word 1 is 15 (hexadecimal): as a mark, tag 5
abbrev pub misled : Controller
misled = record {
  memory = 0 ∷ 0x15 ∷ [];
  stored = replicate (places * limit) 0;
  kept = replicate (places * limit_bytes) 0;
  tags = fresh_record;
}

-- a stranger's discovery that reads words 0 and 1: with tag 0, and with tag 1
abbrev pub reading : ℕ → List ℕ
reading first = bytes_of (first ∷ 0 ∷ [])

abbrev pub sixth : Loader
sixth = record { sender = idle 6; waiting = [] }

pub record Mistaken : Type 0 where
  pub quiet : Finds (reading 0x800200A0)
  pub answer : List ℕ
  pub given : (ends.serve misled output (reading 0x800200A0)).1 ≡ some answer
  -- it would go on with tag 6, and a fresh controller takes 0 alone: no start of demand 3
  pub learnt : restarts.learn answer ≡ some sixth
  pub behind : Begins misled sixth → ⊥
  -- with tag 1 it is 33, and no sender is made
  pub other : List ℕ
  pub also : (ends.serve misled output (reading 0x800200A1)).1 ≡ some other
  pub refused : (start_of other).refusal ≡ refusal 33
  pub none : restarts.learn other ≡ none

-- Whatever a controller answers to a discovery of another tag than 0, of any kind, is refused by 33, with index 0, and
-- makes no sender; 32 comes before 33, and is never an answer's.
abbrev pub OthersRefused : Type 0
OthersRefused =
    (c : Controller) (output datagram answer : List ℕ) (r : Request) → Sound c → Lendable output → Bytes datagram
    → read datagram ≡ Means r → discovery_of r.byte0 ≡ true → (tag_of r.byte0 ≡ 0 → ⊥)
    → (ends.serve c output datagram).1 ≡ some answer
    → ((start_of answer).refusal ≡ refusal 33) × (restarts.learn answer ≡ none)
