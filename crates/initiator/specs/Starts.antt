-- Discoveries' answers in figures, from bytes: the senders that they make; and that every line here, of BenchSheet and
-- of Examples holds, which `proofs/Laws/Benched.antt` computes. Assumes nothing.
use Rattle.std.specs.Prelude.{ℕ, zero, suc, ◌+◌, ◌*◌, ◌≡◌, Bool, true, ◌&&◌, List, [], ◌∷◌, eqb}
use Rattle.word.specs.Words.{bytes_of}
use Rattle.header.specs.Refusal.{refusal}
use Rattle.message.specs.Request.{All}
use Rattle.initiator.specs.declared.sender.Moved.{Moved}
use Rattle.initiator.specs.Sender.{fresh_sender, start_of}
use Rattle.initiator.specs.Examples.{Line, Right, outcomes}
use Rattle.initiator.specs.BenchSheet.{idle, moved, offers, sends, takes}

-- the answer to the fixed discovery whose advertisement is these two words
abbrev pub advertised : ℕ → ℕ → List ℕ
advertised first second = bytes_of (0x800200B0 ∷ first ∷ second ∷ [])

-- a discovery's answer: the sender that it makes; refused, one that 37 stops
abbrev pub started : ℕ → ℕ → ℕ → Line Moved
started first second next =
    record {
      given = start_of (advertised first second);
      is = moved (refusal 0) (idle next);
    }

abbrev pub start_refused : List ℕ → ℕ → Line Moved
start_refused answer n = record { given = start_of answer; is = moved (refusal n) (idle 16) }

unfoldable pub starts : List (Line Moved)
starts =
    -- none stored; each stored tag
    started 0x230C 0x00 0
    ∷ started 0x230C 0x10 1
    ∷ started 0x230C 0x11 2
    ∷ started 0x230C 0x12 3
    ∷ started 0x230C 0x13 4
    ∷ started 0x230C 0x14 5
    ∷ started 0x230C 0x15 6
    ∷ started 0x230C 0x16 7
    ∷ started 0x230C 0x17 8
    ∷ started 0x230C 0x18 9
    ∷ started 0x230C 0x19 10
    ∷ started 0x230C 0x1A 11
    ∷ started 0x230C 0x1B 12
    ∷ started 0x230C 0x1C 13
    ∷ started 0x230C 0x1D 14
    ∷ started 0x230C 0x1E 15
    ∷ started 0x230C 0x1F 0
    -- word 0 is not looked at
    ∷ started 0x00000000 0x13 4
    ∷ started 0x000005C0 0x13 4
    ∷ started 0xFFFFFFFF 0x13 4
    -- bit 4 clear and a tag nonzero
    ∷ start_refused (advertised 0x230C 0x01) 38
    ∷ start_refused (advertised 0x230C 0x0F) 38
    -- Timeout and Error
    ∷ start_refused (bytes_of (0x800001B0 ∷ [])) 38
    ∷ start_refused (bytes_of (0x800002B0 ∷ [])) 38
    -- 32 to 35, each before 38: three bytes; another tag, or no discovery, and an Error; an Error with data, bit 5 with
    -- a count of 1 and of 3; an Error without LAST, bit 5 without LAST, with words after it, and cut short
    ∷ start_refused [] 32
    ∷ start_refused (0xB0 ∷ 0x02 ∷ 0x00 ∷ []) 32
    ∷ start_refused (bytes_of (0x800002B1 ∷ [])) 33
    ∷ start_refused (bytes_of (0x80000230 ∷ [])) 33
    ∷ start_refused (bytes_of (0x800202B0 ∷ 0x0000230C ∷ 0x00000000 ∷ [])) 34
    ∷ start_refused (bytes_of (0x800100B0 ∷ 0x00000020 ∷ [])) 34
    ∷ start_refused (bytes_of (0x800300B0 ∷ 0x0000230C ∷ 0x00000020 ∷ 0x00000000 ∷ [])) 34
    ∷ start_refused (bytes_of (0x000002B0 ∷ [])) 35
    ∷ start_refused (bytes_of (0x000200B0 ∷ 0x0000230C ∷ 0x00000020 ∷ [])) 35
    ∷ start_refused (bytes_of (0x800200B0 ∷ 0x0000230C ∷ 0x00000020 ∷ 0x00000000 ∷ [])) 35
    ∷ start_refused (bytes_of (0x800200B0 ∷ 0x0000230C ∷ [])) 35
    ∷ []

-- "word 1 has bits above 4 set": n bits from this one on, each alone, with bit 4, and with bit 4 and a tag
abbrev pub is38 : ℕ → Bool
is38 w = eqb (start_of (advertised 0x230C w)).refusal.number 38

unfoldable pub bits_are38 : ℕ → ℕ → Bool
bits_are38 zero w = true
bits_are38 (suc n) w = is38 w && is38 (w + 0x10) && is38 (w + 0x13) && bits_are38 n (2 * w)

-- "A sender starts with next tag 0 for a fresh pair", and every line holds
pub record BenchHolds : Type 0 where
  pub fresh : fresh_sender ≡ idle 0
  pub offers : All Right offers
  pub sends : All Right sends
  pub takes : All Right takes
  pub starts : All Right starts
  pub bits : bits_are38 27 0x20 ≡ true
  pub outcomes : All Right outcomes
