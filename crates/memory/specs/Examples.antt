-- Ranges, and memory after writes, in figures. `proofs/Laws/Benched.antt` computes them. Assumes nothing.
use Rattle.std.specs.Prelude.{ℕ, ◌≡◌, Bool, true, false, List, [], ◌∷◌}
use Rattle.std.specs.Bool.{beq}
use Rattle.message.specs.Request.{Command}
use Rattle.message.specs.Examples.{every}
use Rattle.memory.specs.Moves.{outside, memory_after}

-- a range of so many words at an address of a memory of so many words, and whether it fails
pub record Range : Type 0 where
  pub size : ℕ
  pub address : ℕ
  pub count : ℕ
  pub error : Bool

abbrev pub fine : ℕ → ℕ → ℕ → Range
fine size address count = record { size = size; address = address; count = count; error = false }

abbrev pub wrong : ℕ → ℕ → ℕ → Range
wrong size address count = record { size = size; address = address; count = count; error = true }

unfoldable pub ranges : List Range
ranges =
    -- 8 words: the first, the last, all, and one word more; the last two, and one word more
    fine 8 0 1
    ∷ fine 8 28 1
    ∷ wrong 8 32 1
    ∷ fine 8 0 8
    ∷ wrong 8 0 9
    ∷ wrong 8 4 8
    ∷ fine 8 24 2
    ∷ wrong 8 28 2
    -- no multiple of 4, whether even or not
    ∷ wrong 8 1 1
    ∷ wrong 8 2 1
    ∷ wrong 8 3 1
    ∷ fine 8 4 1
    ∷ wrong 8 5 1
    ∷ wrong 8 6 1
    ∷ wrong 8 30 1
    -- memory of 1 word, and of 16,384
    ∷ fine 1 0 1
    ∷ wrong 1 4 1
    ∷ wrong 1 0 2
    ∷ fine 16384 65532 1
    ∷ wrong 16384 65536 1
    ∷ wrong 16384 65532 2
    ∷ fine 16384 0 4095
    -- nothing wraps: the last word of 32 bits and one more, 2^32, a word number of 2^32, the last word of 64 bits and
    -- one more
    ∷ wrong 8 4294967292 1
    ∷ wrong 8 4294967292 2
    ∷ wrong 8 4294967296 1
    ∷ wrong 8 4294967300 1
    ∷ wrong 8 17179869184 1
    ∷ wrong 8 18446744073709551612 1
    ∷ wrong 8 18446744073709551612 2
    ∷ []

abbrev pub right_range : Range → Bool
right_range r = beq (outside r.size r.address r.count) r.error

abbrev pub RangesHold : Type 0
RangesHold = every right_range ranges ≡ true

-- a write's command: byte 1, address, data
abbrev pub one : ℕ → ℕ → ℕ → Command
one byte1 address w = record { byte1 = byte1; count = 1; address = address; payload = w ∷ [] }

abbrev pub four : ℕ → ℕ → Command
four byte1 address = record {
  byte1 = byte1;
  count = 4;
  address = address;
  payload = 0x11111111 ∷ 0x22222222 ∷ 0x33333333 ∷ 0x44444444 ∷ [];
}

-- memory of these words after writes
abbrev pub after : List Command → List ℕ → List ℕ
after cs memory = memory_after (record { byte0 = 0x10; commands = cs }) memory

-- a word of 11223344 under AABBCCDD
abbrev pub Merged : ℕ → ℕ → Type 0
Merged enables w = after (one enables 0 0xAABBCCDD ∷ []) (0x11223344 ∷ []) ≡ w ∷ []

-- five words of FFFFFFFF after a write of four, and the same unchanged
abbrev pub ones : List ℕ
ones = 0xFFFFFFFF ∷ 0xFFFFFFFF ∷ 0xFFFFFFFF ∷ 0xFFFFFFFF ∷ 0xFFFFFFFF ∷ []

abbrev pub Unchanged : List Command → Type 0
Unchanged cs = after cs ones ≡ ones

pub record WritesShown : Type 0 where
  -- "Enable bit i covers byte i of the word"; "A write changes exactly the enabled bytes"
  pub bytes0 : Merged 0x1 0x112233DD
  pub bytes1 : Merged 0x2 0x1122CC44
  pub bytes2 : Merged 0x4 0x11BB3344
  pub bytes3 : Merged 0x8 0xAA223344
  pub none : Merged 0x0 0x11223344
  pub all : Merged 0xF 0xAABBCCDD
  -- the first word under the first enables, the last under the last, "and middle words are written whole"
  pub middle : after (four 0x3C 0 ∷ []) ones ≡ 0x1111FFFF ∷ 0x22222222 ∷ 0x33333333 ∷ 0xFFFF4444 ∷ 0xFFFFFFFF ∷ []
  pub further : after (four 0x18 4 ∷ []) ones ≡ 0xFFFFFFFF ∷ 0x11FFFFFF ∷ 0x22222222 ∷ 0x33333333 ∷ 0xFFFFFF44 ∷ []
  -- "One fails .. then it touches nothing": past the end by one word, at 2 and at 6, beyond 2^32
  pub past : Unchanged (four 0xFF 8 ∷ [])
  pub two : Unchanged (one 0xF 2 0x11111111 ∷ [])
  pub six : Unchanged (one 0xF 6 0x11111111 ∷ [])
  pub wide : Unchanged (one 0xF 4294967296 0x11111111 ∷ [])
  -- "Commands go in order"
  pub order : after (one 0xF 4 0x11111111 ∷ one 0x3 4 0x22222222 ∷ []) (0 ∷ 0 ∷ []) ≡ 0 ∷ 0x11112222 ∷ []
  -- "no later command is done. Earlier commands stand"
  pub stops : after (one 0xF 0 0x11111111 ∷ one 0xF 6 0x22222222 ∷ one 0xF 4 0x33333333 ∷ []) (0 ∷ 0 ∷ [])
      ≡ 0x11111111 ∷ 0 ∷ []
