-- Answers to requests in figures. `proofs/Laws/Benched.antt` computes them. Assumes nothing.
use Rattle.std.specs.Prelude.{ℕ, ◌≡◌, List, [], ◌∷◌}
use Rattle.message.specs.Request.{Command}
use Rattle.memory.specs.Examples.{one}
use Rattle.carrying.specs.Answers.{words_to}

-- a read's command, and a NOP's: byte 1, count, address
abbrev pub asked : ℕ → ℕ → ℕ → Command
asked byte1 count address = record { byte1 = byte1; count = count; address = address; payload = [] }

-- these commands of this byte 0, tag 3 stored, over memory of three words, are answered so
abbrev pub Answers : ℕ → List Command → List ℕ → Type 0
Answers byte0 cs words =
    words_to (record { byte0 = byte0; commands = cs }) 19 (0x11111111 ∷ 0x22222222 ∷ 0x33333333 ∷ []) ≡ words

pub record AnswersShown : Type 0 where
  -- "byte 0 of the request with the kind made 3, LAST on the final one": tag 5, bit 6 and bit 7, OK and Error
  pub write : Answers 0x10 (one 0xF 0 0 ∷ []) (0x80000030 ∷ [])
  pub three : Answers 0x15 (one 0xF 0 0 ∷ one 0xF 4 0 ∷ one 0xF 8 0 ∷ []) (0x00000035 ∷ 0x00000035 ∷ 0x80000035 ∷ [])
  pub wide : Answers 0x50 (one 0xF 0 0 ∷ []) (0x80000070 ∷ [])
  pub wide_error : Answers 0x50 (one 0xF 12 0 ∷ []) (0x80000270 ∷ [])
  pub found : Answers 0x95 (one 0xF 0 0 ∷ []) (0x800000B5 ∷ [])
  pub found_error : Answers 0xD5 (one 0xF 12 0 ∷ []) (0x800002F5 ∷ [])
  -- "up to the last or the first Error"
  pub stops : Answers 0x10 (one 0xF 0 0 ∷ one 0xF 2 0 ∷ one 0xF 4 0 ∷ []) (0x00000030 ∷ 0x80000230 ∷ [])
  pub stops_at_once : Answers 0x10 (one 0xF 12 0 ∷ one 0xF 0 0 ∷ []) (0x80000230 ∷ [])
  -- "OK read: count and data as asked", whole words whatever byte 1 says; "Error: count 0"
  pub read : Answers 0x20 (asked 0x11 2 4 ∷ []) (0x80020030 ∷ 0x22222222 ∷ 0x33333333 ∷ [])
  pub reads : Answers 0x20 (asked 0 1 8 ∷ asked 0 2 0 ∷ [])
      (0x00010030 ∷ 0x33333333 ∷ 0x80020030 ∷ 0x11111111 ∷ 0x22222222 ∷ [])
  pub past : Answers 0x20 (asked 0 1 8 ∷ asked 0 2 8 ∷ []) (0x00010030 ∷ 0x33333333 ∷ 0x80000230 ∷ [])
  -- "OK NOP: the first count words of the advertisement", of each of them, whatever its address would be
  pub none : Answers 0x00 (asked 0xFF 0 2 ∷ []) (0x80000030 ∷ [])
  pub first : Answers 0x00 (asked 0 1 99 ∷ []) (0x80010030 ∷ 0x0000230C ∷ [])
  pub both : Answers 0x00 (asked 0 2 0 ∷ asked 0 2 0 ∷ [])
      (0x00020030 ∷ 0x0000230C ∷ 0x00000013 ∷ 0x80020030 ∷ 0x0000230C ∷ 0x00000013 ∷ [])
