-- Carrying out a message, memory: when a command fails, its moves, and memory after them. The stored tag plays no part
-- here. Assumes nothing.
use Rattle.std.specs.Prelude.{ℕ, zero, suc, ◌+◌, ◌/◌, ◌%◌, Bool, true, false, cond, List, [], ◌∷◌, ◌++◌, length, get_or, set, ltb, eqb}
use Rattle.word.specs.Enables.{merged}
use Rattle.header.specs.declared.Kind.{Kind}
use Rattle.header.specs.declared.Kind.TheVariants.{Nop, Write, Read, Response}
use Rattle.header.specs.Header.{kind_of, first_field, last_field}
use Rattle.message.specs.Request.{Command, Request}

-- "its address is not a multiple of 4 or any word of its range lies past the end" of a memory of `size` words
unfoldable pub outside : ℕ → ℕ → ℕ → Bool
outside size address count = cond (eqb (address % 4) 0) (ltb size (address / 4 + count)) true

-- "One fails with Error if ..": a NOP has no range
abbrev pub fails : Kind → ℕ → Command → Bool
fails Nop size c = false
fails Write size c = outside size c.address c.count
fails Read size c = outside size c.address c.count
fails Response size c = false

-- a word of memory read, or a word written to it under byte enables
pub data Move : Type 0 where
  Fetch : ℕ → Move
  Store : ℕ → ℕ → ℕ → Move

-- "a read returns whole words": the n words from index `at` on
unfoldable pub fetches : ℕ → ℕ → List Move
fetches at zero = []
fetches at (suc n) = Fetch at ∷ fetches (suc at) n

-- the words behind a write's first: "middle words are written whole", the last one under the last enables
unfoldable pub stores_behind : ℕ → ℕ → List ℕ → List Move
stores_behind at last [] = []
stores_behind at last (w ∷ []) = Store at w last ∷ []
stores_behind at last (w ∷ v ∷ ws) = Store at w 15 ∷ stores_behind (suc at) last (v ∷ ws)

-- a write's words, the first one under the first enables
unfoldable pub stores : ℕ → ℕ → ℕ → List ℕ → List Move
stores at first last [] = []
stores at first last (w ∷ ws) = Store at w first ∷ stores_behind (suc at) last ws

-- the moves of a command that does not fail
abbrev pub moves_of : Kind → Command → List Move
moves_of Nop c = []
moves_of Write c = stores (c.address / 4) (first_field c.byte1) (last_field c.byte1) c.payload
moves_of Read c = fetches (c.address / 4) c.count
moves_of Response c = []

-- "Commands go in order"; one that fails "touches nothing and no later command is done. Earlier commands stand"
unfoldable pub moves : Kind → ℕ → List Command → List Move
moves kind size [] = []
moves kind size (c ∷ cs) = cond (fails kind size c) [] (moves_of kind c ++ moves kind size cs)

-- "A write changes exactly the enabled bytes"
abbrev pub after_move : List ℕ → Move → List ℕ
after_move memory (Fetch i) = memory
after_move memory (Store i w enables) = set memory i (merged (get_or memory i 0) w enables)

unfoldable pub after_moves : List ℕ → List Move → List ℕ
after_moves memory [] = memory
after_moves memory (v ∷ vs) = after_moves (after_move memory v) vs

-- memory after a message
unfoldable pub memory_after : Request → List ℕ → List ℕ
memory_after r memory = after_moves memory (moves (kind_of r.byte0) (length memory) r.commands)
