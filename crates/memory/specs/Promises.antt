-- What is promised of memory, in other words than its definitions: a definition that is wrong alone is refused. The
-- proofs are in proofs/Laws/LastWrite.antt and proofs/Laws/Promises.antt. Assumes nothing.
use Rattle.std.specs.Prelude.{ℕ, suc, ◌+◌, ◌-◌, ◌/◌, ◌<◌, ◌≡◌, Bool, true, false, cond, ◌&&◌, ◌||◌, List, [], ◌∷◌, ◌++◌, length, get_or, ltb, leb, eqb}
use Rattle.word.specs.Words.{Words}
use Rattle.word.specs.Enables.{byte_of, bit_of}
use Rattle.header.specs.declared.Kind.{Kind}
use Rattle.header.specs.declared.Kind.TheVariants.{Write}
use Rattle.header.specs.Header.{kind_of, first_field, last_field}
use Rattle.message.specs.Request.{Command, Request, Fits}
use Rattle.memory.specs.Moves.{fails, memory_after}

-- the commands that are carried out, each OK: those before the first that fails
unfoldable pub carried : Kind → ℕ → List Command → List Command
carried kind size [] = []
carried kind size (c ∷ cs) = cond (fails kind size c) [] (c ∷ carried kind size cs)

-- the enables of word j of a write: the first, the last, and all four bytes in the middle
unfoldable pub enables_at : Command → ℕ → ℕ
enables_at c j = cond (eqb j 0) (first_field c.byte1) (cond (eqb (suc j) c.count) (last_field c.byte1) 15)

-- whether a write enables byte k of word i of memory
unfoldable pub enables : ℕ → ℕ → Command → Bool
enables i k c = leb (c.address / 4) i && ltb i (c.address / 4 + c.count)
    && bit_of k (enables_at c (i - c.address / 4))

unfoldable pub any_enables : ℕ → ℕ → List Command → Bool
any_enables i k [] = false
any_enables i k (c ∷ cs) = enables i k c || any_enables i k cs

-- byte k of word i
abbrev pub byte_at : List ℕ → ℕ → ℕ → ℕ
byte_at memory i k = byte_of k (get_or memory i 0)

-- each byte of memory is that of the last OK write that enables it, else the old one: its two halves for one request
pub record ByLastWrite (r : Request) (memory : List ℕ) : Type 0 where
  pub last : (before : List Command) (c : Command) (after : List Command) (i k : ℕ) → k < 4
      → carried Write (length memory) r.commands ≡ before ++ (c ∷ after) → enables i k c ≡ true
      → any_enables i k after ≡ false
      → byte_at (memory_after r memory) i k ≡ byte_of k (get_or c.payload (i - c.address / 4) 0)
  pub old : (i k : ℕ) → k < 4 → any_enables i k (carried Write (length memory) r.commands) ≡ false
      → byte_at (memory_after r memory) i k ≡ byte_at memory i k

-- "each byte of memory is that of the last OK write that enables it, else the old one": after a fitting message of kind
-- Write. `Quiet` says it of every other kind, where no command is a write.
abbrev pub LastWrite : Type 0
LastWrite = (r : Request) (memory : List ℕ) → Fits r → kind_of r.byte0 ≡ Write → ByLastWrite r memory

-- a message that is no write changes no memory
abbrev pub Quiet : Request → List ℕ → Type 0
Quiet r memory = (kind_of r.byte0 ≡ Write → ⊥) → memory_after r memory ≡ memory

-- memory keeps its length, and its words stay words
abbrev pub SameLength : Request → List ℕ → Type 0
SameLength r memory = length (memory_after r memory) ≡ length memory

abbrev pub StaysWords : Request → List ℕ → Type 0
StaysWords r memory = Words memory → Words (memory_after r memory)

-- the request with these commands in place of its own
abbrev pub asking : Request → List Command → Request
asking r cs = record { byte0 = r.byte0; commands = cs }
