-- A word merged under byte enables, by the byte's place. The contract of `merge` cites `merged`. Assumes nothing.
use Rattle.std.specs.Prelude.{ℕ, zero, suc, ◌+◌, ◌*◌, ◌/◌, ◌%◌, Bool, cond, eqb}

-- byte k of a word, the low one being byte 0
unfoldable pub byte_of : ℕ → ℕ → ℕ
byte_of zero w = w % 256
byte_of (suc k) w = byte_of k (w / 256)

-- whether bit k is set
unfoldable pub bit_of : ℕ → ℕ → Bool
bit_of zero e = eqb (e % 2) 1
bit_of (suc k) e = bit_of k (e / 2)

-- the number of n bytes whose byte k is b k
unfoldable pub of_bytes : ℕ → (ℕ → ℕ) → ℕ
of_bytes zero b = 0
of_bytes (suc n) b = b 0 + 256 * of_bytes n (λ k. b (suc k))

-- "Enable bit i covers byte i of the word": byte i is the new word's where enable bit i is set, else the old word's
unfoldable pub merged : ℕ → ℕ → ℕ → ℕ
merged old new enables = of_bytes 4 (λ i. cond (bit_of i enables) (byte_of i new) (byte_of i old))
