-- What is promised of words and their bytes, in other words than the definitions of Words and Enables: the proofs are
-- in proofs/Crossing.antt, proofs/Places.antt and proofs/Same.antt. Assumes nothing.
use Rattle.std.specs.Prelude.{ℕ, ◌+◌, ◌*◌, ◌%◌, ◌<◌, ◌≡◌, true, false, cond, List, length, get_or}
use Rattle.word.specs.Words.{words_of, bytes_of, Bytes, Words, same}
use Rattle.word.specs.Enables.{byte_of, bit_of, merged}

-- "Bytes are little-endian; a word is 4 bytes": byte k of word i, the low one being byte 0, stands at place 4 i + k
abbrev pub BytePlace : Type 0
BytePlace = (ws : List ℕ) (i k : ℕ) → k < 4 → i < length ws → get_or (bytes_of ws) (4 * i + k) 0 ≡ byte_of k (get_or ws i 0)

-- "Enable bit i covers byte i of the word", "A write changes exactly the enabled bytes": byte k of a merge is the new
-- word's if bit k is set, else the old word's
abbrev pub MergeByte : Type 0
MergeByte = (k old new enables : ℕ) → k < 4
    → byte_of k (merged old new enables) ≡ cond (bit_of k enables) (byte_of k new) (byte_of k old)

-- words written to bytes and read again are the same words
abbrev pub WordsBack : Type 0
WordsBack = (ws : List ℕ) → Words ws → words_of (bytes_of ws) ≡ ws

-- and whole words of bytes, read and written again, are the same bytes
abbrev pub BytesBack : Type 0
BytesBack = (bytes : List ℕ) → Bytes bytes → length bytes % 4 ≡ 0 → bytes_of (words_of bytes) ≡ bytes

-- two lists are told to be the same exactly when they are equal
pub record SameExactly (a b : List ℕ) : Type 0 where
  pub equal : same a b ≡ true → a ≡ b
  pub differ : same a b ≡ false → a ≡ b → ⊥
