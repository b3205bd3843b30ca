-- Words in bytes and runs in lists. Every contract of the project that reads or writes a word cites these. Assumes
-- nothing.
use Rattle.std.specs.Prelude.{ℕ, ◌+◌, ◌*◌, ◌/◌, ◌%◌, ◌<◌, Bool, true, false, ◌&&◌, List, [], ◌∷◌, ◌++◌, eqb, length, take, drop}

-- "Bytes are little-endian; a word is 4 bytes": the word of four bytes, the low one first
abbrev pub word_of : ℕ → ℕ → ℕ → ℕ → ℕ
word_of a b c d = a + 256 * b + 65536 * c + 16777216 * d

-- the four bytes of a word, the low one first
abbrev pub four_of : ℕ → List ℕ
four_of w = w % 256 ∷ w / 256 % 256 ∷ w / 65536 % 256 ∷ w / 16777216 % 256 ∷ []

-- the words of some bytes; one to three bytes at the end are no word
unfoldable pub words_of : List ℕ → List ℕ
words_of [] = []
words_of (a ∷ []) = []
words_of (a ∷ b ∷ []) = []
words_of (a ∷ b ∷ c ∷ []) = []
words_of (a ∷ b ∷ c ∷ d ∷ r) = word_of a b c d ∷ words_of r

-- the bytes of some words
unfoldable pub bytes_of : List ℕ → List ℕ
bytes_of [] = []
bytes_of (w ∷ ws) = four_of w ++ bytes_of ws

-- every element is below b
unfoldable pub Below : ℕ → List ℕ → Type 0
Below b [] = Unit {0}
Below b (x ∷ xs) = (x < b) × Below b xs

-- a list of bytes, and a list of words
abbrev pub Bytes : List ℕ → Type 0
Bytes l = Below 256 l

abbrev pub Words : List ℕ → Type 0
Words l = Below 4294967296 l

-- the list l with the run s in it from index `at` on
unfoldable pub put : List ℕ → ℕ → List ℕ → List ℕ
put l at s = take at l ++ (s ++ drop (at + length s) l)

-- the bytes l with the words ws in them from word `at` on
unfoldable pub put_words : List ℕ → ℕ → List ℕ → List ℕ
put_words l at ws = put l (4 * at) (bytes_of ws)

-- whether two lists are the same: as long, and alike at every place
unfoldable pub same : List ℕ → List ℕ → Bool
same [] [] = true
same [] (y ∷ ys) = false
same (x ∷ xs) [] = false
same (x ∷ xs) (y ∷ ys) = eqb x y && same xs ys

-- the most words that one call copies: no count of 12 bits is larger
abbrev pub longest : ℕ
longest = 4096
