-- From words to bytes and back: each is the other's inverse, and a word is found by its number. Whoever crosses from a
-- datagram to its words cites these. Assumes nothing.
use Prim.Native.Nat.{ℕ, zero, suc, ◌+◌, ◌*◌, ◌/◌, ◌%◌, ◌<◌, ◌≤◌}
use mathlib.Core.Path.{◌≡◌, refl, sym, ap, ◌∙◌}
use mathlib.Core.List.{List, [], ◌∷◌, ◌++◌, append_assoc, append-nil}
use native.Mathlib.Omega.{arith}
use lib.Arith.{mod-mul}
use lib.Dec.{lit<}
use lib.ListN.{length, take, get_or, set}
use lib.Seq.{sets-eq, take_all}
use native.Mathlib.Numerals.{add-one}
use Rattle.word.specs.Words.{word_of, four_of, words_of, bytes_of, Below, Bytes, Words, put, put_words}
use Rattle.word.specs.Promises.{WordsBack, BytesBack}

-- a number by its digits, which `omega` joins where they are plain
joined : (a b c d m n x : ℕ) → m ≡ b * 256 + a → n ≡ c * 65536 + m → x ≡ d * 16777216 + n → word_of a b c d ≡ x
joined a b c d m n x p q r = omega arith

-- a word is its four bytes
pub word-four : (w : ℕ) → w < 4294967296 → word_of (w % 256) (w / 256 % 256) (w / 65536 % 256) (w / 16777216 % 256) ≡ w
word-four w h =
    let e : w % 4294967296 ≡ w = omega arith in
    joined _ _ _ _ _ _ _ (mod-mul w {m = 256} {c = 256} (lit< tt) (lit< tt)) (mod-mul w {m = 256} {c = 65536} (lit< tt) (lit< tt))
    (mod-mul w {m = 256} {c = 16777216} (lit< tt) (lit< tt))
    ∙ e

-- the words of their bytes, whatever follows
pub words-bytes : (ws r : List ℕ) → Words ws → words_of (bytes_of ws ++ r) ≡ ws ++ words_of r
unfolding bytes_of words_of Below
words-bytes [] r h = refl
words-bytes (w ∷ ws) r h = rw (word-four w h.0, words-bytes ws r h.1)

pub words_back : WordsBack
unfolding words_of
words_back ws h = ap words_of (sym (append-nil (bytes_of ws))) ∙ words-bytes ws [] h ∙ append-nil ws

-- the four bytes of a word of bytes
pub byte0 : (a b c d : ℕ) → a < 256 → word_of a b c d % 256 ≡ a
byte0 a b c d h = omega arith

pub byte1 : (a b c d : ℕ) → a < 256 → b < 256 → word_of a b c d / 256 % 256 ≡ b
byte1 a b c d h i = omega arith

pub byte2 : (a b c d : ℕ) → a < 256 → b < 256 → c < 256 → word_of a b c d / 65536 % 256 ≡ c
byte2 a b c d h i j = omega arith

pub byte3 : (a b c d : ℕ) → a < 256 → b < 256 → c < 256 → d < 256 → word_of a b c d / 16777216 % 256 ≡ d
byte3 a b c d h i j k = omega arith

-- the first words of bytes, as bytes
pub front_bytes : (n : ℕ) (l : List ℕ) → Bytes l → 4 * n ≤ length l → bytes_of (take n (words_of l)) ≡ take (4 * n) l
unfolding bytes_of words_of Below
front_bytes zero l h k = refl
front_bytes (suc n) (a ∷ b ∷ c ∷ d ∷ l) h k =
    let e : 4 * suc n ≡ suc (suc (suc (suc (4 * n)))) = omega arith in
    rw (
      e,
      byte0 a b c d h.0,
      byte1 a b c d h.0 h.1.0,
      byte2 a b c d h.0 h.1.0 h.1.1.0,
      byte3 a b c d h.0 h.1.0 h.1.1.0 h.1.1.1.0,
      front_bytes n l h.1.1.1.1 (omega arith),
    )
front_bytes (suc n) [] h k = absurd (omega arith)
front_bytes (suc n) (a ∷ []) h k = absurd (omega arith)
front_bytes (suc n) (a ∷ b ∷ []) h k = absurd (omega arith)
front_bytes (suc n) (a ∷ b ∷ c ∷ []) h k = absurd (omega arith)

-- words of the bytes b that are put in front of others: b's first bytes stand there
pub words-in-front :
    (out b : List ℕ) (n : ℕ) {ws t : List ℕ} → Bytes b → 4 * n ≤ length b → ws ≡ take n (words_of b)
    → t ≡ put_words out 0 ws → t ≡ put out 0 (take (4 * n) b)
unfolding put_words
words-in-front out b n h k e f = f ∙ ap (put_words out 0) e ∙ ap (put out 0) (front_bytes n b h k)

-- the words of bytes are words, a quarter as many
pub words-below : (l : List ℕ) → Bytes l → Words (words_of l)
unfolding words_of Below
words-below [] h = tt
words-below (a ∷ []) h = tt
words-below (a ∷ b ∷ []) h = tt
words-below (a ∷ b ∷ c ∷ []) h = tt
words-below (a ∷ b ∷ c ∷ d ∷ l) h = (omega (arith, h.0, h.1.0, h.1.1.0, h.1.1.1.0), words-below l h.1.1.1.1)

pub length-words_of : (l : List ℕ) → length (words_of l) ≡ length l / 4
unfolding words_of
length-words_of [] = refl
length-words_of (a ∷ []) = refl
length-words_of (a ∷ b ∷ []) = refl
length-words_of (a ∷ b ∷ c ∷ []) = refl
length-words_of (a ∷ b ∷ c ∷ d ∷ l) = omega (arith, length-words_of l)

pub bytes_back : BytesBack
bytes_back l h e =
    let n : 4 * (length l / 4) ≡ length l = omega arith in
    ap bytes_of (sym (take_all (length l / 4) (words_of l) (omega (arith, length-words_of l)))) ∙ front_bytes (length l / 4) l h (omega arith)
    ∙ rw n (take_all (length l) l (omega arith))

-- the bytes of words are bytes
pub bytes_below : (ws : List ℕ) → Bytes (bytes_of ws)
unfolding bytes_of Below
bytes_below [] = tt
bytes_below (w ∷ ws) = (omega arith, (omega arith, (omega arith, (omega arith, bytes_below ws))))

-- a word by its number, from its bytes
pub word-nth : (l : List ℕ) (i : ℕ) → 4 * i + 4 ≤ length l
    → get_or (words_of l) i 0 ≡ word_of (get_or l (4 * i) 0) (get_or l (4 * i + 1) 0) (get_or l (4 * i + 2) 0) (get_or l (4 * i + 3) 0)
unfolding words_of
word-nth (a ∷ b ∷ c ∷ d ∷ l) zero h = refl
word-nth (a ∷ b ∷ c ∷ d ∷ l) (suc i) h =
    let e0 : 4 * suc i ≡ suc (suc (suc (suc (4 * i)))) = omega arith in
    let e1 : 4 * suc i + 1 ≡ suc (suc (suc (suc (4 * i + 1)))) = omega arith in
    let e2 : 4 * suc i + 2 ≡ suc (suc (suc (suc (4 * i + 2)))) = omega arith in
    let e3 : 4 * suc i + 3 ≡ suc (suc (suc (suc (4 * i + 3)))) = omega arith in
    rw (e1, e2, e3, e0) (word-nth l i (omega arith))
word-nth [] i h = absurd (omega arith)
word-nth (a ∷ []) i h = absurd (omega arith)
word-nth (a ∷ b ∷ []) i h = absurd (omega arith)
word-nth (a ∷ b ∷ c ∷ []) i h = absurd (omega arith)

-- four stores in a row are one word put
pub four-stores : (l : List ℕ) (i w : ℕ) → 4 * i + 4 ≤ length l
    → set (set (set (set l (4 * i) (w % 256)) (4 * i + 1) (w / 256 % 256)) (4 * i + 2) (w / 65536 % 256)) (4 * i + 3) (w / 16777216 % 256)
    ≡ put_words l i (w ∷ [])
unfolding put_words put bytes_of
four-stores l i w h =
    let e2 : 4 * i + 2 ≡ suc (suc (4 * i)) = omega arith in
    let e3 : 4 * i + 3 ≡ suc (suc (suc (4 * i))) = omega arith in
    rw (add-one, e2, e3, ← append_assoc) (sets-eq (four_of w) l (4 * i) h)
