-- Runs in lists: what `put` makes of nothing, of a store, of a run behind a run. The proofs of `run`, and whoever writes an
-- answer or a request piece by piece, cite these. Assumes nothing.
use Prim.Native.Nat.{ℕ, zero, suc, ◌+◌, ◌*◌, ◌/◌, ◌%◌, ◌≤◌, ◌<◌}
use mathlib.Core.Path.{◌≡◌, refl, sym, ap, ◌∙◌}
use mathlib.Core.List.{List, [], ◌∷◌, ◌++◌, append_assoc}
use native.Mathlib.Omega.{arith}
use native.Mathlib.Numerals.{add-one}
use native.Mathlib.Nat.{add-zero}
use borrow.Rule.Slice.PartMut.{put_mid}
use lib.ListN.{length, take, drop, get_or, set, length-append, length-drop, take-append-drop}
use lib.Seq.{set_split, take-suc, take_at, drop_at, get_or_at, set_at, drop-append-add, drop-drop, length-take-le, take-length}
use Rattle.word.specs.Words.{bytes_of, Below, put, put_words}

-- nothing put
pub put-none : (l : List ℕ) (at : ℕ) → put l at [] ≡ l
unfolding put
put-none l at = rw (add-zero at) (take-append-drop at l)

-- one element put is a store
pub put_one : (l : List ℕ) (at v : ℕ) → at < length l → set l at v ≡ put l at (v ∷ [])
unfolding put
put_one l at v h = rw (add-one at) (set_split l at v h)

pub length-put : (l : List ℕ) (at : ℕ) (s : List ℕ) → at + length s ≤ length l → length (put l at s) ≡ length l
unfolding put
length-put l at s h = simp (length-append, length-drop) (omega (arith, length-take-le at l (omega arith)))

-- a run behind a run is one run
module _ (l : List ℕ) (at : ℕ) (s t : List ℕ) (h : at + length s + length t ≤ length l) where
  pub put-put : put (put l at s) (at + length s) t ≡ put l at (s ++ t)
  unfolding put
  put-put =
      let a : List ℕ = take at l in
      let r : List ℕ = drop (at + length s) l in
      let la : length a ≡ at = length-take-le at l (omega arith) in
      let lp : length (a ++ s) ≡ at + length s = length-append a s ∙ omega arith in
      let q : a ++ (s ++ r) ≡ (a ++ s) ++ r = sym (append_assoc a s r) in
      let e1 : take (at + length s) (a ++ (s ++ r)) ≡ a ++ s = rw q (take_at (a ++ s) r (at + length s) lp) in
      let e0 : at + length s + length t ≡ length (a ++ s) + length t = omega arith in
      let e3 : at + length s + length t ≡ at + length (s ++ t) = simp length-append (omega arith) in
      let e2 : drop (at + length s + length t) (a ++ (s ++ r)) ≡ drop (at + length (s ++ t)) l =
      rw (q, e0) (drop-append-add (a ++ s) r (length t) ∙ drop-drop (length t) (at + length s) l ∙ ap (λ (n : ℕ). drop n l) e3) in
      rw (e1, e2) (simp append_assoc)

-- a part that is lent and becomes a run is the run put
pub part-is : (l : List ℕ) (at k : ℕ) {s t : List ℕ} → s ≡ t → k ≡ length t → put_mid at k l s ≡ put l at t
unfolding put
part-is l at k {s} {t} e n = rw (e, n, drop-drop (length t) at l)

-- what was put at a list's front is read back from it
pub staged : (l s : List ℕ) (n : ℕ) {t : List ℕ} → n ≤ length s → t ≡ put l 0 (take n s) → take n t ≡ take n s
unfolding put
staged l s n h e = rw e (take_at (take n s) (drop (0 + length (take n s)) l) n (length-take-le n s h))

pub staged-all : (l s : List ℕ) {t : List ℕ} → t ≡ put l 0 (take (length s) s) → take (length s) t ≡ s
staged-all l s e = staged l s (length s) (omega arith) e ∙ take-length s

-- and so is a whole run
pub put_front : (l s : List ℕ) → take (length s) (put l 0 s) ≡ s
unfolding put
put_front l s = take_at s (drop (0 + length s) l) (length s) refl

-- a list's first elements, read one by one
pub first_two : (s : List ℕ) → 2 ≤ length s → get_or s 0 0 ∷ get_or s 1 0 ∷ [] ≡ take 2 s
first_two [] h = absurd (omega arith)
first_two (x ∷ []) h = absurd (omega arith)
first_two (x ∷ y ∷ s) h = refl

pub first_three : (s : List ℕ) → 3 ≤ length s → get_or s 0 0 ∷ get_or s 1 0 ∷ get_or s 2 0 ∷ [] ≡ take 3 s
first_three [] h = absurd (omega arith)
first_three (x ∷ s) h = ap (λ (l : List ℕ). x ∷ l) (first_two s (omega arith))

-- a turn of a loop that puts the elements of s one by one
module _ (l : List ℕ) (at : ℕ) (s : List ℕ) (i : ℕ) (h : i < length s) (k : at + i < length l) where
  pub put_next : put (put l at (take i s)) (at + i) (get_or s i 0 ∷ []) ≡ put l at (take (i + 1) s)
  put_next =
      let n : length (take i s) ≡ i = length-take-le i s (omega arith) in
      rw (add-one i, take-suc s i 0 h) (rw n at (put-put l at (take i s) (get_or s i 0 ∷ []) (omega arith)))

  pub set_next : set (put l at (take i s)) (at + i) (get_or s i 0) ≡ put l at (take (i + 1) s)
  set_next =
      let n : length (put l at (take i s)) ≡ length l = length-put l at (take i s) (omega (arith, length-take-le i s (omega arith))) in
      put_one (put l at (take i s)) (at + i) (get_or s i 0) (omega arith) ∙ put_next

-- bytes of words
pub bytes-none : bytes_of [] ≡ []
unfolding bytes_of
bytes-none = refl

pub bytes-append : (a b : List ℕ) → bytes_of (a ++ b) ≡ bytes_of a ++ bytes_of b
unfolding bytes_of
bytes-append [] b = refl
bytes-append (w ∷ a) b = rw (bytes-append a b)

pub length-bytes : (ws : List ℕ) → length (bytes_of ws) ≡ 4 * length ws
unfolding bytes_of
length-bytes [] = refl
length-bytes (w ∷ ws) = omega (arith, length-bytes ws)

-- the same of words in bytes
pub words-none : (l : List ℕ) (at : ℕ) → put_words l at [] ≡ l
unfolding put_words bytes_of
words-none l at = put-none l (4 * at)

pub length-words : (l : List ℕ) (at : ℕ) (ws : List ℕ) → 4 * (at + length ws) ≤ length l → length (put_words l at ws) ≡ length l
unfolding put_words
length-words l at ws h = length-put l (4 * at) (bytes_of ws) (omega (arith, length-bytes ws))

pub words-words : (l : List ℕ) (at : ℕ) (ws vs : List ℕ) → 4 * (at + length ws + length vs) ≤ length l
    → put_words (put_words l at ws) (at + length ws) vs ≡ put_words l at (ws ++ vs)
unfolding put_words
words-words l at ws vs h =
    let n = length-bytes ws in
    let e : 4 * (at + length ws) ≡ 4 * at + length (bytes_of ws) = omega arith in
    rw (e, bytes-append) (put-put l (4 * at) (bytes_of ws) (bytes_of vs) (omega (arith, length-bytes vs)))

-- words put at the front stand there, and what lies behind them is as it was
pub words-front : (l ws : List ℕ) → take (4 * length ws) (put_words l 0 ws) ≡ bytes_of ws
unfolding put_words put
words-front l ws = take_at (bytes_of ws) (drop (4 * 0 + length (bytes_of ws)) l) (4 * length ws) (length-bytes ws)

pub words-behind : (l ws : List ℕ) → drop (4 * length ws) (put_words l 0 ws) ≡ drop (4 * length ws) l
unfolding put_words put
words-behind l ws =
    let n : 4 * 0 + length (bytes_of ws) ≡ 4 * length ws = omega (arith, length-bytes ws) in
    rw n (drop_at (bytes_of ws) (drop (4 * length ws) l) (4 * length ws) (length-bytes ws))

-- the highest bit of a word that was put is the highest bit of its fourth byte
high-bytes : (w : ℕ) → w < 2147483648
    → ((w + 2147483648) % 256 ≡ w % 256) × ((w + 2147483648) / 256 % 256 ≡ w / 256 % 256) × ((w + 2147483648) / 65536 % 256 ≡ w / 65536 % 256)
    × ((w + 2147483648) / 16777216 % 256 ≡ w / 16777216 % 256 % 128 + 128)
high-bytes w h = (omega arith, omega arith, omega arith, omega arith)

module _ (l : List ℕ) (at w : ℕ) (ws : List ℕ) (low : w < 2147483648) (fits : 4 * (at + (1 + length ws)) ≤ length l) where
  pub put-high : put (put_words l at (w ∷ ws)) (4 * at + 3) ((get_or (put_words l at (w ∷ ws)) (4 * at + 3) 0 % 128 + 128) ∷ []) ≡ put_words l at ((w + 2147483648) ∷ ws)
  unfolding put_words put bytes_of
  put-high =
      let n = length-bytes ws in
      let three : List ℕ = w % 256 ∷ w / 256 % 256 ∷ w / 65536 % 256 ∷ [] in
      let p : List ℕ = take (4 * at) l ++ three in
      let y : ℕ = w / 16777216 % 256 in
      let rest : List ℕ = bytes_of ws ++ drop (4 * at + length (bytes_of (w ∷ ws))) l in
      let lp : length p ≡ 4 * at + 3 = length-append (take (4 * at) l) three ∙ omega (arith, length-take-le (4 * at) l (omega arith)) in
      let split : put_words l at (w ∷ ws) ≡ p ++ y ∷ rest = sym (append_assoc (take (4 * at) l) three (y ∷ rest)) in
      let t = high-bytes w low in
      let v : ℕ = y % 128 + 128 in
      let stored : put (p ++ y ∷ rest) (4 * at + 3) (v ∷ []) ≡ p ++ v ∷ rest =
      sym (put_one (p ++ y ∷ rest) (4 * at + 3) v (rw (length-append p (y ∷ rest)) (omega arith))) ∙ set_at p y rest v (4 * at + 3) lp in
      rw (split, get_or_at p y rest 0 (4 * at + 3) lp, stored, t.0, t.1, t.2, t.3) (append_assoc (take (4 * at) l) three (v ∷ rest))

pub words-next : (l : List ℕ) (at : ℕ) (s : List ℕ) (i : ℕ) → i < length s → 4 * (at + i) + 4 ≤ length l
    → put_words (put_words l at (take i s)) (at + i) (get_or s i 0 ∷ []) ≡ put_words l at (take (i + 1) s)
words-next l at s i h k =
    let n : length (take i s) ≡ i = length-take-le i s (omega arith) in
    rw (add-one i, take-suc s i 0 h) (rw n at (words-words l at (take i s) (get_or s i 0 ∷ []) (omega arith)))

-- lists whose elements are below b
module _ (b : ℕ) where
  pub below_none : Below b []
  unfolding Below
  below_none = tt

  pub below-cons : (x : ℕ) (l : List ℕ) → x < b → Below b l → Below b (x ∷ l)
  unfolding Below
  below-cons x l h k = (h, k)

  pub below-append : (s t : List ℕ) → Below b s → Below b t → Below b (s ++ t)
  unfolding Below
  below-append [] t h k = k
  below-append (x ∷ s) t h k = (h.0, below-append s t h.1 k)

  pub below-take : (n : ℕ) (l : List ℕ) → Below b l → Below b (take n l)
  unfolding Below
  below-take zero l h = tt
  below-take (suc n) [] h = tt
  below-take (suc n) (x ∷ l) h = (h.0, below-take n l h.1)

  pub below-drop : (n : ℕ) (l : List ℕ) → Below b l → Below b (drop n l)
  unfolding Below
  below-drop zero l h = h
  below-drop (suc n) [] h = tt
  below-drop (suc n) (x ∷ l) h = below-drop n l h.1

  pub below_put : (l : List ℕ) (at : ℕ) (s : List ℕ) → Below b l → Below b s → Below b (put l at s)
  unfolding put
  below_put l at s h k = below-append (take at l) _ (below-take at l h) (below-append s _ k (below-drop (at + length s) l h))

  pub below_set : (l : List ℕ) (i v : ℕ) → Below b l → v < b → Below b (set l i v)
  unfolding Below
  below_set [] i v h k = tt
  below_set (x ∷ l) zero v h k = (k, h.1)
  below_set (x ∷ l) (suc i) v h k = (h.0, below_set l i v h.1 k)

  pub below-nth : (l : List ℕ) (i : ℕ) → Below b l → 0 < b → get_or l i 0 < b
  unfolding Below
  below-nth [] i h z = z
  below-nth (x ∷ l) zero h z = h.0
  below-nth (x ∷ l) (suc i) h z = below-nth l i h.1 z

  -- as a slice's own rule says it
  pub below_all : (l : List ℕ) → ((i : ℕ) → get_or l i 0 < b) → Below b l
  unfolding Below
  below_all [] h = tt
  below_all (x ∷ l) h = (h 0, below_all l (λ i. h (suc i)))
