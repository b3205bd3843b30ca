-- What moves do to memory: one behind another, its length, its words; and a write's moves as the code makes them, the first and
-- the last word merged and what lies between copied. The proofs of `moves` and the promises cite these. Assumes nothing.
use Prim.Native.Nat.{ℕ, zero, suc, ◌+◌, ◌-◌, ◌/◌, ◌%◌, ◌≤◌, ◌<◌}
use mathlib.Core.Path.{◌≡◌, refl, sym, ap, ◌∙◌}
use mathlib.Core.Bool.{Bool, true, false, cond, false≢true}
use mathlib.Core.List.{List, [], ◌∷◌, ◌++◌}
use native.Mathlib.Omega.{arith}
use native.Mathlib.Nat.{add-zero, add-sub_cancel_left}
use native.Mathlib.Numerals.{add-one}
use borrow.Author.Tests.{ltb-false, le-ltb, eq-eqb}
use lib.Dec.{ltb, eqb}
use lib.ListN.{length, get_or, set, take, drop, length-set, length-drop}
use lib.Seq.{drop-cons, take-suc, get_or-drop, length-take-le}
use Rattle.word.specs.Words.{Words, put}
use Rattle.word.specs.Enables.{merged}
use Rattle.word.proofs.Runs.{put-none, put_one, put-put, below_set, below-nth, below-take, below-drop}
use Rattle.word.proofs.Places.{merge-lt, merge-whole}
use Rattle.header.specs.declared.Kind.{Kind}
use Rattle.header.specs.declared.Kind.TheVariants.{Nop, Write, Read, Response}
use Rattle.message.specs.Request.{Command}
use Rattle.memory.specs.Moves.{outside, Move, Fetch, Store, fetches, stores_behind, stores, moves_of, after_move, after_moves}

pub after_none : (m : List ℕ) → after_moves m [] ≡ m
unfolding after_moves
after_none m = refl

pub after-append : (m : List ℕ) (a b : List Move) → after_moves m (a ++ b) ≡ after_moves (after_moves m a) b
unfolding after_moves
after-append m [] b = refl
after-append m (v ∷ a) b = after-append (after_move m v) a b

-- memory keeps its length
pub length-after : (m : List ℕ) (vs : List Move) → length (after_moves m vs) ≡ length m
unfolding after_moves
length-after m [] = refl
length-after m (Fetch i ∷ vs) = length-after m vs
length-after m (Store i w e ∷ vs) = length-after (after_move m (Store i w e)) vs ∙ simp length-set

-- words stay words
pub words-after : (m : List ℕ) (vs : List Move) → Words m → Words (after_moves m vs)
unfolding after_moves
words-after m [] h = h
words-after m (Fetch i ∷ vs) h = words-after m vs h
words-after m (Store i w e ∷ vs) h =
    words-after (after_move m (Store i w e)) vs (below_set 4294967296 m i (merged (get_or m i 0) w e) h (merge-lt (get_or m i 0) w e))

-- the range of a read or write that does not fail lies inside memory
pub within : (size address count : ℕ) → outside size address count ≡ false → address / 4 + count ≤ size
unfolding outside
within size address count e = go (eqb (address % 4) 0) e
  where
    go : (b : Bool) → cond b (ltb size (address / 4 + count)) true ≡ false → address / 4 + count ≤ size
    go true e = ltb-false size (address / 4 + count) e
    go false e = absurd (false≢true (sym e))

-- and one that lies inside, from a multiple of 4 on, does not fail
pub inside-fits : (size address count : ℕ) → address % 4 ≡ 0 → address / 4 + count ≤ size → outside size address count ≡ false
unfolding outside
inside-fits size address count z h = rw (eq-eqb (address % 4) 0 z, le-ltb size (address / 4 + count) h)

-- a read changes nothing, nor does any command but a write
fetches-quiet : (m : List ℕ) (at n : ℕ) → after_moves m (fetches at n) ≡ m
unfolding after_moves fetches
fetches-quiet m at zero = refl
fetches-quiet m at (suc n) = fetches-quiet m (suc at) n

pub command-quiet : (kind : Kind) (m : List ℕ) (c : Command) → (kind ≡ Write → ⊥) → after_moves m (moves_of kind c) ≡ m
unfolding after_moves
command-quiet Nop m c h = refl
command-quiet Write m c h = absurd (h refl)
command-quiet Read m c h = fetches-quiet m (c.address / 4) c.count
command-quiet Response m c h = refl

-- a word before others is written whole
behind_more : (at last w : ℕ) (mid : List ℕ) (z : ℕ) → stores_behind at last (w ∷ (mid ++ (z ∷ []))) ≡ Store at w 15 ∷ stores_behind (suc at) last (mid ++ (z ∷ []))
unfolding stores_behind
behind_more at last w [] z = refl
behind_more at last w (v ∷ mid) z = refl

-- the words behind the first: copied, but for the last one
behind-is : (m : List ℕ) (at last : ℕ) (mid : List ℕ) (z : ℕ) → Words mid → at + length mid < length m
    → after_moves m (stores_behind at last (mid ++ (z ∷ []))) ≡ after_move (put m at mid) (Store (at + length mid) z last)
unfolding after_moves stores_behind
behind-is m at last [] z h l = rw (put-none m at, add-zero at)
behind-is m at last (w ∷ mid) z h l =
    let e : after_move m (Store at w 15) ≡ put m at (w ∷ []) = ap (set m at) (merge-whole (get_or m at 0) w (below-nth 4294967296 (w ∷ mid) 0 h (omega arith))) ∙ put_one m at w (omega arith) in
    let n : length (after_move m (Store at w 15)) ≡ length m = simp length-set in
    let p : put (put m at (w ∷ [])) (suc at) mid ≡ put m at (w ∷ mid) = rw add-one at (put-put m at (w ∷ []) mid (omega arith)) in
    let q : suc at + length mid ≡ at + suc (length mid) = omega arith in
    ap (after_moves m) (behind_more at last w mid z)
    ∙ behind-is (after_move m (Store at w 15)) (suc at) last mid z (below-drop 4294967296 1 (w ∷ mid) h) (omega arith)
    ∙ rw (e, p, q)

-- a run of two words or more: its first, what lies between, its last
run-cut : (ws : List ℕ) (from n : ℕ) → from + suc (suc n) ≤ length ws
    → take (suc (suc n)) (drop from ws) ≡ get_or ws from 0 ∷ (take n (drop (suc from) ws) ++ (get_or ws (suc from + n) 0 ∷ []))
run-cut ws from n h =
    let l : n < length (drop (suc from) ws) = simp length-drop (omega arith) in
    rw (drop-cons ws from 0 (omega arith), take-suc (drop (suc from) ws) n 0 l, get_or-drop)

-- a write's moves, as the code makes them: the word w merged, n words copied, the word z merged
write-is : (m : List ℕ) (at first last : ℕ) (ws : List ℕ) (from n : ℕ) → Words ws → from + suc (suc n) ≤ length ws → at + suc (suc n) ≤ length m
    → after_move (put (after_move m (Store at (get_or ws from 0) first)) (suc at) (take n (drop (suc from) ws))) (Store (suc at + n) (get_or ws (suc from + n) 0) last)
    ≡ after_moves m (stores at first last (take (suc (suc n)) (drop from ws)))
unfolding after_moves stores
write-is m at first last ws from n w h k =
    let mid : List ℕ = take n (drop (suc from) ws) in
    let l : length mid ≡ n = length-take-le n (drop (suc from) ws) (simp length-drop (omega arith)) in
    let b = behind-is (after_move m (Store at (get_or ws from 0) first)) (suc at) last mid (get_or ws (suc from + n) 0)
    (below-take 4294967296 n (drop (suc from) ws) (below-drop 4294967296 (suc from) ws w)) (simp length-set (omega arith)) in
    rw (run-cut ws from n h) (rw l at (sym b))

pub write-made : (m ws : List ℕ) (at from count first last : ℕ) {m₁ m₂ m' : List ℕ} {f g w z : ℕ}
    → m₁ ≡ after_move m (Store at w f) → m₂ ≡ put m₁ (at + 1) (take (count - 2) (drop (from + 1) ws)) → m' ≡ after_move m₂ (Store (at + 1 + (count - 2)) z g)
    → f ≡ first → g ≡ last → w ≡ get_or ws from 0 → z ≡ get_or ws (from + 1 + (count - 2)) 0
    → Words ws → 2 ≤ count → from + count ≤ length ws → at + count ≤ length m → m' ≡ after_moves m (stores at first last (take count (drop from ws)))
write-made m ws at from count first last e₁ e₂ e₃ f g w z h two l k =
    let c : count ≡ suc (suc (count - 2)) = omega arith in
    let i = write-is m at first last ws from (count - 2) h (omega arith) (omega arith) in
    e₃ ∙ rw (e₂, e₁, f, g, w, z) (rw (← add-one at, ← add-one from, ← c) at i)

-- a write of one word
pub write-one : (m ws : List ℕ) (at from count first last : ℕ) {m' : List ℕ} {f w : ℕ} → m' ≡ after_move m (Store at w f) → f ≡ first → w ≡ get_or ws from 0
    → count ≡ 1 → from < length ws → m' ≡ after_moves m (stores at first last (take count (drop from ws)))
unfolding after_moves stores stores_behind
write-one m ws at from count first last e f w c h = e ∙ rw (f, w, c, drop-cons ws from 0 h)

-- a read of a run, which is lent as a part of memory
pub read-part : (m : List ℕ) (at count : ℕ) → take (at + count - at) (drop at m) ≡ take count (drop at m)
read-part m at count = rw (add-sub_cancel_left at count)
