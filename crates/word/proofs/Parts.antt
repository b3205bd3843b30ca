-- A run put somewhere in a list: read back, what stays before it and behind it, and put by way of a part that is lent. Assumes nothing.
use Prim.Native.Nat.{ℕ, ◌+◌, ◌-◌, ◌≤◌}
use mathlib.Core.Path.{◌≡◌, refl, sym, ap, ◌∙◌}
use mathlib.Core.List.{List, ◌++◌, append_assoc}
use native.Mathlib.Omega.{arith}
use lib.ListN.{length, take, drop, length-append, length-drop, take-append-drop}
use lib.Seq.{take_at, drop_at, take-append-le, drop-append-le, drop-append-add, take-take, drop-drop, take-add, length-take-le}
use Rattle.word.specs.Words.{put}

-- the end of a front
drop-take : (b n : ℕ) (l : List ℕ) → b ≤ length l → drop b (take (b + n) l) ≡ take n (drop b l)
drop-take b n l h = rw (take-add b n l) (drop_at (take b l) (take n (drop b l)) b (length-take-le b l h))

module _ (l : List ℕ) (at : ℕ) (s : List ℕ) (h : at ≤ length l) where
  front : length (take at l) ≡ at
  front = length-take-le at l h

  -- what was put is read back
  pub put-read : take (length s) (drop at (put l at s)) ≡ s
  unfolding put
  put-read = rw (drop_at (take at l) (s ++ drop (at + length s) l) at front) (take_at s (drop (at + length s) l) (length s) refl)

  -- what ends before it stays
  pub put-before : (b n : ℕ) → b + n ≤ at → take n (drop b (put l at s)) ≡ take n (drop b l)
  unfolding put
  put-before b n k =
      let r : List ℕ = s ++ drop (at + length s) l in
      let e : b + (at - b) ≡ at = omega arith in
      let d : drop b (take at l) ≡ take (at - b) (drop b l) = rw e at (drop-take b (at - b) l (omega arith)) in
      let m : length (take (at - b) (drop b l)) ≡ at - b = length-take-le (at - b) (drop b l) (simp length-drop (omega arith)) in
      let x : drop b (take at l ++ r) ≡ take (at - b) (drop b l) ++ r = drop-append-le b (take at l) r (omega (arith, front)) ∙ ap (λ (z : List ℕ). z ++ r) d in
      ap (take n) x ∙ take-append-le n (take (at - b) (drop b l)) r (omega arith) ∙ take-take n (at - b) (drop b l) (omega arith)

  -- what begins behind it stays
  pub put-behind : (b : ℕ) → at + length s ≤ b → drop b (put l at s) ≡ drop b l
  unfolding put
  put-behind b k =
      let r : List ℕ = drop (at + length s) l in
      let n : length (take at l ++ s) ≡ at + length s = length-append (take at l) s ∙ omega (arith, front) in
      let e : b ≡ length (take at l ++ s) + (b - (at + length s)) = omega arith in
      let f : at + length s + (b - (at + length s)) ≡ b = omega arith in
      ap (drop b) (sym (append_assoc (take at l) s r)) ∙ ap (λ (i : ℕ). drop i ((take at l ++ s) ++ r)) e
      ∙ drop-append-add (take at l ++ s) r (b - (at + length s))
      ∙ drop-drop (b - (at + length s)) (at + length s) l
      ∙ ap (λ (i : ℕ). drop i l) f

-- a run put into a part of k elements from index a on, and the part put back, is the run put into the whole
pub part-put : (l : List ℕ) (a k n : ℕ) (s : List ℕ) → a + k ≤ length l → n + length s ≤ k
    → take a l ++ (put (take k (drop a l)) n s ++ drop k (drop a l)) ≡ put l (a + n) s
unfolding put
part-put l a k n s h g =
    let p : List ℕ = take k (drop a l) in
    let r : List ℕ = drop k (drop a l) in
    let m : length p ≡ k = length-take-le k (drop a l) (simp length-drop (omega arith)) in
    let e1 : take n p ≡ take n (drop a l) = take-take n k (drop a l) (omega arith) in
    let i2 : a + (n + length s) ≡ a + n + length s = omega arith in
    let e2 : drop (n + length s) p ++ r ≡ drop (a + n + length s) l =
    sym (drop-append-le (n + length s) p r (omega arith)) ∙ ap (drop (n + length s)) (take-append-drop k (drop a l))
    ∙ drop-drop (n + length s) a l
    ∙ ap (λ (i : ℕ). drop i l) i2 in
    let e3 : (take n p ++ (s ++ drop (n + length s) p)) ++ r ≡ take n (drop a l) ++ (s ++ drop (a + n + length s) l) =
    append_assoc (take n p) (s ++ drop (n + length s) p) r ∙ ap (λ (z : List ℕ). take n p ++ z) (append_assoc s (drop (n + length s) p) r)
    ∙ ap (λ (z : List ℕ). take n p ++ (s ++ z)) e2
    ∙ ap (λ (z : List ℕ). z ++ (s ++ drop (a + n + length s) l)) e1 in
    ap (λ (z : List ℕ). take a l ++ z) e3 ∙ sym (append_assoc (take a l) (take n (drop a l)) (s ++ drop (a + n + length s) l))
    ∙ ap (λ (z : List ℕ). z ++ (s ++ drop (a + n + length s) l)) (sym (take-add a n l))
