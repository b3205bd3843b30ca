-- Facts about lists that grow at their end, for the other files here.
-- Assumes nothing.
use Prim.Native.Nat.{ℕ, zero, suc, ◌≤◌, ◌<◌}
use mathlib.Core.Path.{◌≡◌, refl, sym, ◌∙◌, ap}
use mathlib.Core.Logic.{◌⊎◌, inl, inr}
use mathlib.Core.Option.{some}
use mathlib.Core.List.{List, [], ◌∷◌, ◌++◌, append_assoc, append-nil}
use native.Mathlib.Omega.{arith}
use native.Mathlib.Decide.{dec_lt}
use native.Mathlib.Nat.{not-suc-le-zero}
use lib.ListN.{length, get_or, take, get_elem?, length-append, get_or-append}
use lib.Seq.{get_or-append_seam}

module _ {A : Type 0} where
  -- r is l, or l with more behind it
  pub record Onto (l r : List A) : Type 0 where
    pub more : List A
    pub is : r ≡ l ++ more

  -- a list is onto its front part, and onto itself; and so on
  pub onto : (l more : List A) → Onto l (l ++ more)
  onto l more = record { more = more; is = refl }

  pub onto_same : (l : List A) → Onto l l
  onto_same l = record { more = []; is = sym (append-nil l) }

  pub onto-onto : {l r q : List A} → Onto l r → Onto r q → Onto l q
  onto-onto {l} p o = record { more = p.more ++ o.more; is = o.is ∙ ap (λ u. u ++ o.more) p.is ∙ append_assoc l p.more o.more }

  -- so it is no shorter, and what l holds stands in it
  pub onto-length : {l r : List A} → Onto l r → length l ≤ length r
  onto-length {l} p = rw p.is (omega (arith, length-append l p.more))

  pub onto-at : {l r : List A} (z : A) (j : ℕ) → Onto l r → j < length l → get_or r j z ≡ get_or l j z
  onto-at {l} z j p h = rw p.is (get_or-append l p.more z j h)

  -- what holds at every place of l and of a, holds at every place of l with a at its end
  pub each_more : (P : A → Type 0) (l : List A) (a z : A) → P a → ((j : ℕ) → j < length l → P (get_or l j z)) →
      (j : ℕ) → j < length (l ++ a ∷ []) → P (get_or (l ++ a ∷ []) j z)
  each_more P l a z pa pl j h = by (dec_lt j (length l))
    where
      by : Dec (j < length l) → P (get_or (l ++ a ∷ []) j z)
      by (yes y) = rw (get_or-append l (a ∷ []) z j y) (pl j y)
      by (no y) =
          let e : j ≡ length l = omega (arith, simp length-append at h) in
          rw (e, get_or-append_seam l a [] z) pa

  -- a place that holds something lies inside
  pub inside : (l : List A) (i : ℕ) (a : A) → get_elem? l i ≡ some a → i < length l
  inside [] i a e = let z : ◌≡◌ {A = ℕ} 0 1 = cc in omega arith
  inside (x ∷ l) zero a e = omega arith
  inside (x ∷ l) (suc i) a e = omega (arith, inside l i a e)

  -- and a place inside holds something
  pub there : (l : List A) (i : ℕ) → i < length l → (a : A) × (get_elem? l i ≡ some a)
  there [] i h = absurd (not-suc-le-zero h)
  there (x ∷ l) zero h = (x, refl)
  there (x ∷ l) (suc i) h = there l i (omega arith)

  -- what is put at the end is there
  pub at-end : (l : List A) (a : A) → get_elem? (l ++ a ∷ []) (length l) ≡ some a
  at-end [] a = refl
  at-end (x ∷ l) a = at-end l a

  -- it is still there when the list has grown
  pub still : (l r : List A) (i : ℕ) (a : A) → get_elem? l i ≡ some a → get_elem? (l ++ r) i ≡ some a
  still [] r i a e = let z : ◌≡◌ {A = ℕ} 0 1 = cc in absurd (omega arith)
  still (x ∷ l) r zero a e = e
  still (x ∷ l) r (suc i) a e = still l r i a e

  -- what is there, was there or is the last
  pub newly : (l : List A) (b : A) (i : ℕ) (a : A) → get_elem? (l ++ b ∷ []) i ≡ some a → (get_elem? l i ≡ some a) ⊎ ((i ≡ length l) × (b ≡ a))
  newly [] b zero a e = inr (refl, cc)
  newly [] b (suc i) a e = inl e
  newly (x ∷ l) b zero a e = inl e
  newly (x ∷ l) b (suc i) a e = up (newly l b i a e)
    where
      up : (get_elem? l i ≡ some a) ⊎ ((i ≡ length l) × (b ≡ a)) → (get_elem? (x ∷ l) (suc i) ≡ some a) ⊎ ((suc i ≡ length (x ∷ l)) × (b ≡ a))
      up (inl h) = inl h
      up (inr h) = inr (ap suc h.0, h.1)

  -- the first n hold what the list holds there
  pub among : (n : ℕ) (l : List A) (i : ℕ) → i < n → get_elem? (take n l) i ≡ get_elem? l i
  among zero l i h = absurd (not-suc-le-zero h)
  among (suc n) [] i h = refl
  among (suc n) (x ∷ l) zero h = refl
  among (suc n) (x ∷ l) (suc i) h = among n l i (omega arith)

  -- one more than the first i
  pub one_more : (l : List A) (i : ℕ) (a : A) → get_elem? l i ≡ some a → take (suc i) l ≡ take i l ++ a ∷ []
  one_more [] i a e = let z : ◌≡◌ {A = ℕ} 0 1 = cc in absurd (omega arith)
  one_more (x ∷ l) zero a e = let z : x ≡ a = cc in ap (λ y. y ∷ []) z
  one_more (x ∷ l) (suc i) a e = ap (λ r. x ∷ r) (one_more l i a e)
