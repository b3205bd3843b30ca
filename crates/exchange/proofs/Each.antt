-- What a function gives at each of so many places: `each` of specs/Outcomes.antt. Assumes nothing.
use Prim.Native.Nat.{ℕ, zero, suc, ◌≤◌, ◌<◌}
use mathlib.Core.Path.{◌≡◌, refl, sym, ap}
use mathlib.Core.Option.{some}
use mathlib.Core.List.{◌∷◌}
use native.Mathlib.Omega.{arith}
use lib.ListN.{length, get_or, get_elem?, take}
use Rattle.exchange.specs.Outcomes.{each}

module _ {A : Type 0} where
  pub each_long : (n : ℕ) (f : ℕ → A) → length (each n f) ≡ n
  unfolding each
  each_long zero f = refl
  each_long (suc n) f = ap suc (each_long n (λ k. f (suc k)))

  -- what stands at a place
  pub each_at : (n : ℕ) (f : ℕ → A) (j : ℕ) → j < n → get_elem? (each n f) j ≡ some (f j)
  unfolding each
  each_at zero f j h = absurd (omega arith)
  each_at (suc n) f zero h = refl
  each_at (suc n) f (suc j) h = each_at n (λ k. f (suc k)) j (omega arith)

  pub each_in : (n : ℕ) (f : ℕ → A) (j : ℕ) (x : A) → get_elem? (each n f) j ≡ some x → (j < n) × (f j ≡ x)
  unfolding each
  each_in zero f j x e = let z : ◌≡◌ {A = ℕ} 0 1 = cc in absurd (omega arith)
  each_in (suc n) f zero x e = (omega arith, cc)
  each_in (suc n) f (suc j) x e = let r = each_in n (λ k. f (suc k)) j x e in (omega (arith, r.0), r.1)

  -- what is read at any place, where the function gives z behind the last
  pub each_or : (n : ℕ) (f : ℕ → A) (k : ℕ) (z : A) → ((j : ℕ) → n ≤ j → f j ≡ z) → get_or (each n f) k z ≡ f k
  unfolding each
  each_or zero f k z h = sym (h k (omega arith))
  each_or (suc n) f zero z h = refl
  each_or (suc n) f (suc k) z h = each_or n (λ j. f (suc j)) k z (λ j l. h (suc j) (omega arith))

  -- two functions that give the same
  pub each_same : (n : ℕ) (f g : ℕ → A) → ((j : ℕ) → j < n → f j ≡ g j) → each n f ≡ each n g
  unfolding each
  each_same zero f g h = refl
  each_same (suc n) f g h =
      rw (h 0 (omega arith), each_same n (λ k. f (suc k)) (λ k. g (suc k)) (λ j l. h (suc j) (omega arith)))

  -- the first m, where there are so many, and where there are no more
  pub each-front : (m n : ℕ) (f : ℕ → A) → m ≤ n → take m (each n f) ≡ each m f
  unfolding each
  each-front zero n f h = refl
  each-front (suc m) zero f h = absurd (omega arith)
  each-front (suc m) (suc n) f h = ap (λ l. f 0 ∷ l) (each-front m n (λ k. f (suc k)) (omega arith))

  pub each_all : (m n : ℕ) (f : ℕ → A) → n ≤ m → take m (each n f) ≡ each n f
  unfolding each
  each_all zero zero f h = refl
  each_all (suc m) zero f h = refl
  each_all zero (suc n) f h = absurd (omega arith)
  each_all (suc m) (suc n) f h = ap (λ l. f 0 ∷ l) (each_all m n (λ k. f (suc k)) (omega arith))
