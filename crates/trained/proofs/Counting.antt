-- Where the mark is 24 after an attempt, its whole list was carried out: `attempt-four`. Assumes nothing.
use Prim.Native.Nat.{ℕ, zero, suc, ◌+◌, ◌/◌, ◌%◌, ◌≤◌}
use mathlib.Core.Path.{◌≡◌, refl, sym, ap, ◌∙◌}
use mathlib.Core.Bool.{Bool, true, false}
use mathlib.Core.Logic.{◌⊎◌, inl, inr}
use mathlib.Core.List.{List, [], ◌∷◌}
use native.Mathlib.Omega.{arith}
use borrow.Author.Tests.{ltb-true, ltb-false}
use lib.Dec.{ltb}
use lib.ListN.{length, take, get_or-eq_default}
use lib.Seq.{take-nil}
use Rattle.word.specs.Words.{Words}
use Rattle.once.specs.Promise.{made}
use Rattle.exchange.specs.Outcomes.{Outcome}
use Rattle.exchange.specs.Terms.{terms}
use Rattle.layout.specs.declared.Stage.{Stage}
use Rattle.layout.specs.declared.Stage.TheVariants.{Clear, Rows, Back, Mark}
use Rattle.layout.specs.Layout.{table_of, complete}
use Rattle.table.specs.declared.attempt.Next.{Next}
use Rattle.table.specs.declared.attempt.Next.TheVariants.{Send, Done, Ended}
use Rattle.table.specs.Attempt.{Told, next_of}
use Rattle.trained.specs.Loading.{mark_in, rows_in}
use Rattle.trained.specs.Attempts.{told_by, Asks, Attempts}
use Rattle.trained.proofs.Stages.{next-or, carry, length-made, Inside, Stands, inside-next, clear-mark}
use Rattle.trained.proofs.Stages.{rows-mark}
use Rattle.trained.proofs.Stages.{back-mark, cleared-stands, stands-next, first_part}

-- where memory has no room for the table, its mark is 0
pub no-mark : (start : ℕ) (m : List ℕ) → length m ≤ start / 4 + 192 → mark_in start m ≡ 0
no-mark start m h = get_or-eq_default m 0 h

module _ (start : ℕ) (rows : List ℕ) (z : start % 4 ≡ 0) (t : Words rows) where
  -- how many messages were carried out where this comes next, behind the clearing
  abbrev Counted : Next → ℕ → List ℕ → Type 0
  Counted (Send Clear) a m = ⊥
  Counted (Send Rows) a m = a ≡ 1
  Counted (Send Back) a m = a ≡ 2
  Counted (Send Mark) a m = a ≡ 3
  Counted Done a m = a ≡ 4
  Counted (Ended n) a m = mark_in start m ≡ complete → a ≡ 4

  none-there : {a : ℕ} (m : List ℕ) → mark_in start m ≡ 0 → mark_in start m ≡ complete → a ≡ 4
  none-there m h e = absurd (omega (arith, h, e))

  module _ (m d : List ℕ) (l : Inside start rows m) where
    counted-clear : (told : Told) → Asks start rows Clear d → Counted (next_of rows Clear told) 1 (carry m d)
    counted-clear told g =
        next-or (λ (n : Next). Counted n 1 (carry m d)) rows Clear told refl
        (λ n. none-there (carry m d) (clear-mark start rows z t m d l g))

    counted_next : (stage : Stage) (told : Told) (a : ℕ) → Asks start rows stage d → Stands start rows (Send stage) m
        → Counted (Send stage) a m → Counted (next_of rows stage told) (suc a) (carry m d)
    counted_next Clear told a g h k = absurd k
    counted_next Rows told a g h k =
        next-or (λ (n : Next). Counted n (suc a) (carry m d)) rows Rows told (ap suc k)
        (λ n. none-there (carry m d) (rows-mark start rows z t m d l g ∙ h))
    counted_next Back told a g h k =
        next-or (λ (n : Next). Counted n (suc a) (carry m d)) rows Back told (ap suc k)
        (λ n. none-there (carry m d) (back-mark start rows z t m d l g ∙ h.0))
    counted_next Mark told a g h k =
        next-or (λ (n : Next). Counted n (suc a) (carry m d)) rows Mark told (ap suc k) (λ n e. ap suc k)

  here : (next : Next) (m : List ℕ) (a : ℕ) → Stands start rows next m → Counted next a m → mark_in start m ≡ complete
      → a ≡ 4
  here (Send Clear) m a h k e = absurd k
  here (Send Rows) m a h k e = none-there m h e
  here (Send Back) m a h k e = none-there m h.0 e
  here (Send Mark) m a h k e = none-there m h.0 e
  here Done m a h k e = k
  here (Ended n) m a h k e = k e

  count-on : (ds : List (List ℕ)) (next : Next) (os : List Outcome) (k : ℕ) (m : List ℕ) (a : ℕ)
      → Attempts start rows next os ds → Inside start rows m → Stands start rows next m → Counted next a m
      → mark_in start (made terms m (take k ds)) ≡ complete → a + length (take k ds) ≡ 4
  count-on [] next os k m a g l h c e =
      let q : take k [] ≡ [] = take-nil {A = List ℕ} k in
      let r = here next m a h c (ap (λ (x : List (List ℕ)). mark_in start (made terms m x)) (sym q) ∙ e) in
      omega (arith, r, ap length q)
  count-on (d ∷ ds) next os zero m a g l h c e = omega (arith, here next m a h c e)
  count-on (d ∷ ds) (Send stage) (o ∷ os) (suc k) m a g l h c e =
      let r =
      count-on ds (next_of rows stage (told_by o)) os k (carry m d) (suc a) g.1 (inside-next start rows z t m d l)
      (stands-next start rows z t m d l stage (told_by o) g.0 h)
      (counted_next m d l stage (told_by o) a g.0 h c) e in
      omega (arith, r)
  count-on (d ∷ []) (Send stage) [] (suc k) m a g l h c e =
      let r =
      count-on [] (next_of rows stage (told_by [])) [] k (carry m d) (suc a) tt (inside-next start rows z t m d l)
      (stands-next start rows z t m d l stage (told_by []) g h) (counted_next m d l stage (told_by []) a g h c) e in
      omega (arith, r)
  count-on (d ∷ x ∷ ds) (Send stage) [] (suc k) m a g l h c e = absurd g
  count-on (d ∷ ds) Done os (suc k) m a g l h c e = absurd g
  count-on (d ∷ ds) (Ended n) os (suc k) m a g l h c e = absurd g

  first-four : (os : List Outcome) (d : List ℕ) (ds : List (List ℕ)) (k : ℕ) (m : List ℕ)
      → Attempts start rows (Send Clear) os (d ∷ ds) → Inside start rows m
      → mark_in start (made terms (carry m d) (take k ds)) ≡ complete → 1 + length (take k ds) ≡ 4
  first-four (o ∷ os) d ds k m g l e =
      count-on ds (next_of rows Clear (told_by o)) os k (carry m d) 1 g.1 (inside-next start rows z t m d l)
      (cleared-stands start rows z t m d l (told_by o) g.0) (counted-clear m d l (told_by o) g.0) e
  first-four [] d [] k m g l e =
      count-on [] (next_of rows Clear (told_by [])) [] k (carry m d) 1 tt (inside-next start rows z t m d l)
      (cleared-stands start rows z t m d l (told_by []) g) (counted-clear m d l (told_by []) g) e
  first-four [] d (x ∷ ds) k m g l e = absurd g

  -- An attempt leaves memory as it was, nothing of it carried out; or, where the mark is 24 then, all of it was, and
  -- the rows are its own.
  pub attempt-four : (os : List Outcome) (ds : List (List ℕ)) (k : ℕ) (m : List ℕ)
      → Attempts start rows (Send Clear) os ds
      → ((made terms m (take k ds) ≡ m) × (take k ds ≡ []))
      ⊎ (mark_in start (made terms m (take k ds)) ≡ complete
      → (rows_in start (made terms m (take k ds)) ≡ table_of rows) × (length (take k ds) ≡ 4))
  attempt-four os [] k m g = rw (take-nil {A = List ℕ} k) (inl (refl, refl))
  attempt-four os (d ∷ ds) zero m g = inl (refl, refl)
  attempt-four os (d ∷ ds) (suc k) m g = inr (go (ltb (length m) (start / 4 + 193)) refl)
    where
      m' : List ℕ
      m' = made terms m (take (suc k) (d ∷ ds))

      go : (b : Bool) → ltb (length m) (start / 4 + 193) ≡ b → mark_in start m' ≡ complete
          → (rows_in start m' ≡ table_of rows) × (length (take (suc k) (d ∷ ds)) ≡ 4)
      go true e x =
          let w = ltb-true (length m) (start / 4 + 193) e in
          let o = no-mark start m' (omega (arith, w, length-made m (take (suc k) (d ∷ ds)))) in
          absurd (omega (arith, o, x))
      go false e x =
          let l = ltb-false (length m) (start / 4 + 193) e in
          (first_part start rows z t os d ds k m g l x, omega (arith, first-four os d ds k m g l x))
