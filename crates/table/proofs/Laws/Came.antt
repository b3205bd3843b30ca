-- What follows each stage, in the promises' words: every row was well, or the first that was not. Whoever stands above
-- an attempt cites these. Assumes nothing.
use Prim.Native.Nat.{ℕ, zero, suc, ◌+◌, ◌<◌, ◌≤◌}
use mathlib.Core.Path.{◌≡◌, refl, sym, ap, ◌∙◌}
use mathlib.Core.Bool.{Bool, true, false, and-eq-true_iff, false≢true}
use mathlib.Core.List.{List}
use mathlib.Core.Logic.{◌⊎◌, inl, inr}
use native.Mathlib.Omega.{arith}
use borrow.Author.Tests.{eqb-true, eqb-false}
use lib.Dec.{eqb}
use Rattle.word.proofs.Same.{same-equal}
use Rattle.answer.specs.declared.Status.{Status}
use Rattle.answer.specs.declared.Status.TheVariants.{Ok, Timeout, Error}
use Rattle.std.specs.Prelude.{Option, Some, None}
use Rattle.layout.specs.declared.Stage.TheVariants.{Clear, Rows, Back, Mark}
use Rattle.layout.specs.Layout.{row_of, row_count}
use Rattle.table.specs.declared.attempt.Next.{Next}
use Rattle.table.specs.declared.attempt.Next.TheVariants.{Send, Done}
use Rattle.table.specs.declared.attempt.Next.TheVariants as next
use Rattle.table.specs.Attempt.{Told, is_ok, wrote_row, read_row, through, marking, next_of}
use Rattle.table.specs.Promises.{Well, AsSent, EveryRow, FirstNot}
use Rattle.table.proofs.Laws.Attempt.{next-clear, next-rows, next-back, next-mark, marking-well, marking-bad}
use Rattle.table.proofs.Laws.Attempt.{through-none, through-well, through-bad}
use Rattle.table.proofs.Laws.Attempt.{wrote-is, read_is}
use Rattle.table.proofs.Laws.Sent.{sent-on}

-- OK is the one ending that is well
ok-is : (e : Option Status) → is_ok e ≡ true → e ≡ Some Ok
ok-is None h = absurd (false≢true h)
ok-is (Some Ok) h = refl
ok-is (Some Timeout) h = absurd (false≢true h)
ok-is (Some Error) h = absurd (false≢true h)

-- a test of which the truth is known
not_on : (t : Bool) → (t ≡ true → ⊥) → t ≡ false
not_on true h = absurd (h refl)
not_on false h = refl

module _ (told : Told) (i : ℕ) where
  pub well-on : Well told i → is_ok (told.ending i) ≡ true
  well-on e = ap is_ok e

  pub on-well : is_ok (told.ending i) ≡ true → Well told i
  on-well = ok-is (told.ending i)

  pub on-sent : (rows : List ℕ) → read_row rows told i ≡ true → AsSent rows told i
  on-sent rows e =
      let t = (and-eq-true_iff _ _).0 (sym (read_is told i rows) ∙ e) in
      (on-well t.0, same-equal (told.words i) (row_of rows i) t.1)

-- the mark
module _ (told : Told) (on : Next) where
  marked-on : Well told 0 → marking told on ≡ on
  marked-on e = marking-well told on (well-on told 0 e)

  marked-off : (Well told 0 → ⊥) → marking told on ≡ next.Ended 25
  marked-off h = marking-bad told on (not_on _ (λ e. h (on-well told 0 e)))

pub well-or : (told : Told) (i : ℕ) → Well told i ⊎ (Well told i → ⊥)
well-or told i = go (is_ok (told.ending i)) refl
  where
    go : (t : Bool) → is_ok (told.ending i) ≡ t → Well told i ⊎ (Well told i → ⊥)
    go true e = inl (on-well told i e)
    go false e = inr (λ w. false≢true (sym e ∙ well-on told i w))

-- the rows, by a test that says what is good
module _ (Good : ℕ → Type 0) (well : ℕ → Bool) (yes : (i : ℕ) → well i ≡ true → Good i)
    (sure : (i : ℕ) → Good i → well i ≡ true) where
  -- one of the two is so
  first_of : (n i : ℕ) → ((j : ℕ) → j < i → Good j) → i + n ≡ row_count
      → EveryRow Good ⊎ ((number : ℕ) × FirstNot Good number)
  first_of zero i h e = inl (λ j l. h j (omega arith))
  first_of (suc n) i h e = go (well i) refl (λ g. first_of n (suc i) g (omega arith))
    where
      more : Good i → (j : ℕ) → j < suc i → Good j
      more g j l = by (eqb j i) refl
        where
          by : (t : Bool) → eqb j i ≡ t → Good j
          by true z = rw (eqb-true j i z) g
          by false z = h j (omega (arith, eqb-false j i z))

      go : (t : Bool) → well i ≡ t
          → (((j : ℕ) → j < suc i → Good j) → EveryRow Good ⊎ ((number : ℕ) × FirstNot Good number))
          → EveryRow Good ⊎ ((number : ℕ) × FirstNot Good number)
      go true z on-from = on-from (more (yes i z))
      go false z on-from =
          let off : Good i → ⊥ = λ g. false≢true (sym z ∙ sure i g) in
          inr (i + 1, record { i = i; is = refl; row = omega arith; before = h; not = off })

  every-or : EveryRow Good ⊎ ((number : ℕ) × FirstNot Good number)
  every-or = first_of row_count 0 (λ j l. absurd (omega arith)) refl

  -- and what follows then
  module _ (on : Next) where
    all-on : (n i : ℕ) → ((j : ℕ) → i ≤ j → j < i + n → Good j) → through well on i n ≡ on
    all-on zero i h = through-none well on i
    all-on (suc n) i h =
        through-well well on i n (sure i (h i (omega arith) (omega arith)))
        ∙ all-on n (suc i) (λ j a b. h j (omega arith) (omega arith))

    first_off : (n i k : ℕ) → i ≤ k → k < i + n → ((j : ℕ) → i ≤ j → j < k → Good j) → (Good k → ⊥)
        → through well on i n ≡ next.Ended (k + 1)
    first_off zero i k a b h off = absurd (omega arith)
    first_off (suc n) i k a b h off = go (eqb i k) refl (λ l g. first_off n (suc i) k l (omega arith) g off)
      where
        go : (t : Bool) → eqb i k ≡ t
            → (suc i ≤ k → ((j : ℕ) → suc i ≤ j → j < k → Good j) → through well on (suc i) n ≡ next.Ended (k + 1))
            → through well on i (suc n) ≡ next.Ended (k + 1)
        go true e on-from =
            let z : i ≡ k = eqb-true i k e in
            let y : suc i ≡ k + 1 = omega arith in
            through-bad well on i n (not_on _ (λ w. off (rw z at (yes i w)))) ∙ ap next.Ended y
        go false e on-from =
            let z = eqb-false i k e in
            through-well well on i n (sure i (h i (omega arith) (omega (arith, z))))
            ∙ on-from (omega (arith, z)) (λ j x y. h j (omega arith) y)

    every-on : EveryRow Good → through well on 0 row_count ≡ on
    every-on h = all-on row_count 0 (λ j a b. h j (omega arith))

    first_ends : (number : ℕ) → FirstNot Good number → through well on 0 row_count ≡ next.Ended number
    first_ends number f =
        first_off row_count 0 f.i (omega arith) f.row (λ j a b. f.before j b) f.not
        ∙ ap next.Ended (sym f.is)

-- what follows each stage
module _ (rows : List ℕ) (told : Told) where
  pub after-clear : Well told 0 → next_of rows Clear told ≡ Send Rows
  after-clear e = next-clear rows told ∙ marked-on told _ e

  pub not-clear : (Well told 0 → ⊥) → next_of rows Clear told ≡ next.Ended 25
  not-clear h = next-clear rows told ∙ marked-off told _ h

  yes-wrote : (i : ℕ) → wrote_row told i ≡ true → Well told i
  yes-wrote i e = on-well told i (sym (wrote-is told i) ∙ e)

  sure-wrote : (i : ℕ) → Well told i → wrote_row told i ≡ true
  sure-wrote i e = wrote-is told i ∙ well-on told i e

  pub after-rows : EveryRow (Well told) → next_of rows Rows told ≡ Send Back
  after-rows h = next-rows rows told ∙ every-on (Well told) (wrote_row told) yes-wrote sure-wrote _ h

  pub not-rows : (number : ℕ) → FirstNot (Well told) number → next_of rows Rows told ≡ next.Ended number
  not-rows number f = next-rows rows told ∙ first_ends (Well told) (wrote_row told) yes-wrote sure-wrote _ number f

  pub rows-or : EveryRow (Well told) ⊎ ((number : ℕ) × FirstNot (Well told) number)
  rows-or = every-or (Well told) (wrote_row told) yes-wrote sure-wrote

  yes-read : (i : ℕ) → read_row rows told i ≡ true → AsSent rows told i
  yes-read i e = on-sent told i rows e

  sure-read : (i : ℕ) → AsSent rows told i → read_row rows told i ≡ true
  sure-read i s = sent-on told i rows s

  pub after-back : EveryRow (AsSent rows told) → next_of rows Back told ≡ Send Mark
  after-back h = next-back rows told ∙ every-on (AsSent rows told) (read_row rows told) yes-read sure-read _ h

  pub not_back : (number : ℕ) → FirstNot (AsSent rows told) number → next_of rows Back told ≡ next.Ended number
  not_back number f =
      next-back rows told ∙ first_ends (AsSent rows told) (read_row rows told) yes-read sure-read _ number f

  pub back-or : EveryRow (AsSent rows told) ⊎ ((number : ℕ) × FirstNot (AsSent rows told) number)
  back-or = every-or (AsSent rows told) (read_row rows told) yes-read sure-read

  pub after-mark : Well told 0 → next_of rows Mark told ≡ Done
  after-mark e = next-mark rows told ∙ marked-on told _ e

  pub not-mark : (Well told 0 → ⊥) → next_of rows Mark told ≡ next.Ended 25
  not-mark h = next-mark rows told ∙ marked-off told _ h
