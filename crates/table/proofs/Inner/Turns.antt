-- The turns of a loop through the rows. The proof of `judging::through` cites these. Assumes nothing.
use Prim.Native.Nat.{ℕ, suc, ◌+◌, ◌-◌, ◌<◌, ◌≤◌}
use mathlib.Core.Path.{◌≡◌, sym, ap, ◌∙◌}
use mathlib.Core.Bool.{Bool, true, false}
use native.Mathlib.Omega.{arith}
use native.Mathlib.Numerals.{add-one}
use Rattle.layout.specs.Layout.{row_count}
use Rattle.table.specs.declared.attempt.Next.{Next}
use Rattle.table.specs.declared.attempt.Next.TheVariants.{Ended}
use Rattle.table.specs.Attempt.{through}
use Rattle.table.proofs.Laws.Attempt.{through-none, through-well, through-bad}

module _ {t : Next} (well : ℕ → Bool) (on : Next) (i : ℕ) (e : t ≡ through well on i (row_count - i)) where
  left : i < row_count → t ≡ through well on i (suc (row_count - (i + 1)))
  left h =
      let n : row_count - i ≡ suc (row_count - (i + 1)) = omega arith in
      e ∙ ap (through well on i) n

  pub turn_on : i < row_count → well i ≡ true → t ≡ through well on (i + 1) (row_count - (i + 1))
  turn_on h w =
      left h ∙ through-well well on i (row_count - (i + 1)) w
      ∙ ap (λ (k : ℕ). through well on k (row_count - (i + 1))) (sym (add-one i))

  pub turn-bad : i < row_count → well i ≡ false → Ended (i + 1) ≡ t
  turn-bad h w = sym (left h ∙ through-bad well on i (row_count - (i + 1)) w ∙ ap Ended (sym (add-one i)))

  pub turn_end : row_count ≤ i → on ≡ t
  turn_end h =
      let n : row_count - i ≡ 0 = omega arith in
      sym (e ∙ ap (through well on i) n ∙ through-none well on i)
