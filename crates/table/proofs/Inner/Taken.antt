-- What follows an answer, and an answer taken: refused, or accepted. The proofs of `next_by` and `take` cite these.
-- Assumes nothing.
use Prim.Native.Nat.{ℕ}
use mathlib.Core.Path.{◌≡◌, refl, sym, ap, ◌∙◌}
use mathlib.Core.List.{List}
use borrow.Author.Tests.{ne_eqb}
use Rattle.std.proofs.Common.{Ok, Err}
use Rattle.header.specs.declared.refusal.Refusal.{Refusal}
use Rattle.initiator.specs.declared.sender.Progress.{Progress}
use Rattle.initiator.specs.Sender.{take_by, take_of}
use Rattle.initiator.proofs.Laws.Checked.{take-goes, take-stops}
use Rattle.table.specs.declared.attempt.Next.{Next}
use Rattle.table.specs.declared.attempt.Attempt.{Attempt}
use Rattle.table.specs.Attempt.{Told, told_of, next_by}
use Rattle.table.specs.Calls.{attempt_at, answered_of, taken_of}
use Rattle.table.proofs.Laws.Calls.{taken_refused, taken-accepted}

pub after-as : (rows : List ℕ) (told : Told) {next is r : Next} → next ≡ is → r ≡ next_by rows is told
    → r ≡ next_by rows next told
after-as rows told e p = p ∙ ap (λ (x : Next). next_by rows x told) (sym e)

module _ (a : Attempt) (message answer rows : List ℕ) where
  pub refused : {r : Refusal} → Err r ≡ take_by a.sender message answer → Err r ≡ answered_of (taken_of a message answer rows)
  refused e =
      let k = take-stops a.sender message answer e in
      let h : (take_of a.sender message answer).refusal.number ≡ 0 → ⊥ = rw k.0 k.1 in
      rw (taken_refused a message answer rows h, ne_eqb (take_of a.sender message answer).refusal.number 0 h, k.0) refl

  pub accepted : {p : Progress} {next : Next} → Ok p ≡ take_by a.sender message answer
      → next ≡ next_by rows a.next (told_of message answer)
      → Ok (attempt_at p.sender next) ≡ answered_of (taken_of a message answer rows)
  accepted e n =
      let k = take-goes a.sender message answer e in
      let h : (take_of a.sender message answer).refusal.number ≡ 0 = rw k refl in
      rw (n, taken-accepted a message answer rows h, k) refl
