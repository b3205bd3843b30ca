-- An attempt one message longer, and one outcome longer; and that what `take` tells is what the world's outcome holds.
-- Assumes nothing.
use Prim.Native.Nat.{ℕ}
use mathlib.Core.Path.{◌≡◌, refl, sym, ap, subst, ◌∙◌, fun_ext}
use mathlib.Core.List.{List, [], ◌∷◌, ◌++◌}
use native.Mathlib.Omega.{arith}
use lib.ListN.{length, get_or}
use Rattle.std.specs.Prelude.{Option}
use Rattle.answer.specs.declared.Status.{Status}
use Rattle.exchange.specs.Outcomes.{Result, Outcome, told}
use Rattle.exchange.proofs.Codec.{told_at_lem}
use Rattle.layout.specs.declared.Stage.{Stage}
use Rattle.table.specs.declared.attempt.Next.{Next}
use Rattle.table.specs.declared.attempt.Next.TheVariants.{Send, Done, Ended}
use Rattle.table.specs.Attempt.{Told, told_of, next_of, next_by}
use Rattle.table.specs.Promises.{came_to}
use Rattle.trained.specs.Attempts.{unanswered, told_by, told_bys, Asks, Attempts}

abbrev telling : (ℕ → Option Status) → (ℕ → List ℕ) → Told
telling ending words = record { ending = ending; words = words }

pub told_same : (message answer : List ℕ) → told_of message answer ≡ told_by (told message answer)
told_same message answer =
    let at : (k : ℕ) → get_or (told message answer) k unanswered ≡ _ = told_at_lem message answer in
    ap (λ e. telling e (told_of message answer).words) (fun_ext (λ k. sym (ap (λ (r : Result). r.ending) (at k))))
    ∙ ap (telling (told_by (told message answer)).ending) (fun_ext (λ k. sym (ap (λ (r : Result). r.words) (at k))))

module _ (rows : List ℕ) where
  -- one outcome more
  pub came-on : (os : List Outcome) (o : Outcome) (next : Next)
      → came_to rows next (told_bys (os ++ o ∷ [])) ≡ next_by rows (came_to rows next (told_bys os)) (told_by o)
  came-on [] o next = refl
  came-on (x ∷ os) o next = came-on os o (next_by rows next (told_by x))

  module _ (start : ℕ) where
    pub attempts-later : (ds : List (List ℕ)) (next : Next) (os later : List Outcome) → Attempts start rows next os ds
        → Attempts start rows next (os ++ later) ds
    attempts-later [] next os later a = tt
    attempts-later (d ∷ ds) (Send stage) (o ∷ os) later a =
        (a.0, attempts-later ds (next_of rows stage (told_by o)) os later a.1)
    attempts-later (d ∷ []) (Send stage) [] [] a = a
    attempts-later (d ∷ []) (Send stage) [] (o ∷ later) a = (a, tt)
    attempts-later (d ∷ e ∷ ds) (Send stage) [] later a = absurd a
    attempts-later (d ∷ ds) Done os later a = absurd a
    attempts-later (d ∷ ds) (Ended n) os later a = absurd a

    -- one message more, where every one has its outcome
    pub attempts-more : (ds : List (List ℕ)) (next : Next) (os : List Outcome) (d : List ℕ) (stage : Stage)
        → Attempts start rows next os ds → length os ≡ length ds → came_to rows next (told_bys os) ≡ Send stage
        → Asks start rows stage d → Attempts start rows next os (ds ++ d ∷ [])
    attempts-more [] next [] d stage a l c h = subst (λ (n : Next). Attempts start rows n [] (d ∷ [])) (sym c) h
    attempts-more [] next (o ∷ os) d stage a l c h = absurd (omega arith)
    attempts-more (e ∷ ds) (Send s) (o ∷ os) d stage a l c h =
        (a.0, attempts-more ds (next_of rows s (told_by o)) os d stage a.1 (omega arith) c h)
    attempts-more (e ∷ ds) (Send s) [] d stage a l c h = absurd (omega arith)
    attempts-more (e ∷ ds) Done os d stage a l c h = absurd a
    attempts-more (e ∷ ds) (Ended n) os d stage a l c h = absurd a
