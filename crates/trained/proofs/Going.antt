-- An attempt whose outcomes are from the carrying out of its messages: where it is done the rows are its own, with room
-- for the table each outcome leads to the next stage, and without it the clearing fails. Assumes nothing.
use Prim.Native.Nat.{ℕ, zero, suc, ◌+◌, ◌/◌, ◌%◌, ◌≤◌, ◌<◌}
use mathlib.Core.Path.{◌≡◌, refl, sym, ap, subst, ◌∙◌}
use mathlib.Core.Logic.{◌⊎◌, inl, inr}
use mathlib.Core.List.{List, [], ◌∷◌, tail}
use native.Mathlib.Omega.{arith}
use native.Mathlib.Nat.{add-zero}
use lib.ListN.{length, get_or, take}
use lib.Seq.{take-nil}
use Rattle.word.specs.Words.{Words}
use Rattle.once.specs.Promise.{made, results}
use Rattle.exchange.specs.Outcomes.{Outcome, outcome_over}
use Rattle.exchange.specs.Terms.{terms}
use Rattle.layout.specs.declared.Stage.{Stage}
use Rattle.layout.specs.declared.Stage.TheVariants.{Clear}
use Rattle.table.specs.declared.attempt.Next.{Next}
use Rattle.table.specs.declared.attempt.Next.TheVariants.{Send, Done, Ended}
use Rattle.table.specs.Attempt.{next_of}
use Rattle.table.specs.Promises.{came_to, Well}
use Rattle.table.proofs.Laws.Came.{well-or, not-clear}
use Rattle.trained.specs.Attempts.{told_by, told_bys, Attempts}
use Rattle.trained.specs.Promise.{stage_at, fails_at}
use Rattle.trained.proofs.Stages.{place, following, ended-stays, carry, Inside, Stands, inside-next}
use Rattle.trained.proofs.Stages.{cleared-stands}
use Rattle.trained.proofs.Stages.{stands-next, done_on}
use Rattle.trained.proofs.Telling.{well-inside, clear-failed}
use Rattle.trained.proofs.Fitting.{well-clear, well-next}

-- which stage
abbrev stage_of : Next → Stage
stage_of (Send stage) = stage
stage_of Done = Clear
stage_of (Ended n) = Clear

-- no outcomes without messages
none_more : {o : Outcome} {os : List Outcome} (m : List ℕ) (f : ℕ) → o ∷ os ≡ results terms m (take f []) → ⊥
none_more m f r = absurd (omega (arith, ap length (r ∙ ap (results terms m) (take-nil {A = List ℕ} f))))

module _ (start : ℕ) (rows : List ℕ) (z : start % 4 ≡ 0) (t : Words rows) where
  -- the first outcome is that of the first message
  outcome-first : {o : Outcome} {os : List Outcome} (m d : List ℕ) (ds : List (List ℕ)) (f : ℕ)
      → o ∷ os ≡ results terms m (take (suc f) (d ∷ ds)) → o ≡ outcome_over m d
  outcome-first m d ds f r = ap (λ (l : List Outcome). get_or l 0 []) r

  -- an attempt that is done had an OK clearing
  went_on : (o : Outcome) (os : List Outcome) → came_to rows (next_of rows Clear (told_by o)) (told_bys os) ≡ Done
      → Well (told_by o) 0
  went_on o os e = go (well-or (told_by o) 0)
    where
      go : Well (told_by o) 0 ⊎ (Well (told_by o) 0 → ⊥) → Well (told_by o) 0
      go (inl w) = w
      go (inr w) =
          let x : Ended 25 ≡ Done =
          sym (ended-stays rows 25 os)
          ∙ ap (λ (n : Next). came_to rows n (told_bys os)) (sym (not-clear rows (told_by o) w)) ∙ e in
          absurd (omega (arith, ap place x))

  pub attempt-done : (os : List Outcome) (ds : List (List ℕ)) (k f : ℕ) (m : List ℕ)
      → Attempts start rows (Send Clear) os ds → os ≡ results terms m (take f ds) → length os ≤ k
      → length os ≤ length ds
      → came_to rows (Send Clear) (told_bys os) ≡ Done → Stands start rows Done (made terms m (take k ds))
  attempt-done [] ds k f m a r p q e = absurd (omega (arith, ap place e))
  attempt-done (o ∷ os) [] k f m a r p q e = absurd (omega arith)
  attempt-done (o ∷ os) (d ∷ ds) zero f m a r p q e = absurd (omega arith)
  attempt-done (o ∷ os) (d ∷ ds) (suc k) zero m a r p q e = absurd (omega (arith, ap length r))
  attempt-done (o ∷ os) (d ∷ ds) (suc k) (suc f) m a r p q e =
      let i = outcome-first m d ds f r in
      let l = well-inside m d z a.0 (subst (λ (x : Outcome). Well (told_by x) 0) i (went_on o os e)) in
      done_on start rows z t ds (next_of rows Clear (told_by o)) os k (carry m d) a.1
      (inside-next start rows z t m d l)
      (cleared-stands start rows z t m d l (told_by o) a.0) (omega arith) (omega arith) e

  -- with room for the table, a message finished at a stage leads to what follows it
  leads : (stage : Stage) (m d : List ℕ) (ds : List (List ℕ)) (o : Outcome) (os : List Outcome) (f : ℕ)
      → o ∷ os ≡ results terms m (take (suc f) (d ∷ ds))
      → next_of rows stage (told_by (outcome_over m d)) ≡ following stage
      → next_of rows stage (told_by o) ≡ following stage
  leads stage m d ds o os f r w = ap (λ (x : Outcome). next_of rows stage (told_by x)) (outcome-first m d ds f r) ∙ w

  next-stage : (stage : Stage) (j : ℕ) → Send stage ≡ stage_at (suc j) → following stage ≡ stage_at (suc (suc j))
  next-stage stage zero e = ap (λ (n : Next). following (stage_of n)) e
  next-stage stage (suc zero) e = ap (λ (n : Next). following (stage_of n)) e
  next-stage stage (suc (suc zero)) e = ap (λ (n : Next). following (stage_of n)) e
  next-stage stage (suc (suc (suc j))) e = absurd (omega (arith, ap place e))

  -- an attempt that has come to stage j, behind the clearing
  goes_on : (ds : List (List ℕ)) (os : List Outcome) (j f : ℕ) (m : List ℕ) (next : Next) → next ≡ stage_at (suc j)
      → Attempts start rows next os ds → Inside start rows m → Stands start rows next m
      → os ≡ results terms m (take f ds) → came_to rows next (told_bys os) ≡ stage_at (suc j + length os)
  goes_on ds [] j f m next e a l h r = e ∙ ap stage_at (sym (add-zero (suc j)))
  goes_on [] (o ∷ os) j f m next e a l h r = absurd (none_more m f r)
  goes_on (d ∷ ds) (o ∷ os) j zero m next e a l h r = absurd (omega (arith, ap length r))
  goes_on (d ∷ ds) (o ∷ os) j (suc f) m (Send stage) e a l h r =
      let n : suc (suc j) + length os ≡ suc j + suc (length os) = omega arith in
      goes_on ds os (suc j) f (carry m d) (next_of rows stage (told_by o))
      (leads stage m d ds o os f r (well-next start rows z stage m d a.0 l h) ∙ next-stage stage j e) a.1
      (inside-next start rows z t m d l) (stands-next start rows z t m d l stage (told_by o) a.0 h) (ap tail r)
      ∙ ap stage_at n
  goes_on (d ∷ ds) (o ∷ os) j (suc f) m Done e a l h r = absurd a
  goes_on (d ∷ ds) (o ∷ os) j (suc f) m (Ended n) e a l h r = absurd a

  -- and the clearing itself
  pub from-clear : (ds : List (List ℕ)) (os : List Outcome) (f : ℕ) (m : List ℕ)
      → Attempts start rows (Send Clear) os ds
      → Inside start rows m → os ≡ results terms m (take f ds)
      → came_to rows (Send Clear) (told_bys os) ≡ stage_at (length os)
  from-clear ds [] f m a l r = refl
  from-clear [] (o ∷ os) f m a l r = absurd (none_more m f r)
  from-clear (d ∷ ds) (o ∷ os) zero m a l r = absurd (omega (arith, ap length r))
  from-clear (d ∷ ds) (o ∷ os) (suc f) m a l r =
      let n : 1 + length os ≡ suc (length os) = omega arith in
      goes_on ds os 0 f (carry m d) (next_of rows Clear (told_by o))
      (leads Clear m d ds o os f r (well-clear start rows z m d a.0 l)) a.1 (inside-next start rows z t m d l)
      (cleared-stands start rows z t m d l (told_by o) a.0) (ap tail r)
      ∙ ap stage_at n

  -- a message that changes nothing, alone
  alone : (m d : List ℕ) → carry m d ≡ m → (k : ℕ) → made terms m (take k (d ∷ [])) ≡ m
  alone m d c zero = refl
  alone m d c (suc k) = ap (made terms (carry m d)) (take-nil {A = List ℕ} k) ∙ c

  -- without room its clearing fails, and nothing follows
  pub too_short : (ds : List (List ℕ)) (os : List Outcome) (k f : ℕ) (m : List ℕ)
      → Attempts start rows (Send Clear) os ds → os ≡ results terms m (take f ds) → length m < start / 4 + 193
      → (came_to rows (Send Clear) (told_bys os) ≡ fails_at (length os)) × (made terms m (take k ds) ≡ m)
  too_short [] [] k f m a r l = (refl, ap (made terms m) (take-nil {A = List ℕ} k))
  too_short [] (o ∷ os) k f m a r l = absurd (none_more m f r)
  too_short (d ∷ []) [] k f m a r l = (refl, alone m d (clear-failed m d z a l).1 k)
  too_short (d ∷ x ∷ ds) [] k f m a r l = absurd a
  too_short (d ∷ ds) (o ∷ os) k zero m a r l = absurd (omega (arith, ap length r))
  too_short (d ∷ ds) (o ∷ os) k (suc f) m a r l =
      let c = clear-failed m d z a.0 l in
      let e : next_of rows Clear (told_by o) ≡ Ended 25 =
      not-clear rows (told_by o)
      (subst (λ (x : Outcome). Well (told_by x) 0 → ⊥) (sym (outcome-first m d ds f r)) c.0) in (
        ap (λ (x : Next). came_to rows x (told_bys os)) e ∙ ended-stays rows 25 os,
        last ds (subst (λ (x : Next). Attempts start rows x os ds) e a.1) c.1,
      )
    where
      last : (ds : List (List ℕ)) → Attempts start rows (Ended 25) os ds → carry m d ≡ m
          → made terms m (take k (d ∷ ds)) ≡ m
      last [] b c = alone m d c k
      last (x ∷ ds) b c = absurd b
