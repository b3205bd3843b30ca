-- What holds of memory at each stage of an attempt, whatever its outcomes: `first_part`, `done_on`. Assumes nothing.
use Prim.Native.Nat.{ℕ, zero, suc, ◌+◌, ◌/◌, ◌%◌, ◌≤◌}
use mathlib.Core.Path.{◌≡◌, refl, sym, ap, subst, ◌∙◌}
use mathlib.Core.Logic.{◌⊎◌, inl, inr}
use mathlib.Core.List.{List, [], ◌∷◌}
use native.Mathlib.Omega.{arith}
use lib.ListN.{length, take}
use lib.Seq.{take-nil}
use Rattle.word.specs.Words.{Words}
use Rattle.message.specs.Walk.{request_of}
use Rattle.memory.specs.Moves.{memory_after}
use Rattle.memory.proofs.Laws.Promises.{same_length}
use Rattle.once.specs.Promise.{made}
use Rattle.exchange.specs.Outcomes.{Outcome}
use Rattle.exchange.specs.Terms.{terms}
use Rattle.layout.specs.declared.Stage.{Stage}
use Rattle.layout.specs.declared.Stage.TheVariants.{Clear, Rows, Back, Mark}
use Rattle.layout.specs.Layout.{table_of, complete}
use Rattle.table.specs.declared.attempt.Next.{Next}
use Rattle.table.specs.declared.attempt.Next.TheVariants.{Send, Done, Ended}
use Rattle.table.specs.Attempt.{Told, next_of}
use Rattle.table.specs.Promises.{came_to, Well, AsSent, EveryRow, FirstNot}
use Rattle.table.proofs.Laws.Came.{well-or, after-clear, not-clear, rows-or, after-rows, not-rows}
use Rattle.table.proofs.Laws.Came.{back-or, after-back, not_back, after-mark, not-mark}
use Rattle.trained.specs.Loading.{mark_in, rows_in}
use Rattle.trained.specs.Attempts.{told_by, told_bys, Asks, Attempts}
use Rattle.trained.proofs.Writing.{cleared, marked, rowed, backed, mark_set, rows-set, mark-put, rows-put}

-- which of the three
abbrev pub place : Next → ℕ
place (Send stage) = 0
place Done = 1
place (Ended n) = 2

-- what follows a stage where all is well
abbrev pub following : Stage → Next
following Clear = Send Rows
following Rows = Send Back
following Back = Send Mark
following Mark = Done

-- a stage goes on, or ends
pub next-or : (P : Next → Type 0) (rows : List ℕ) (stage : Stage) (told : Told) → P (following stage)
    → ((k : ℕ) → P (Ended k)) → P (next_of rows stage told)
next-or P rows Clear told h e = go (well-or told 0)
  where
    go : Well told 0 ⊎ (Well told 0 → ⊥) → P (next_of rows Clear told)
    go (inl w) = subst P (sym (after-clear rows told w)) h
    go (inr w) = subst P (sym (not-clear rows told w)) (e 25)
next-or P rows Rows told h e = go (rows-or rows told)
  where
    go : EveryRow (Well told) ⊎ ((number : ℕ) × FirstNot (Well told) number) → P (next_of rows Rows told)
    go (inl w) = subst P (sym (after-rows rows told w)) h
    go (inr f) = subst P (sym (not-rows rows told f.0 f.1)) (e f.0)
next-or P rows Back told h e = go (back-or rows told)
  where
    go : EveryRow (AsSent rows told) ⊎ ((number : ℕ) × FirstNot (AsSent rows told) number) → P (next_of rows Back told)
    go (inl w) = subst P (sym (after-back rows told w)) h
    go (inr f) = subst P (sym (not_back rows told f.0 f.1)) (e f.0)
next-or P rows Mark told h e = go (well-or told 0)
  where
    go : Well told 0 ⊎ (Well told 0 → ⊥) → P (next_of rows Mark told)
    go (inl w) = subst P (sym (after-mark rows told w)) h
    go (inr w) = subst P (sym (not-mark rows told w)) (e 25)

-- an attempt that is done or has ended stays so
pub done-stays : (rows : List ℕ) (os : List Outcome) → came_to rows Done (told_bys os) ≡ Done
done-stays rows [] = refl
done-stays rows (o ∷ os) = done-stays rows os

pub ended-stays : (rows : List ℕ) (n : ℕ) (os : List Outcome) → came_to rows (Ended n) (told_bys os) ≡ Ended n
ended-stays rows n [] = refl
ended-stays rows n (o ∷ os) = ended-stays rows n os

abbrev pub carry : List ℕ → List ℕ → List ℕ
carry m d = memory_after (request_of d) m

pub length-made : (m : List ℕ) (ds : List (List ℕ)) → length (made terms m ds) ≡ length m
length-made m [] = refl
length-made m (d ∷ ds) = length-made (carry m d) ds ∙ same_length (request_of d) m

module _ (start : ℕ) (rows : List ℕ) where
  -- memory has room for the table
  abbrev pub Inside : List ℕ → Type 0
  Inside m = start / 4 + 193 ≤ length m

  -- where the mark is 24, the rows are these
  abbrev pub Fine : List ℕ → Type 0
  Fine m = mark_in start m ≡ complete → rows_in start m ≡ table_of rows

  -- what stands in memory where this comes next
  abbrev pub Stands : Next → List ℕ → Type 0
  Stands (Send Clear) m = Fine m
  Stands (Send Rows) m = mark_in start m ≡ 0
  Stands (Send Back) m = (mark_in start m ≡ 0) × (rows_in start m ≡ table_of rows)
  Stands (Send Mark) m = (mark_in start m ≡ 0) × (rows_in start m ≡ table_of rows)
  Stands Done m = (mark_in start m ≡ complete) × (rows_in start m ≡ table_of rows)
  Stands (Ended n) m = Fine m

module _ (start : ℕ) (rows : List ℕ) (z : start % 4 ≡ 0) (t : Words rows) where
  zero-fine : (m : List ℕ) → mark_in start m ≡ 0 → Fine start rows m
  zero-fine m h e = absurd (omega (arith, h, e))

  stands-fine : (next : Next) (m : List ℕ) → Stands start rows next m → Fine start rows m
  stands-fine (Send Clear) m h = h
  stands-fine (Send Rows) m h = zero-fine m h
  stands-fine (Send Back) m h = zero-fine m h.0
  stands-fine (Send Mark) m h = zero-fine m h.0
  stands-fine Done m h = λ e. h.1
  stands-fine (Ended n) m h = h

  pub inside-next : (m d : List ℕ) → Inside start rows m → Inside start rows (carry m d)
  inside-next m d l = omega (arith, l, same_length (request_of d) m)

  -- what a message of each stage leaves
  module _ (m d : List ℕ) (l : Inside start rows m) where
    pub clear-mark : Asks start rows Clear d → mark_in start (carry m d) ≡ 0
    clear-mark a = ap (mark_in start) (cleared z t m l a) ∙ mark_set start m 0 l

    pub rows-mark : Asks start rows Rows d → mark_in start (carry m d) ≡ mark_in start m
    rows-mark a = ap (mark_in start) (rowed z t m l a) ∙ mark-put start m rows l

    pub back-mark : Asks start rows Back d → mark_in start (carry m d) ≡ mark_in start m
    back-mark a = ap (mark_in start) (backed m a)

    pub cleared-stands : (told : Told) → Asks start rows Clear d
        → Stands start rows (next_of rows Clear told) (carry m d)
    cleared-stands told a =
        next-or (λ (n : Next). Stands start rows n (carry m d)) rows Clear told (clear-mark a)
        (λ k. zero-fine (carry m d) (clear-mark a))

    pub stands-next : (stage : Stage) (told : Told) → Asks start rows stage d → Stands start rows (Send stage) m
        → Stands start rows (next_of rows stage told) (carry m d)
    stands-next Clear told a h = cleared-stands told a
    stands-next Rows told a h =
        let e = rows-mark a ∙ h in
        next-or (λ (n : Next). Stands start rows n (carry m d)) rows Rows told
        (e, ap (rows_in start) (rowed z t m l a) ∙ rows-put start m rows l) (λ k. zero-fine (carry m d) e)
    stands-next Back told a h =
        let e = back-mark a ∙ h.0 in
        next-or (λ (n : Next). Stands start rows n (carry m d)) rows Back told
        (e, ap (rows_in start) (backed m a) ∙ h.1) (λ k. zero-fine (carry m d) e)
    stands-next Mark told a h =
        let e : mark_in start (carry m d) ≡ complete =
        ap (mark_in start) (marked z t m l a) ∙ mark_set start m complete l in
        let r : rows_in start (carry m d) ≡ table_of rows =
        ap (rows_in start) (marked z t m l a) ∙ rows-set start m complete ∙ h.1 in
        next-or (λ (n : Next). Stands start rows n (carry m d)) rows Mark told (e, r) (λ k e. r)

  -- any first part of it
  attempt-on : (next : Next) (os : List Outcome) (ds : List (List ℕ)) (k : ℕ) (m : List ℕ)
      → Attempts start rows next os ds → Inside start rows m → Stands start rows next m
      → Fine start rows (made terms m (take k ds))
  attempt-on next os [] k m a l h = rw (take-nil {A = List ℕ} k) (stands-fine next m h)
  attempt-on (Send stage) (o ∷ os) (d ∷ ds) zero m a l h = stands-fine (Send stage) m h
  attempt-on (Send stage) (o ∷ os) (d ∷ ds) (suc k) m a l h =
      attempt-on (next_of rows stage (told_by o)) os ds k (carry m d) a.1 (inside-next m d l)
      (stands-next m d l stage (told_by o) a.0 h)
  attempt-on (Send stage) [] (d ∷ []) zero m a l h = stands-fine (Send stage) m h
  attempt-on (Send stage) [] (d ∷ []) (suc k) m a l h =
      rw (take-nil {A = List ℕ} k)
      (stands-fine (next_of rows stage (told_by [])) (carry m d) (stands-next m d l stage (told_by []) a h))
  attempt-on (Send stage) [] (d ∷ e ∷ ds) k m a l h = absurd a
  attempt-on Done os (d ∷ ds) k m a l h = absurd a
  attempt-on (Ended n) os (d ∷ ds) k m a l h = absurd a

  -- and of one that has cleared the mark
  pub first_part : (os : List Outcome) (d : List ℕ) (ds : List (List ℕ)) (k : ℕ) (m : List ℕ)
      → Attempts start rows (Send Clear) os (d ∷ ds) → Inside start rows m
      → Fine start rows (made terms (carry m d) (take k ds))
  first_part (o ∷ os) d ds k m a l =
      attempt-on (next_of rows Clear (told_by o)) os ds k (carry m d) a.1 (inside-next m d l)
      (cleared-stands m d l (told_by o) a.0)
  first_part [] d [] k m a l =
      rw (take-nil {A = List ℕ} k)
      (stands-fine (next_of rows Clear (told_by [])) (carry m d) (cleared-stands m d l (told_by []) a))
  first_part [] d (e ∷ ds) k m a l = absurd a

  -- an attempt that is done
  ended-not : (n : ℕ) → Ended n ≡ Done → ⊥
  ended-not n e = absurd (omega (arith, ap place e))

  send-not : (stage : Stage) → Send stage ≡ Done → ⊥
  send-not stage e = absurd (omega (arith, ap place e))

  pub done_on : (ds : List (List ℕ)) (next : Next) (os : List Outcome) (k : ℕ) (m : List ℕ)
      → Attempts start rows next os ds → Inside start rows m → Stands start rows next m
      → length os ≤ k → length os ≤ length ds → came_to rows next (told_bys os) ≡ Done
      → Stands start rows Done (made terms m (take k ds))
  done_on [] Done os k m a l h p q e = rw (take-nil {A = List ℕ} k) h
  done_on [] (Ended n) os k m a l h p q e = absurd (ended-not n (sym (ended-stays rows n os) ∙ e))
  done_on [] (Send stage) [] k m a l h p q e = absurd (send-not stage e)
  done_on [] (Send stage) (o ∷ os) k m a l h p q e = absurd (omega arith)
  done_on (d ∷ ds) Done os k m a l h p q e = absurd a
  done_on (d ∷ ds) (Ended n) os k m a l h p q e = absurd a
  done_on (d ∷ ds) (Send stage) [] k m a l h p q e = absurd (send-not stage e)
  done_on (d ∷ ds) (Send stage) (o ∷ os) zero m a l h p q e = absurd (omega arith)
  done_on (d ∷ ds) (Send stage) (o ∷ os) (suc k) m a l h p q e =
      done_on ds (next_of rows stage (told_by o)) os k (carry m d) a.1 (inside-next m d l)
      (stands-next m d l stage (told_by o) a.0 h) (omega arith) (omega arith) e
