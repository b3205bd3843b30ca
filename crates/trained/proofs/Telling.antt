-- What the outcome of a message tells, command by command. Assumes nothing.
use Prim.Native.Nat.{ℕ, ◌+◌, ◌/◌, ◌%◌, ◌<◌}
use mathlib.Core.Path.{◌≡◌, refl, sym, ap, ◌∙◌}
use mathlib.Core.Bool.{Bool, true, false, cond, false≢true}
use mathlib.Core.List.{List, [], ◌∷◌}
use native.Mathlib.Omega.{arith}
use lib.ListN.{length}
use Rattle.header.specs.declared.Kind.{Kind}
use Rattle.header.specs.declared.Kind.TheVariants.{Write}
use Rattle.header.specs.Header.{kind_of}
use Rattle.message.specs.Request.{Command}
use Rattle.message.specs.Walk.{request_of}
use Rattle.answer.specs.Answer.{Answered}
use Rattle.memory.specs.Moves.{fails, moves_of, after_moves, memory_after}
use Rattle.memory.proofs.Laws.Moving.{within}
use Rattle.carrying.specs.Answers.{failed, done, answers}
use Rattle.carrying.proofs.Laws.Promises.{answers-more, answer-to}
use Rattle.exchange.specs.Outcomes.{Outcome, result_of, results_in, outcome_over}
use Rattle.exchange.proofs.Codec.{outcome-by, results-none, results-more}
use Rattle.layout.specs.declared.Stage.{Stage}
use Rattle.layout.specs.declared.Stage.TheVariants.{Clear}
use Rattle.layout.specs.Layout.{mark_write, kind_at, commands_at}
use Rattle.layout.proofs.Laws.Layout.{mark-write-is}
use Rattle.table.specs.Attempt.{is_ok}
use Rattle.table.specs.Promises.{Well}
use Rattle.trained.specs.Attempts.{told_by, Asks}
use Rattle.trained.proofs.Writing.{asks-kind, asks-commands, carry-is, stopped}
use Rattle.trained.proofs.Stages.{Inside}

-- the outcome of commands, carried out one after another over this memory
abbrev pub outcome_from : Kind → List ℕ → List Command → Outcome
outcome_from kind m cs = results_in kind (answers kind 0 m cs)

pub outcome-asked : (m d : List ℕ)
    → outcome_over m d ≡ outcome_from (kind_of (request_of d).byte0) m (request_of d).commands
outcome-asked m d = outcome-by m d ∙ ap (results_in (kind_of (request_of d).byte0)) (answer-to (request_of d) 0 m)

-- of a message of a stage
pub outcome-is : {start : ℕ} {rows : List ℕ} {stage : Stage} {d : List ℕ} (a : Asks start rows stage d) (m : List ℕ)
    → outcome_over m d ≡ outcome_from (kind_at stage) m (commands_at stage start rows)
outcome-is {start} {rows} {stage} {d} a m =
    outcome-asked m d ∙ ap (λ (k : Kind). outcome_from k m (request_of d).commands) (asks-kind a)
    ∙ ap (outcome_from (kind_at stage) m) (asks-commands a)

module _ (kind : Kind) (m : List ℕ) (c : Command) (cs : List Command) where
  abbrev behind : List Answered
  behind = answers kind 0 (after_moves m (moves_of kind c)) cs

  either : {b : Bool} → fails kind (length m) c ≡ b
      → outcome_from kind m (c ∷ cs)
      ≡ result_of kind (cond b failed (done kind 0 m c)) ∷ results_in kind (cond b [] behind)
  either {b} e =
      ap (results_in kind) (answers-more kind 0 m c cs)
      ∙ ap (λ (x : Bool). results_in kind (cond x failed (done kind 0 m c) ∷ cond x [] behind)) e
      ∙ results-more kind (cond b failed (done kind 0 m c)) (cond b [] behind)

  -- a command that fails, and one that does not, with those behind it
  pub first-fails : fails kind (length m) c ≡ true → outcome_from kind m (c ∷ cs) ≡ result_of kind failed ∷ []
  first-fails e = either e ∙ ap (λ (l : Outcome). result_of kind failed ∷ l) (results-none kind)

  pub first_done : fails kind (length m) c ≡ false
      → outcome_from kind m (c ∷ cs)
      ≡ result_of kind (done kind 0 m c) ∷ outcome_from kind (after_moves m (moves_of kind c)) cs
  first_done e = either e

-- A clearing is OK where memory has room for the table, and only there.
module _ {start : ℕ} {rows : List ℕ} (m d : List ℕ) (z : start % 4 ≡ 0) (a : Asks start rows Clear d) where
  not-well : fails Write (length m) (mark_write start 0) ≡ true → Well (told_by (outcome_over m d)) 0 → ⊥
  not-well e w =
      let x = outcome-is a m ∙ first-fails Write m (mark_write start 0) [] e in
      false≢true (ap (λ (o : Outcome). is_ok ((told_by o).ending 0)) (sym x) ∙ ap is_ok w)

  has_room : fails Write (length m) (mark_write start 0) ≡ false → Inside start rows m
  has_room e =
      let i = within (length m) (start + 768) 1 (ap (fails Write (length m)) (sym (mark-write-is start 0)) ∙ e) in
      omega (arith, i, z)

  pub well-inside : Well (told_by (outcome_over m d)) 0 → Inside start rows m
  well-inside w = go (fails Write (length m) (mark_write start 0)) refl
    where
      go : (b : Bool) → fails Write (length m) (mark_write start 0) ≡ b → Inside start rows m
      go true e = absurd (not-well e w)
      go false e = has_room e

  -- else it changes nothing
  pub clear-failed : length m < start / 4 + 193
      → (Well (told_by (outcome_over m d)) 0 → ⊥) × (memory_after (request_of d) m ≡ m)
  clear-failed l = go (fails Write (length m) (mark_write start 0)) refl
    where
      go : (b : Bool) → fails Write (length m) (mark_write start 0) ≡ b
          → (Well (told_by (outcome_over m d)) 0 → ⊥) × (memory_after (request_of d) m ≡ m)
      go true e = (not-well e, carry-is a m ∙ stopped Write m (length m) (mark_write start 0) [] e)
      go false e = absurd (omega (arith, l, has_room e))
