-- How many commands an outcome has. Assumes nothing.
use Prim.Native.Nat.{ℕ, suc, ◌<◌}
use mathlib.Core.Path.{◌≡◌, refl, sym, ap, ◌∙◌}
use mathlib.Core.Bool.{Bool, true, false, cond, false≢true}
use mathlib.Core.List.{List, [], ◌∷◌, ◌++◌}
use native.Mathlib.Omega.{arith}
use lib.ListN.{length}
use Rattle.header.specs.declared.Kind.{Kind}
use Rattle.header.specs.Header.{kind_of}
use Rattle.message.specs.Request.{Command, Fits, none}
use Rattle.message.specs.Walk.{request_of}
use Rattle.answer.specs.Answer.{Answered}
use Rattle.memory.specs.Moves.{fails, moves_of, after_moves}
use Rattle.memory.specs.Promises.{carried}
use Rattle.memory.proofs.Laws.Moving.{length-after}
use Rattle.memory.proofs.Laws.Promises.{carried-more}
use Rattle.carrying.specs.Answers.{answers, answer_to}
use Rattle.carrying.proofs.Laws.Promises.{answers-none, answers-more, answer-to}
use Rattle.exchange.specs.Outcomes.{told, results_in, outcome_over}
use Rattle.exchange.specs.Promise.{UpToError, ToldCounts}
use Rattle.exchange.proofs.Each.{each_long}

-- as many results as answers
results-long : (kind : Kind) (items : List Answered) → length (results_in kind items) ≡ length items
unfolding results_in
results-long kind [] = refl
results-long kind (a ∷ more) = ap suc (results-long kind more)

pub told-counts : ToldCounts
unfolding told
told-counts message answer = each_long _ _

module _ (kind : Kind) (mark : ℕ) where
  -- memory behind a command that does not fail
  abbrev later : List ℕ → Command → List ℕ
  later m b = after_moves m (moves_of kind b)

  -- a command is carried out where all of them are
  first_done : (size : ℕ) (b : Command) (cs : List Command) → carried kind size (b ∷ cs) ≡ b ∷ cs → (fails kind size b ≡ false) × (carried kind size cs ≡ cs)
  first_done size b cs e = go (fails kind size b) refl (sym (carried-more kind size b cs) ∙ e)
    where
      go : (t : Bool) → fails kind size b ≡ t → cond t [] (b ∷ carried kind size cs) ≡ b ∷ cs → (fails kind size b ≡ false) × (carried kind size cs ≡ cs)
      go true z q = let n : ◌≡◌ {A = ℕ} 0 1 = cc in absurd (omega arith)
      go false z q = (z, cc)

  -- every command is answered where none fails
  all-answered : (cs : List Command) (m : List ℕ) → carried kind (length m) cs ≡ cs → length (answers kind mark m cs) ≡ length cs
  all-answered [] m e = rw (answers-none kind mark m)
  all-answered (b ∷ cs) m e =
      let p = first_done (length m) b cs e in
      let r = all-answered cs (later m b) (rw (length-after m (moves_of kind b)) p.1) in
      rw (answers-more kind mark m b cs, p.0) (ap suc r)

  -- and up to the first that fails
  error-answered : (c : Command) (behind before : List Command) (m : List ℕ) → carried kind (length m) before ≡ before → fails kind (length m) c ≡ true
      → length (answers kind mark m (before ++ (c ∷ behind))) ≡ suc (length before)
  error-answered c behind [] m e f = rw (answers-more kind mark m c behind, f)
  error-answered c behind (b ∷ before) m e f =
      let p = first_done (length m) b before e in
      let n = length-after m (moves_of kind b) in
      let r = error-answered c behind before (later m b) (rw n p.1) (rw n f) in
      rw (answers-more kind mark m b (before ++ (c ∷ behind)), p.0) (ap suc r)

  some-answered : (cs : List Command) (m : List ℕ) → none cs ≡ false → 0 < length (answers kind mark m cs)
  some-answered [] m e = absurd (false≢true (sym e))
  some-answered (c ∷ cs) m e = rw (answers-more kind mark m c cs) (omega arith)

-- so the outcome of carrying out a message that fits
pub up-to-error : (memory message : List ℕ) → Fits (request_of message) → UpToError memory message (length (outcome_over memory message))
unfolding outcome_over
up-to-error memory message f =
    let r = request_of message in
    let kind = kind_of r.byte0 in
    let long : length (results_in kind (answer_to r 0 memory)) ≡ length (answers kind 0 memory r.commands) =
    results-long kind _ ∙ ap length (answer-to r 0 memory) in
    record {
      all = λ e. long ∙ all-answered kind 0 r.commands memory e;
      error = λ before c behind e ok bad. long ∙ ap (λ (l : List Command). length (answers kind 0 memory l)) e ∙ error-answered kind 0 c behind before memory ok bad;
      some = rw long (some-answered kind 0 r.commands memory f.asked.some);
    }
