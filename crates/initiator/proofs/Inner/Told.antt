-- What an answer tells, check by check. The proofs of `told` and `told_by` cite these. Assumes nothing.
use Prim.Native.Nat.{ℕ}
use Rattle.std.specs.Prelude.{Ok, Err, Result, Some, None}
use Rattle.std.specs.Result.{result_ok}
use lib.ListN.{get_or}
use mathlib.Core.Path.{◌≡◌}
use mathlib.Core.List.{List}
use Rattle.word.specs.Words.{words_of, Bytes}
use Rattle.header.specs.declared.refusal.Refusal.{Refusal}
use Rattle.header.specs.Header.{kind_of}
use Rattle.message.specs.Request.{Request, Refused, Means, given}
use Rattle.message.specs.Walk.{read}
use Rattle.message.proofs.Laws.Going.{read_first}
use Rattle.answer.specs.Answer.{head_fault}
use Rattle.answer.proofs.Laws.Looking.{judge-passed, judge-refused}
use Rattle.initiator.specs.declared.outcome.Outcome.{Outcome}
use Rattle.initiator.specs.Asking.{plainly}
use Rattle.initiator.specs.Outcome.{judged_in, judged_by, ending_in, told_of, outcome_of}
use Rattle.initiator.specs.Telling.{Ready, answers_to}
use Rattle.initiator.proofs.Laws.Asked.{Given, given-ok, given-err, plainly-reads}

-- an accepted request, ready for its answer
pub ready : (request : List ℕ) (q : Request) {byte0 : ℕ} → Bytes request → read request ≡ Means q → byte0 ≡ q.byte0 → Ready request byte0
ready request q b e f = record { bytes = b; meaning = q; is = e; first = f }

module _ (request answer : List ℕ) (k : ℕ) where
  -- what was told
  pub told-means : {t : Outcome} → outcome_of request answer k ≡ Ok t → Given (told_of (kind_of (get_or request 0 0)) k) (judged_by (read request) answer) t
  unfolding outcome_of
  told-means e = given-ok _ _ e

  pub told-silent : {r : Refusal} → outcome_of request answer k ≡ Err r → judged_by (read request) answer ≡ Refused r
  unfolding outcome_of
  told-silent e = given-err _ _ e

  pub ended-some : (r : Result Outcome Refusal) {t : Outcome} → outcome_of request answer k ≡ r → result_ok r ≡ Some t → t.ending ≡ ending_in k (judged_by (read request) answer)
  unfolding told_of
  ended-some (Ok o) {t} e s = let g = told-means e in let i : o ≡ t = cc in rw (← i, g.gives, g.is)
  ended-some (Err r) {t} e s = absurd cc

  pub ended-none : (r : Result Outcome Refusal) → outcome_of request answer k ≡ r → result_ok r ≡ None → None ≡ ending_in k (judged_by (read request) answer)
  ended-none (Ok o) e s = absurd cc
  ended-none (Err r) e s = rw (told-silent e)

  -- 31
  pub told-refused : (r : Refusal) → plainly (read request) ≡ Refused r → Err r ≡ outcome_of request answer k
  unfolding outcome_of judged_by
  told-refused r e = rw e

  -- past it, the answer decides
  pub told-asked : (q : Request) {byte0 : ℕ} → plainly (read request) ≡ Means q → byte0 ≡ q.byte0
      → given (told_of (kind_of byte0) k) (judged_in (read request) answer) ≡ outcome_of request answer k
  unfolding outcome_of judged_by
  told-asked q e f =
      let is = (plainly-reads (read request) q e).is in
      rw (e, is, (read_first request q is).1, f)

  module _ {byte0 : ℕ} (r : Ready request byte0) where
    -- 32, 33
    pub told-head : ((head_fault byte0 answer).number ≡ 0 → ⊥) → Err (head_fault byte0 answer) ≡ given (told_of (kind_of byte0) k) (judged_in (read request) answer)
    told-head n = rw (r.is, r.first) (told (rw r.first at n))
      where
        told : ((head_fault r.meaning.byte0 answer).number ≡ 0 → ⊥)
            → Err (head_fault r.meaning.byte0 answer) ≡ given (told_of (kind_of r.meaning.byte0) k) (judged_in (Means r.meaning) answer)
        told m = rw (judge-refused r.meaning answer m)

    -- then header by header
    pub told-through : (head_fault byte0 answer).number ≡ 0
        → given (told_of (kind_of byte0) k) (answers_to (read request) (words_of answer)) ≡ given (told_of (kind_of byte0) k) (judged_in (read request) answer)
    told-through n = rw (r.is, judge-passed r.meaning answer (rw r.first at n))
