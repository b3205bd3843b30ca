-- The training table by numbers: `numbers-tell`, `message-as-made`, `answer-as-taken`. Assumes nothing.
use mathlib.Core.Path.{◌≡◌, refl, sym, ap, subst, ◌∙◌}
use mathlib.Core.Bool.{Bool, true, false}
use borrow.Author.Tests.{eqb-true, eqb-false}
use lib.Dec.{eqb}
use Rattle.layout.specs.declared.Stage.TheVariants.{Clear, Rows, Back, Mark}
use Rattle.table.specs.declared.attempt.Next.{Next}
use Rattle.table.specs.declared.attempt.Next.TheVariants.{Send, Done, Ended}
use Rattle.table.specs.Calls.{Made}
use Rattle.table.specs.Calls.{Taken}
use Rattle.table.specs.Calls.{attempt_at, made_of, taken_of}
use Rattle.table.proofs.Laws.Calls.{made-refusal, made-refused}
use Rattle.table.proofs.Laws.Promises.{refused-stays}
use Rattle.loader.specs.declared.training.TableAttempt.{TableAttempt}
use Rattle.loader.specs.Training.{next_from, next_no, row_no, attempt_of, made_by, table_made_of, taken_by, table_taken_of}
use Rattle.loader.specs.Training.{NumbersTell, AsMade, MessageAsMade, AsTaken, AnswerAsTaken}
use Rattle.loader.proofs.ByNumbers.{made-not, made_so, taken_not, taken-so}

next-tells : (x : Next) → next_from (next_no x) (row_no x) ≡ x
unfolding next_from
next-tells (Send Clear) = refl
next-tells (Send Rows) = refl
next-tells (Send Back) = refl
next-tells (Send Mark) = refl
next-tells Done = refl
next-tells (Ended row) = refl

pub numbers-tell : NumbersTell
numbers-tell a = ap (attempt_at a.sender) (next-tells a.next)

-- the table's call, refused, leaves the attempt that the numbers say, and its length is 0
as-made : (a : TableAttempt) (made : Made)
    → ((made.refusal ≡ 0 → ⊥) → (made.length ≡ 0) × (made.attempt ≡ attempt_of a)) → AsMade a made (made_by made a)
as-made a made stays = go (eqb made.refusal 0) refl
  where
    go : (t : Bool) → eqb made.refusal 0 ≡ t → AsMade a made (made_by made a)
    go true q =
        let z = eqb-true made.refusal 0 q in
        subst (AsMade a made) (sym (made_so made a z))
        (record {
          refusal = refl;
          length = refl;
          attempt = numbers-tell made.attempt;
          stays = λ n. absurd (n z);
        })
    go false q =
        let n = eqb-false made.refusal 0 q in
        subst (AsMade a made) (sym (made-not made a n))
        (record {
          refusal = refl;
          length = sym (stays n).0;
          attempt = sym (stays n).1;
          stays = λ n'. refl;
        })

pub message-as-made : MessageAsMade
unfolding table_made_of
message-as-made a start room rows out =
    let b = attempt_of a in
    as-made a (made_of b start room rows out)
    (λ n. let r = made-refused b start room rows out (λ z. n (made-refusal b start room rows out ∙ z)) in
    (ap (λ (x : Made). x.length) r, ap (λ (x : Made). x.attempt) r))

pub answer-as-taken : AnswerAsTaken
unfolding table_taken_of
answer-as-taken a message answer rows =
    as-taken (taken_of (attempt_of a) message answer rows) (refused-stays (attempt_of a) message answer rows)
  where
    as-taken : (taken : Taken) → ((taken.refusal.number ≡ 0 → ⊥) → taken.attempt ≡ attempt_of a)
        → AsTaken a taken (taken_by taken a)
    as-taken taken stays = go (eqb taken.refusal.number 0) refl
      where
        go : (t : Bool) → eqb taken.refusal.number 0 ≡ t → AsTaken a taken (taken_by taken a)
        go true q =
            let z = eqb-true taken.refusal.number 0 q in
            subst (AsTaken a taken) (sym (taken-so taken a z))
            (record { refusal = refl; attempt = numbers-tell taken.attempt; stays = λ n. absurd (n z) })
        go false q =
            let n = eqb-false taken.refusal.number 0 q in
            subst (AsTaken a taken) (sym (taken_not taken a n))
            (record { refusal = refl; attempt = sym (stays n); stays = λ n'. refl })
