-- What the proofs of the table's calls by numbers share, over plain values. Assumes nothing.
use Prim.Native.Nat.{ℕ, ◌≤◌}
use mathlib.Core.Path.{◌≡◌, refl, sym, ap, ◌∙◌}
use mathlib.Core.List.{List}
use borrow.Author.Tests.{eq-eqb, ne_eqb}
use lib.ListN.{length}
use Rattle.std.proofs.Common.{Ok, Err}
use Rattle.header.specs.declared.refusal.Refusal.{Refusal}
use Rattle.header.specs.Limits.{limit_bytes}
use Rattle.header.specs.Refusal.{refusal}
use Rattle.header.proofs.Laws.Refusal.{ok_of, err_of, number_is}
use Rattle.initiator.proofs.Laws.Places.{ok-next}
use Rattle.initiator.proofs.Laws.Promises.{accepted-plain}
use Rattle.layout.proofs.Laws.Writing.{written-fits}
use Rattle.table.specs.declared.attempt.Attempt.{Attempt}
use Rattle.table.specs.declared.attempt.Offered.{Offered}
use Rattle.table.specs.Calls.{Made, offered_of, made_of, made_to, Taken, answered_of, taken_of}
use Rattle.table.proofs.Laws.Calls.{fine, made-refusal, made-fine, taken-refusal}
use Rattle.loader.specs.declared.training.TableAttempt.{TableAttempt}
use Rattle.loader.specs.Training.{attempt_of, numbers_of, made_by, table_made_of, taken_by, table_taken_of}

-- a refused call, and one that is not
pub made-not : (made : Made) (a : TableAttempt) → (made.refusal ≡ 0 → ⊥)
    → made_by made a ≡ record { refusal = made.refusal; length = 0; attempt = a }
made-not made a n = rw (ne_eqb made.refusal 0 n)

pub made_so : (made : Made) (a : TableAttempt) → made.refusal ≡ 0
    → made_by made a ≡ record { refusal = made.refusal; length = made.length; attempt = numbers_of made.attempt }
made_so made a e = rw (eq-eqb made.refusal 0 e)

pub taken_not : (taken : Taken) (a : TableAttempt) → (taken.refusal.number ≡ 0 → ⊥)
    → taken_by taken a ≡ record { refusal = taken.refusal; attempt = a }
taken_not taken a n = rw (ne_eqb taken.refusal.number 0 n)

pub taken-so : (taken : Taken) (a : TableAttempt) → taken.refusal.number ≡ 0
    → taken_by taken a ≡ record { refusal = taken.refusal; attempt = numbers_of taken.attempt }
taken-so taken a e = rw (eq-eqb taken.refusal.number 0 e)

-- `charkhavo_table_message`: b is the attempt that the numbers say
module _ (a : TableAttempt) {b : Attempt} (e : b ≡ attempt_of a) (start room : ℕ) (rows out : List ℕ) where
  abbrev made : Made
  made = made_of (attempt_of a) start room rows out

  pub message-left : {out' : List ℕ} → out' ≡ made_to b start room rows out
      → out' ≡ made_to (attempt_of a) start room rows out
  message-left o = o ∙ ap (λ (x : Attempt). made_to x start room rows out) e

  pub message-refused : {r : Refusal} → Err r ≡ offered_of (made_of b start room rows out)
      → record { refusal = r.number; length = 0; attempt = a } ≡ table_made_of a start room rows out
  unfolding table_made_of
  message-refused h =
      let k = err_of (refusal made.refusal) (record { length = made.length; attempt = made.attempt }) (rw e at h) in
      rw (k.0, made-not made a k.1) refl

  module _ {offered : Offered} (h : Ok offered ≡ offered_of (made_of b start room rows out)) where
    well : (made.refusal ≡ 0) × (offered ≡ record { length = made.length; attempt = made.attempt })
    well = ok_of (refusal made.refusal) (record { length = made.length; attempt = made.attempt }) (rw e at h)

    pub message-accepted : (numbers : TableAttempt) → numbers ≡ numbers_of offered.attempt
        → record { refusal = 0; length = offered.length; attempt = numbers } ≡ table_made_of a start room rows out
    unfolding table_made_of
    message-accepted numbers k = rw (k, well.1, made_so made a well.0, well.0) refl

    -- its length is a number of 32 bits: it is within the limit
    pub short : offered.length ≤ limit_bytes
    short =
        let c : Attempt = attempt_of a in
        let none = sym (made-refusal c start room rows out) ∙ well.0 in
        let f = fine c start room (length out) none in
        rw (well.1, made-fine c start room rows out f.stage f.next none)
        (written-fits f.stage c.sender.next start rows (ok-next c.sender f.ok))

-- `charkhavo_table_take`
module _ (a : TableAttempt) {b : Attempt} (e : b ≡ attempt_of a) (message answer rows : List ℕ) where
  abbrev taken : Taken
  taken = taken_of (attempt_of a) message answer rows

  pub answer-refused : {r : Refusal} → Err r ≡ answered_of (taken_of b message answer rows)
      → record { refusal = r; attempt = a } ≡ table_taken_of a message answer rows
  unfolding table_taken_of
  answer-refused h =
      let k = err_of taken.refusal taken.attempt (rw e at h) in
      rw (k.0, taken_not taken a k.1) refl

  pub answer-accepted : {then : Attempt} → Ok then ≡ answered_of (taken_of b message answer rows)
      → (numbers : TableAttempt) → numbers ≡ numbers_of then
      → record { refusal = refusal 0; attempt = numbers } ≡ table_taken_of a message answer rows
  unfolding table_taken_of
  answer-accepted h numbers k =
      let w = ok_of taken.refusal taken.attempt (rw e at h) in
      let z = sym (number_is (taken-refusal (attempt_of a) message answer rows)) ∙ w.0 in
      let plain = taken-refusal (attempt_of a) message answer rows ∙ accepted-plain a.sender message answer z in
      rw (k, w.1, taken-so taken a w.0, plain) refl
