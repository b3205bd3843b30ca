-- The calls of an attempt, by their checks. Whoever stands above an attempt cites these. Assumes nothing.
use Prim.Native.Nat.{ℕ}
use mathlib.Core.Path.{◌≡◌, refl, sym, ap}
use mathlib.Core.Bool.{Bool, true, false, cond, false≢true}
use mathlib.Core.List.{List}
use native.Mathlib.Omega.{arith}
use borrow.Author.Tests.{eq-eqb, ne_eqb, eqb-true, eqb-false}
use lib.Dec.{eqb}
use lib.ListN.{length, take}
use Rattle.word.specs.Words.{put}
use Rattle.word.proofs.Runs.{put_front}
use Rattle.header.specs.Limits.{tag_count}
use Rattle.header.proofs.Laws.Refusal.{passed}
use Rattle.message.specs.Request.{written}
use Rattle.building.specs.Build.{long_ok}
use Rattle.initiator.specs.declared.sender.Sender.{Sender}
use Rattle.initiator.specs.Places.{sender_ok}
use Rattle.initiator.specs.Sender.{idle, take_of}
use Rattle.layout.specs.declared.Stage.{Stage}
use Rattle.layout.specs.declared.Stage.TheVariants.{Clear}
use Rattle.layout.specs.Layout.{set_up_ok, set_up_fault, request_at}
use Rattle.layout.proofs.Laws.Layout.{set-up-ok, set-up-fine}
use Rattle.table.specs.declared.attempt.Next.{Next}
use Rattle.table.specs.declared.attempt.Next.TheVariants.{Send, Done, Ended}
use Rattle.table.specs.declared.attempt.Attempt.{Attempt}
use Rattle.table.specs.Calls.{Made}
use Rattle.table.specs.Calls.{Taken}
use Rattle.table.specs.Attempt.{told_of, next_by}
use Rattle.table.specs.Calls.{attempt_at, beginning, sends, next_bytes, message_fault, refused_with, given_with}
use Rattle.table.specs.Calls.{made_of, made_to, not_taken, taken_of}

-- an attempt begins: none waits, or 37 stops it
module _ (s : Sender) where
  pub begins-idle : s.waiting ≡ 0 → beginning s ≡ attempt_at s (Send Clear)
  begins-idle e = rw (eq-eqb s.waiting 0 e)

  pub begins-stopped : (s.waiting ≡ 0 → ⊥) → beginning s ≡ attempt_at (idle tag_count) (Send Clear)
  begins-stopped h = rw (ne_eqb s.waiting 0 h)

-- what an attempt has whose message is not refused
pub record Fine (a : Attempt) (start room long : ℕ) : Type 0 where
  pub set-up : set_up_fault start room ≡ 0
  pub stage : Stage
  pub next : a.next ≡ Send stage
  pub ok : sender_ok a.sender ≡ true
  pub idle : a.sender.waiting ≡ 0
  pub long-is : long_ok long ≡ true

sent-by : (x : Next) → sends x ≡ true → (stage : Stage) × (x ≡ Send stage)
sent-by (Send stage) e = (stage, refl)
sent-by Done e = absurd (false≢true e)
sent-by (Ended n) e = absurd (false≢true e)

module _ (a : Attempt) (start room long : ℕ) where
  pub fine : message_fault a start room long ≡ 0 → Fine a start room long
  unfolding message_fault
  fine e =
      let p = passed (set_up_ok start room) 40 _ (omega arith) e in
      let q = passed (sender_ok a.sender) 37 _ (omega arith) p.1 in
      let w = passed (eqb a.sender.waiting 0) 36 _ (omega arith) q.1 in
      let n = passed (sends a.next) 30 _ (omega arith) w.1 in
      let s = sent-by a.next n.0 in
      record {
        set-up = set-up-fine start room p.0;
        stage = s.0;
        next = s.1;
        ok = q.0;
        idle = eqb-true a.sender.waiting 0 w.0;
        long-is = (passed (long_ok long) 21 0 (omega arith) n.1).0;
      }

  -- 37
  pub fault-sender : set_up_fault start room ≡ 0 → sender_ok a.sender ≡ false → message_fault a start room long ≡ 37
  unfolding message_fault
  fault-sender e k = rw (set-up-ok start room e, k)

  -- where none of the five is so, nothing is refused
  pub fault-none : (stage : Stage) → set_up_fault start room ≡ 0 → sender_ok a.sender ≡ true → a.sender.waiting ≡ 0
      → a.next ≡ Send stage → long_ok long ≡ true → message_fault a start room long ≡ 0
  unfolding message_fault
  fault-none stage e k w n l = rw (set-up-ok start room e, k, w, n, l)

-- what the call gives back
module _ (a : Attempt) (start room : ℕ) (rows out : List ℕ) where
  abbrev fault : ℕ
  fault = message_fault a start room (length out)

  pub made-refusal : (made_of a start room rows out).refusal ≡ message_fault a start room (length out)
  unfolding made_of
  made-refusal = go (eqb fault 0) refl
    where
      go : (t : Bool) → eqb fault 0 ≡ t
          → (cond {A = Made} t (given_with (next_bytes a.next a.sender.next start rows) a) (refused_with fault a)
          ).refusal
          ≡ fault
      go true e = sym (eqb-true fault 0 e)
      go false e = refl

  -- it makes nothing of what comes next
  pub made-next : (made_of a start room rows out).attempt.next ≡ a.next
  unfolding made_of
  made-next = go (eqb fault 0)
    where
      go : (t : Bool)
          → (cond {A = Made} t (given_with (next_bytes a.next a.sender.next start rows) a) (refused_with fault a)
          ).attempt.next
          ≡ a.next
      go true = refl
      go false = refl

  pub made-refused : (message_fault a start room (length out) ≡ 0 → ⊥)
      → made_of a start room rows out ≡ refused_with (message_fault a start room (length out)) a
  unfolding made_of
  made-refused h = rw (ne_eqb fault 0 h)

  pub made-to-refused : (message_fault a start room (length out) ≡ 0 → ⊥) → made_to a start room rows out ≡ out
  unfolding made_to
  made-to-refused h = rw (ne_eqb fault 0 h)

  -- not refused: the message of the stage, under the sender's next tag, offered
  module _ (stage : Stage) (n : a.next ≡ Send stage) (e : message_fault a start room (length out) ≡ 0) where
    pub made-fine : made_of a start room rows out ≡ given_with (written (request_at stage a.sender.next start rows)) a
    unfolding made_of
    made-fine = rw (e, n)

    pub made-to-fine : made_to a start room rows out ≡ put out 0 (written (request_at stage a.sender.next start rows))
    unfolding made_to
    made-to-fine = rw (e, n)

    pub made_bytes : take (made_of a start room rows out).length (made_to a start room rows out)
        ≡ written (request_at stage a.sender.next start rows)
    made_bytes = rw (made-fine, made-to-fine) (put_front out (written (request_at stage a.sender.next start rows)))

-- an answer: refused by the sender, the attempt is as it was; accepted, it goes on
module _ (a : Attempt) (message answer rows : List ℕ) where
  pub taken_refused : ((take_of a.sender message answer).refusal.number ≡ 0 → ⊥)
      → taken_of a message answer rows ≡ not_taken (take_of a.sender message answer).refusal a
  unfolding taken_of
  taken_refused h = rw (ne_eqb (take_of a.sender message answer).refusal.number 0 h)

  pub taken-accepted : (take_of a.sender message answer).refusal.number ≡ 0
      → taken_of a message answer rows
      ≡ record {
        refusal = (take_of a.sender message answer).refusal;
        attempt =
            attempt_at (take_of a.sender message answer).sender (next_by rows a.next (told_of message answer));
      }
  unfolding taken_of
  taken-accepted h = rw (eq-eqb (take_of a.sender message answer).refusal.number 0 h)

  -- either way the refusal is the sender's
  pub taken-refusal : (taken_of a message answer rows).refusal ≡ (take_of a.sender message answer).refusal
  taken-refusal = go (eqb (take_of a.sender message answer).refusal.number 0) refl
    where
      go : (t : Bool) → eqb (take_of a.sender message answer).refusal.number 0 ≡ t
          → (taken_of a message answer rows).refusal ≡ (take_of a.sender message answer).refusal
      go true e = ap (λ (x : Taken). x.refusal) (taken-accepted (eqb-true _ 0 e))
      go false e = ap (λ (x : Taken). x.refusal) (taken_refused (eqb-false _ 0 e))
