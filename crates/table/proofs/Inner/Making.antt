-- The next message: refused, or written and offered. The proofs of `due` and `message` cite these. Assumes nothing.
use Prim.Native.Nat.{ℕ, ◌<◌, ◌≤◌}
use mathlib.Core.Path.{◌≡◌, refl, sym, ap, ◌∙◌}
use mathlib.Core.Bool.{false, false≢true}
use mathlib.Core.List.{List}
use native.Mathlib.Omega.{arith}
use borrow.Author.Tests.{leb-true, ne_eqb}
use lib.ListN.{length, take}
use Rattle.word.specs.Words.{put}
use Rattle.word.proofs.Runs.{put_front, length-put}
use Rattle.std.proofs.Common.{Result, Ok, Err}
use Rattle.header.specs.declared.refusal.Refusal.{Refusal}
use Rattle.header.specs.Limits.{limit_bytes, tag_count}
use Rattle.header.specs.Refusal.{refusal}
use Rattle.header.proofs.Laws.Refusal.{ok_of, err_of}
use Rattle.message.specs.Request.{written}
use Rattle.std.specs.Result.{result_unwrap_or}
use Rattle.initiator.specs.declared.sender.Sender.{Sender}
use Rattle.initiator.specs.Sender.{offer_by}
use Rattle.initiator.proofs.Laws.Checked.{offer-or-kept}
use Rattle.initiator.proofs.Laws.Places.{ok-next}
use Rattle.layout.specs.declared.Stage.{Stage}
use Rattle.layout.specs.Writing.{length_of}
use Rattle.layout.specs.Layout.{request_at}
use Rattle.layout.specs.Writing as writing
use Rattle.layout.proofs.Laws.Writing.{make-fine, written-fits}
use Rattle.layout.proofs.Laws.Writing as laws
use Rattle.table.specs.declared.attempt.Next.{Next}
use Rattle.table.specs.declared.attempt.Next.TheVariants.{Send, Done, Ended}
use Rattle.table.specs.declared.attempt.Attempt.{Attempt}
use Rattle.table.specs.declared.attempt.Offered.{Offered}
use Rattle.table.specs.Calls.{attempt_at, sends, message_fault, due_by, offered_of, made_of, made_to}
use Rattle.table.proofs.Laws.Calls.{Fine, fine, made-refused, made-to-refused, made-fine, made-to-fine}

-- which stage's message is to be sent: a refusal's number is not 0, and without one it is the stage that comes next
pub unsent : (x : Next) → ((stage : Stage) → x ≡ Send stage → ⊥) → sends x ≡ false
unsent (Send stage) h = absurd (h stage refl)
unsent Done h = refl
unsent (Ended n) h = refl

pub due-refused : (x : Next) {number : ℕ} → (number ≡ 0 → ⊥) → due_by x number ≡ Err (refusal number)
due-refused (Send stage) {number} h = rw (ne_eqb number 0 h) refl
due-refused Done h = refl
due-refused (Ended n) h = refl

pub due-sent : (x : Next) (number : ℕ) (stage : Stage) → Ok stage ≡ due_by x number → (x ≡ Send stage) × (number ≡ 0)
due-sent (Send s) number stage e = let k = ok_of (refusal number) s e in (ap Send (sym k.1), k.0)
due-sent Done number stage e = absurd (cc)
due-sent (Ended n) number stage e = absurd (cc)

module _ (a : Attempt) (start room : ℕ) (rows out : List ℕ) where
  abbrev fault : ℕ
  fault = message_fault a start room (length out)

  -- what the call ensures
  abbrev pub Makes : Result Offered Refusal → List ℕ → Type 0
  Makes made out' = (made ≡ offered_of (made_of a start room rows out)) × (out' ≡ made_to a start room rows out)

  faulty : {r : Refusal} → Err r ≡ due_by a.next fault → (r ≡ refusal fault) × (fault ≡ 0 → ⊥)
  faulty {r} e = go a.next refl e
    where
      some : {x : Next} → a.next ≡ x → sends x ≡ false → fault ≡ 0 → ⊥
      some n h z =
          let f = fine a start room (length out) z in
          false≢true (sym h ∙ ap sends (sym n ∙ f.next))

      go : (x : Next) → a.next ≡ x → Err r ≡ due_by x fault → (r ≡ refusal fault) × (fault ≡ 0 → ⊥)
      go (Send stage) n e = err_of (refusal fault) stage e
      go Done n e = (cc, some n refl)
      go (Ended k) n e = (cc, some n refl)

  -- refused: the attempt and the output are as they were
  pub refuses : {r : Refusal} → Err r ≡ due_by a.next fault → Makes (Err r) out
  refuses e =
      let k = faulty e in (
        rw (k.0, made-refused a start room rows out k.1, ne_eqb fault 0 k.1) refl,
        sym (made-to-refused a start room rows out k.1),
      )

  -- the message of a stage, not refused: it stands first in the output, and is offered
  module _ {stage : Stage} (due : Ok stage ≡ due_by a.next fault) {tag : ℕ} (t : tag ≡ a.sender.next) where
    next : a.next ≡ Send stage
    next = (due-sent a.next fault stage due).0

    none : fault ≡ 0
    none = (due-sent a.next fault stage due).1

    abbrev m : List ℕ
    m = written (request_at stage a.sender.next start rows)

    passes : Fine a start room (length out)
    passes = fine a start room (length out) none

    small : a.sender.next < tag_count
    small = ok-next a.sender passes.ok

    fault-is : writing.make_fault start room (length out) a.sender.next ≡ 0
    fault-is = make-fine start room (length out) a.sender.next passes.set-up passes.long-is small

    abbrev wrote : Result ℕ Refusal
    wrote = length_of (writing.wrote_of stage tag start room rows out)

    wrote-is : wrote ≡ Ok (length m)
    wrote-is = rw (t, laws.made-fine stage a.sender.next start room rows out fault-is) refl

    pub write-goes : {r : Refusal} → Err r ≡ wrote → ⊥
    write-goes e = let w = wrote-is in cc

    module _ {n : ℕ} {out' : List ℕ} (e : Ok n ≡ wrote) (o : out' ≡ writing.wrote_to stage tag start room rows out) where
      length-is : n ≡ length m
      length-is = let w = wrote-is in cc

      out-is : out' ≡ put out 0 m
      out-is = o ∙ rw t (laws.made-to-fine stage a.sender.next start room rows out fault-is)

      within : length m ≤ length out
      within =
          let k = leb-true limit_bytes (length out) passes.long-is in
          omega (arith, written-fits stage a.sender.next start rows small)

      pub fits : n ≤ length out'
      fits = rw (out-is, length-put out 0 m (omega (arith, within))) (omega (arith, length-is, within))

      pub makes : {sender : Sender} → sender ≡ result_unwrap_or (offer_by a.sender (take n out')) a.sender
          → Makes (Ok (record { length = n; attempt = attempt_at sender a.next })) out'
      makes q =
          let z : take n out' ≡ m = rw (length-is, out-is) (put_front out m) in (
            rw (q, z, offer-or-kept a.sender m, length-is, made-fine a start room rows out stage next none) refl,
            out-is ∙ sym (made-to-fine a start room rows out stage next none),
          )
