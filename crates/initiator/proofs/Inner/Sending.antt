-- The sender's checks, one by one. The proofs of the sender's functions cite these. Assumes nothing.
use Prim.Native.Nat.{ℕ, ◌<◌}
use mathlib.Core.Path.{◌≡◌, refl, sym, ◌∙◌}
use mathlib.Core.Bool.{Bool, true, false}
use mathlib.Core.List.{List, []}
use native.Mathlib.Omega.{arith}
use borrow.Author.Tests.{ltb-true, eqb-true}
use lib.Dec.{ltb, eqb}
use Rattle.header.specs.declared.refusal.Refusal.{Refusal}
use Rattle.header.specs.Header.{tag_of}
use Rattle.header.specs.Refusal.{refusal, unless}
use Rattle.header.proofs.Laws.Refusal.{number_is}
use Rattle.message.specs.Request.{Request, Reading, Refused, Means, refusal_in}
use Rattle.message.specs.Walk.{read}
use Rattle.message.proofs.Laws.Faults.{no-mean}
use Rattle.message.proofs.Laws.Going.{read_first}
use Rattle.answer.specs.Answer.{Answered, judge}
use Rattle.answer.proofs.Laws.Looking.{Some, judge-some}
use Rattle.initiator.specs.declared.sender.Sender.{Sender}
use Rattle.initiator.specs.Asking.{plainly, asked_as}
use Rattle.initiator.specs.Outcome.{judged_in, judged_by}
use Rattle.initiator.specs.Places.{most, sender_ok, has_room, place_in, waits_for, new_tag, with_one}
use Rattle.initiator.specs.Sender.{offering, sending, offered_by, offer_of, send_of, send_fault, accepted_at, refused_take, taken_by, take_of}
use Rattle.initiator.proofs.Laws.Asked.{plainly-reads, plainly-some, as-reads, as_fits, as_some}
use Rattle.initiator.proofs.Laws.Places.{room-few}

-- a message that may be sent: its sender's record is allowed, it waits there and is not answered, and it was read as it is
pub record Sends (s : Sender) (message : List ℕ) (q : Request) : Type 0 where
  pub ok : sender_ok s ≡ true
  pub some : 0 < s.waiting
  pub plain : plainly (read message) ≡ Means q
  pub is : read message ≡ Means q
  pub waits : waits_for s (tag_of q.byte0) ≡ true

pub sends : (s : Sender) (message : List ℕ) (q : Request) → sending s message ≡ Means q → Sends s message q
unfolding sending
sends s message q e = go (sender_ok s) refl (ltb 0 s.waiting) refl e
  where
    go : (a : Bool) → sender_ok s ≡ a → (b : Bool) → ltb 0 s.waiting ≡ b
        → unless a (Refused (refusal 37)) (unless b (Refused (refusal 30)) (asked_as (waits_for s) (read message))) ≡ Means q → Sends s message q
    go false z b w x = no-mean x
    go true z false w x = no-mean x
    go true z true w x =
        let p = as-reads (waits_for s) (read message) q x in
        record { ok = z; some = ltb-true _ _ w; plain = p; is = (plainly-reads (read message) q p).is; waits = as_fits (waits_for s) (read message) q x }

-- a message that may be offered: fewer than four wait
pub record Offers (s : Sender) (message : List ℕ) (q : Request) : Type 0 where
  pub ok : sender_ok s ≡ true
  pub room : s.waiting < most
  pub is : read message ≡ Means q
  pub tag : tag_of q.byte0 ≡ new_tag s

pub offers : (s : Sender) (message : List ℕ) (q : Request) → offering s message ≡ Means q → Offers s message q
unfolding offering
offers s message q e = go (sender_ok s) refl (has_room s) refl e
  where
    go : (a : Bool) → sender_ok s ≡ a → (b : Bool) → has_room s ≡ b
        → unless a (Refused (refusal 37)) (unless b (Refused (refusal 36)) (asked_as (eqb (new_tag s)) (read message))) ≡ Means q → Offers s message q
    go false z b w x = no-mean x
    go true z false w x = no-mean x
    go true z true w x =
        let p = as-reads (eqb (new_tag s)) (read message) q x in
        record { ok = z; room = room-few s w; is = (plainly-reads (read message) q p).is; tag = sym (eqb-true _ _ (as_fits (eqb (new_tag s)) (read message) q x)) }

-- each check is a line of its definition
module _ (s : Sender) (message : List ℕ) where
  pub offering-stopped : sender_ok s ≡ false → offering s message ≡ Refused (refusal 37)
  unfolding offering
  offering-stopped e = rw e

  pub offering-full : sender_ok s ≡ true → has_room s ≡ false → offering s message ≡ Refused (refusal 36)
  unfolding offering
  offering-full e f = rw (e, f)

  pub offering-asks : sender_ok s ≡ true → has_room s ≡ true → offering s message ≡ asked_as (eqb (new_tag s)) (read message)
  unfolding offering
  offering-asks e f = rw (e, f)

  pub sending-stopped : sender_ok s ≡ false → sending s message ≡ Refused (refusal 37)
  unfolding sending
  sending-stopped e = rw e

-- no refusal of sending is 0: so number 0 is none
sending-some : (s : Sender) (message : List ℕ) → Some (sending s message)
unfolding sending
sending-some s message = go (sender_ok s) (ltb 0 s.waiting)
  where
    go : (a b : Bool) → Some (unless a (Refused (refusal 37)) (unless b (Refused (refusal 30)) (asked_as (waits_for s) (read message))))
    go false b = omega arith
    go true false = omega arith
    go true true = as_some (waits_for s) (read message)

offering-some : (s : Sender) (message : List ℕ) → Some (offering s message)
unfolding offering
offering-some s message = go (sender_ok s) (has_room s)
  where
    go : (a b : Bool) → Some (unless a (Refused (refusal 37)) (unless b (Refused (refusal 36)) (asked_as (eqb (new_tag s)) (read message))))
    go false b = omega arith
    go true false = omega arith
    go true true = as_some (eqb (new_tag s)) (read message)

pub judged-some : (s : Sender) (message answer : List ℕ) → Some (judged_in (sending s message) answer)
judged-some s message answer = go (sending s message) (sending-some s message)
  where
    go : (p : Reading Request) → Some p → Some (judged_in p answer)
    go (Refused r) h = h
    go (Means q) h = judge-some q answer

pub some-means : {A : Type 0} (p : Reading A) → Some p → (refusal_in p).number ≡ 0 → (a : A) × (p ≡ Means a)
some-means (Refused r) h e = absurd (omega arith)
some-means (Means a) h e = (a, refl)

pub sent_means : (s : Sender) (message : List ℕ) → (send_fault s message).number ≡ 0 → (q : Request) × (sending s message ≡ Means q)
unfolding send_fault
sent_means s message e = some-means (sending s message) (sending-some s message) e

pub offered-means : (s : Sender) (message : List ℕ) → (offer_of s message).refusal.number ≡ 0 → (q : Request) × (offering s message ≡ Means q)
unfolding offer_of
offered-means s message e = some-means (offering s message) (offering-some s message) (go (offering s message) e)
  where
    go : (p : Reading Request) → (offered_by s p).refusal.number ≡ 0 → (refusal_in p).number ≡ 0
    go (Refused r) z = z
    go (Means q) z = refl

-- and what is refused is refused with its refusal
pub refused-is : (s : Sender) (message : List ℕ) → ((send_fault s message).number ≡ 0 → ⊥) → sending s message ≡ Refused (send_fault s message)
unfolding send_fault
refused-is s message e = go (sending s message) e
  where
    go : (p : Reading Request) → ((refusal_in p).number ≡ 0 → ⊥) → p ≡ Refused (refusal_in p)
    go (Refused r) z = refl
    go (Means q) z = absurd (z refl)

-- no refusal of an answer is 0
pub answer-some : (p : Reading Request) (answer : List ℕ) → Some (judged_by p answer)
unfolding judged_by
answer-some p answer = go (plainly p) (plainly-some p)
  where
    go : (x : Reading Request) → Some x → Some (judged_in x answer)
    go (Refused r) h = h
    go (Means q) h = judge-some q answer

-- an answer is taken exactly if it tells no refusal
module _ (s : Sender) (message answer : List ℕ) (q : Request) (e : sending s message ≡ Means q) where
  abbrev place : ℕ
  place = place_in s (tag_of q.byte0)

  take-is : take_of s message answer ≡ taken_by s place (judge q answer)
  unfolding take_of
  take-is = rw (e, (read_first message q (sends s message q e).is).1)

  told_is : refusal_in (judged_in (read message) answer) ≡ refusal_in (judge q answer)
  told_is = rw (sends s message q e).is

  pub take-wrong : {r : Refusal} → r ≡ refusal_in (judged_in (read message) answer) → (r.number ≡ 0 → ⊥) → refused_take s r ≡ take_of s message answer
  take-wrong t z = rw (t, told_is, take-is) (go (judge q answer) (λ n. z (number_is (t ∙ told_is) ∙ n)))
    where
      go : (p : Reading (List Answered)) → ((refusal_in p).number ≡ 0 → ⊥) → refused_take s (refusal_in p) ≡ taken_by s place p
      go (Refused r) z = refl
      go (Means items) z = absurd (z refl)

  pub take-right : {r : Refusal} → r ≡ refusal_in (judged_in (read message) answer) → r.number ≡ 0 → accepted_at s place ≡ take_of s message answer
  take-right t z = rw take-is (go (judge q answer) (judge-some q answer) (sym (number_is (t ∙ told_is)) ∙ z))
    where
      go : (p : Reading (List Answered)) → Some p → (refusal_in p).number ≡ 0 → accepted_at s place ≡ taken_by s place p
      go (Refused r) h z = absurd (omega arith)
      go (Means items) h z = refl

-- offered or not, sent or not
module _ (s : Sender) (message : List ℕ) where
  pub offer-refused : (r : Refusal) → offering s message ≡ Refused r → record { refusal = r; sender = s } ≡ offer_of s message
  unfolding offer_of
  offer-refused r e = rw e

  pub offer-taken : (q : Request) → offering s message ≡ Means q → record { refusal = refusal 0; sender = with_one s } ≡ offer_of s message
  unfolding offer_of
  offer-taken q e = rw e

  pub send-refused : (r : Refusal) → sending s message ≡ Refused r → [] ≡ send_of s message
  unfolding send_of
  send-refused r e = rw e

  pub send-taken : (q : Request) → sending s message ≡ Means q → message ≡ send_of s message
  unfolding send_of
  send-taken q e = rw e

-- refused before the answer is looked at
pub take_own : (s : Sender) (message answer : List ℕ) (r : Refusal) → sending s message ≡ Refused r → refused_take s r ≡ take_of s message answer
unfolding take_of
take_own s message answer r e = rw e
