-- Offering, sending and taking by their checks. Whoever stands above the sender cites these. Assumes nothing.
use Prim.Native.Nat.{ℕ, ◌≤◌, ◌<◌}
use mathlib.Core.Path.{◌≡◌, refl, sym, ap, ◌∙◌}
use mathlib.Core.Bool.{Bool, true, false}
use mathlib.Core.List.{List, []}
use Rattle.std.specs.Prelude.{Ok, Err}
use Rattle.std.specs.Result.{result_unwrap_or}
use Rattle.initiator.specs.declared.sender.Progress.{Progress}
use Rattle.initiator.specs.declared.sender.Taken.{Taken}
use native.Mathlib.Omega.{arith}
use borrow.Author.Tests.{lt-ltb, eqb-false}
use lib.Dec.{eqb, ltb}
use lib.ListN.{get_or}
use Rattle.header.specs.declared.refusal.Refusal.{Refusal}
use Rattle.header.specs.Limits.{tag_count}
use Rattle.header.specs.Header.{tag_of}
use Rattle.header.specs.Refusal.{refusal, unless}
use Rattle.message.specs.Request.{Request, Reading, Refused, Means, refusal_in, given}
use Rattle.message.specs.Walk.{read}
use Rattle.answer.specs.Answer.{Answered}
use Rattle.initiator.specs.declared.sender.Sender.{Sender}
use Rattle.initiator.specs.Asking.{asked_as, asks_as}
use Rattle.initiator.specs.Outcome.{judged_in, judged_by}
use Rattle.initiator.specs.Places.{most, sender_ok, place_in, waits_for, new_tag, with_one}
use Rattle.initiator.specs.Sender.{idle, offering, sending, offer_by, moved_from, offer_of, hands_back, sent_by, send_of, send_fault, accepted_at, refused_take, taken_by, take_of}
use Rattle.initiator.specs.Sender.{progress_at, take_by, taken_from, discovered_by, start_of}
use Rattle.initiator.specs.Promises.{ResultsTell}
use Rattle.initiator.proofs.Laws.Asked.{asked-means, as-away, given-err}
use Rattle.initiator.proofs.Laws.Places.{ok-is, room-is, room-none}
use Rattle.initiator.proofs.Laws.Waits.{none-waits, accepted-none}
use Rattle.initiator.proofs.Laws.Promises.{take-judged}
use Rattle.initiator.proofs.Inner.Sending.{sent_means, refused-is, judged-some}

-- what the calls give back is what C has of them, the sender kept where they refuse
pub start-moved : (a : List ℕ) → moved_from (idle tag_count) (discovered_by a) ≡ start_of a
unfolding start_of
start-moved a = refl

module _ (s : Sender) (m : List ℕ) where
  pub offer-moved : moved_from s (offer_by s m) ≡ offer_of s m
  unfolding offer_of
  offer-moved = refl

  pub take-taken : (a : List ℕ) → taken_from s (take_by s m a) ≡ take_of s m a
  unfolding take_of
  take-taken a = go (judged_in (sending s m) a)
    where
      place : ℕ
      place = place_in s (tag_of (get_or m 0 0))

      go : (p : Reading (List Answered)) → taken_from s (given (λ _. progress_at s place) p) ≡ taken_by s place p
      go (Refused r) = refl
      go (Means items) = ap (λ (r : Refusal). record { refusal = r; sender = (accepted_at s place).sender; ended = (accepted_at s place).ended }) (sym (accepted-none s place))

  -- an answer that is taken, and one that is refused
  pub take-goes : (a : List ℕ) {p : Progress} → Ok p ≡ take_by s m a → take_of s m a ≡ record { refusal = refusal 0; sender = p.sender; ended = p.ended }
  take-goes a e = sym (take-taken a) ∙ ap (taken_from s) (sym e)

  pub take-stops : (a : List ℕ) {r : Refusal} → Err r ≡ take_by s m a → ((take_of s m a).refusal ≡ r) × (r.number ≡ 0 → ⊥)
  take-stops a {r} e =
      let is : judged_in (sending s m) a ≡ Refused r = given-err _ _ (sym e) in
      let some : 0 < r.number = rw is at (judged-some s m a) in
      (ap (λ (t : Taken). t.refusal) (sym (take-taken a) ∙ ap (taken_from s) (sym e)), λ z. omega arith)

  -- an offer leaves the sender that C has, also where it is refused
  pub offer-or-kept : result_unwrap_or (offer_by s m) s ≡ (offer_of s m).sender
  unfolding offer_of
  offer-or-kept = go (offering s m)
    where
      go : (p : Reading Request) → result_unwrap_or (given (λ _. with_one s) p) s ≡ (moved_from s (given (λ _. with_one s) p)).sender
      go (Refused r) = refl
      go (Means q) = refl

  -- what may be sent, and what is refused
  pub sent-whole : {x : List ℕ} → Ok x ≡ sent_by s m → (refusal 0 ≡ send_fault s m) × (x ≡ send_of s m)
  unfolding send_fault send_of
  sent-whole {x} e = go (sending s m) e
    where
      go : (p : Reading Request) → Ok x ≡ given (λ _. m) p → (refusal 0 ≡ refusal_in p) × (x ≡ hands_back p m)
      go (Refused r) z = absurd cc
      go (Means q) z = (refl, cc)

  pub sent-refused : {r : Refusal} → Err r ≡ sent_by s m → (r ≡ send_fault s m) × ([] ≡ send_of s m)
  unfolding send_fault send_of
  sent-refused {r} e = go (sending s m) e
    where
      go : (p : Reading Request) → Err r ≡ given (λ _. m) p → (r ≡ refusal_in p) × ([] ≡ hands_back p m)
      go (Refused q) z = (cc, refl)
      go (Means q) z = absurd cc

  pub offer-fine : s.next < tag_count → s.waiting < most → asks_as (eqb (new_tag s)) (read m) ≡ true
      → offer_of s m ≡ record { refusal = refusal 0; sender = with_one s }
  unfolding offer_of offering
  offer-fine n w a = rw (ok-is s n (omega arith), room-is s w, (asked-means (eqb (new_tag s)) (read m) a).1)

  pub offer-full : s.next < tag_count → s.waiting ≡ most → offer_of s m ≡ record { refusal = refusal 36; sender = s }
  unfolding offer_of offering
  offer-full n w = rw (ok-is s n (omega arith), room-none s w)

  pub send-fine : s.next < tag_count → 0 < s.waiting → s.waiting ≤ most → asks_as (waits_for s) (read m) ≡ true → (send_fault s m).number ≡ 0
  unfolding send_fault sending
  send-fine n some w a = rw (ok-is s n w, lt-ltb 0 s.waiting some, (asked-means (waits_for s) (read m) a).1)

  pub sends-all : (send_fault s m).number ≡ 0 → send_of s m ≡ m
  unfolding send_of
  sends-all e = rw (sent_means s m e).1

  -- 31 for one that does not wait or is answered, or 37 or 30 before it
  pub away-fault : waits_for s (tag_of (get_or m 0 0)) ≡ false → eqb (send_fault s m).number 0 ≡ false
  unfolding send_fault sending
  away-fault e = go (sender_ok s) (ltb 0 s.waiting)
    where
      go : (a b : Bool) → eqb (refusal_in (unless {A = Reading Request} a (Refused (refusal 37)) (unless b (Refused (refusal 30)) (asked_as (waits_for s) (read m))))).number 0 ≡ false
      go false b = refl
      go true false = refl
      go true true = rw (as-away (waits_for s) m e)

  -- 30, or 37 before it
  pub idle-fault : s.waiting ≡ 0 → eqb (send_fault s m).number 0 ≡ false
  idle-fault e = away-fault (none-waits s (tag_of (get_or m 0 0)) e)

  is-refused : eqb (send_fault s m).number 0 ≡ false → sending s m ≡ Refused (send_fault s m)
  is-refused e = refused-is s m (eqb-false _ 0 e)

  pub sends_none : eqb (send_fault s m).number 0 ≡ false → send_of s m ≡ []
  unfolding send_of
  sends_none e = ap (λ (p : Reading Request). hands_back p m) (is-refused e)

  -- 37
  pub take-stopped : (a : List ℕ) → sender_ok s ≡ false → take_of s m a ≡ refused_take s (refusal 37)
  unfolding take_of sending
  take-stopped a e = rw e

  pub take-idle : (a : List ℕ) → eqb (send_fault s m).number 0 ≡ false → take_of s m a ≡ refused_take s (send_fault s m)
  unfolding take_of
  take-idle a e = ap (λ (p : Reading Request). taken_by s (place_in s (tag_of (get_or m 0 0))) (judged_in p a)) (is-refused e)

  module _ (a : List ℕ) (e : (send_fault s m).number ≡ 0) where
    abbrev place : ℕ
    place = place_in s (tag_of (get_or m 0 0))

    pub take-accepts : (items : List Answered) → judged_by (read m) a ≡ Means items → take_of s m a ≡ accepted_at s (place_in s (tag_of (get_or m 0 0)))
    take-accepts items g = take-judged s m a e ∙ ap (taken_by s place) g

    pub take-refuses : (r : Refusal) → judged_by (read m) a ≡ Refused r → take_of s m a ≡ refused_take s r
    take-refuses r g = take-judged s m a e ∙ ap (taken_by s place) g

pub results-tell : ResultsTell
results-tell =
    record {
      offer = λ s m. offer-moved s m;
      take = λ s m a. take-taken s m a;
      sent = λ s m part e. let both = sent-whole s m e in (both.1, both.0);
      unsent = λ s m r e. let both = sent-refused s m e in (both.1, both.0);
      discovered = λ a. start-moved a;
    }
