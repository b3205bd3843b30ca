-- The sender's promises. Whoever stands above the sender cites these. Assumes nothing.
use Prim.Native.Nat.{ℕ, ◌≤◌, ◌<◌}
use mathlib.Core.Path.{◌≡◌, refl, sym, ap, subst, ◌∙◌}
use mathlib.Core.Bool.{Bool, true, false, cond, ◌||◌}
use mathlib.Core.List.{List}
use native.Mathlib.Omega.{arith}
use borrow.Author.Tests.{eqb-true, eqb-false, lt-ltb}
use lib.Dec.{ltb, eqb}
use lib.ListN.{get_or}
use Rattle.word.specs.Words.{Bytes}
use Rattle.header.specs.declared.refusal.Refusal.{Refusal}
use Rattle.header.specs.Header.{tag_of, discovery_of}
use Rattle.header.specs.Refusal.{refused_at, refusal, unless}
use Rattle.message.specs.Request.{Request, Reading, Refused, Means, refusal_in}
use Rattle.message.specs.Walk.{read}
use Rattle.message.proofs.Laws.Faults.{no-mean}
use Rattle.message.proofs.Laws.Back.{written_read}
use Rattle.message.proofs.Laws.Going.{read_first}
use Rattle.answer.specs.Answer.{Answered, answer_byte, judge}
use Rattle.answer.proofs.Laws.Accepts.{encode-judged, other_byte}
use Rattle.answer.proofs.Laws.Looking.{judge-first}
use Rattle.answer.proofs.Laws.Heads.{answer-tag, answer-discovery}
use Rattle.initiator.specs.declared.sender.Sender.{Sender}
use Rattle.initiator.specs.declared.sender.Moved.{Moved}
use Rattle.initiator.specs.declared.sender.Taken.{Taken}
use Rattle.initiator.specs.Outcome.{judged_in, judged_by, outcome_of}
use Rattle.initiator.specs.Asking.{plainly, under_tag, asked_as}
use Rattle.initiator.specs.Places.{sender_ok, has_room, place_in, waits_for, new_tag, with_one, marked, ending_of, without}
use Rattle.initiator.specs.Sender.{offering, sending, offered_by, offer_of, send_fault, accepted_at, taken_by, take_of, start_of}
use Rattle.initiator.specs.Promises.{KeepsRefused, KeepsNotTaken, OfferedIs, AcceptedIs, OldestWaits, OnlyItsOwn, Alone, Where, OthersGiveZero, HandsOn}
use Rattle.initiator.proofs.Laws.Asked.{plainly-wrong, plainly-means, plainly-reads, as-wrong, as-away}
use Rattle.initiator.proofs.Laws.Places.{ok-next, ok-few, ok-is, room-is, new_is, one-next, one-waiting}
use Rattle.initiator.proofs.Laws.Waits.{one-waits, accepted-none, Does, does, oldest-waits}
use Rattle.initiator.proofs.Inner.Sending.{sends, offers, sent_means, offered-means, refused-is, answer-some, offer-taken, take_own}
use Rattle.initiator.proofs.Inner.Told.{told-refused}

-- a refusal leaves the sender as it was
pub offer-keeps : (s : Sender) (message : List ℕ) → KeepsRefused s (offer_of s message)
unfolding offer_of
offer-keeps s message = go (offering s message)
  where
    go : (p : Reading Request) → KeepsRefused s (offered_by s p)
    go (Refused r) z = refl
    go (Means q) z = absurd (z refl)

-- an accepted offer
pub offered : (s : Sender) (message : List ℕ) → OfferedIs s message
offered s message z =
    let q = offered-means s message z in
    let o = offers s message q.0 q.1 in
    let byte : get_or message 0 0 ≡ q.0.byte0 = (read_first message q.0 o.is).1 in
    let tag : tag_of (get_or message 0 0) ≡ new_tag s = ap tag_of byte ∙ o.tag in
    let e : offer_of s message ≡ record { refusal = refusal 0; sender = with_one s } = sym (offer-taken s message q.0 q.1) in
    record {
      room = o.room;
      tag = tag ∙ new_is s;
      next = ap (λ (m : Moved). m.sender.next) e ∙ one-next s;
      waiting = ap (λ (m : Moved). m.sender.waiting) e ∙ one-waiting s;
      waits = λ t h. ap (λ (m : Moved). waits_for m.sender t) e ∙ one-waits s (ok-next s o.ok) (ok-few s o.ok) t h o.room ∙ ap (λ (n : ℕ). waits_for s t || eqb t n) (sym tag);
    }

module _ (s : Sender) (message answer : List ℕ) where
  -- the lent message's place
  abbrev place : ℕ
  place = place_in s (tag_of (get_or message 0 0))

  pub take-keeps : KeepsNotTaken s (take_of s message answer)
  unfolding take_of accepted_at
  take-keeps = go (judged_in (sending s message) answer)
    where
      by : (b : Bool) → KeepsNotTaken s (cond b (record { refusal = refusal 0; sender = without s (ending_of s); ended = ending_of s }) (record { refusal = refusal 0; sender = marked s place; ended = 0 }))
      by true z = absurd (z refl)
      by false z = absurd (z refl)

      go : (p : Reading (List Answered)) → KeepsNotTaken s (taken_by s place p)
      go (Refused r) z = (refl, refl)
      go (Means items) z = by (eqb place 0) z

  -- past the sender's own refusals, the answer decides
  pub take-judged : (send_fault s message).number ≡ 0 → take_of s message answer ≡ taken_by s place (judged_by (read message) answer)
  unfolding take_of judged_by
  take-judged e =
      let q = sent_means s message e in
      rw (q.1, (sends s message q.0 q.1).plain)

  -- an accepted answer was let by both
  record Let : Type 0 where
    own : (send_fault s message).number ≡ 0
    items : List Answered
    told : judged_by (read message) answer ≡ Means items

  idle : (p : Reading Request) → eqb (refusal_in p).number 0 ≡ false → (taken_by s place (judged_in p answer)).refusal.number ≡ 0 → ⊥
  idle (Refused r) e z = eqb-false r.number 0 e z
  idle (Means q) e z = eqb-false 0 0 e refl

  let_by : (take_of s message answer).refusal.number ≡ 0 → Let
  unfolding take_of send_fault
  let_by z = go (eqb (refusal_in (sending s message)).number 0) refl
    where
      by : (e : (refusal_in (sending s message)).number ≡ 0) → (p : Reading (List Answered)) → judged_by (read message) answer ≡ p → (taken_by s place p).refusal.number ≡ 0 → Let
      by e (Refused r) q x = let t : 0 < r.number = rw q at (answer-some (read message) answer) in absurd (omega arith)
      by e (Means items) q x = record { own = e; items = items; told = q }

      go : (b : Bool) → eqb (refusal_in (sending s message)).number 0 ≡ b → Let
      go false e = absurd (idle (sending s message) e z)
      go true e =
          let own = eqb-true _ _ e in
          by own (judged_by (read message) answer) refl (rw (take-judged own) at z)

-- a request whose answer was let by
record Heard (p : Reading Request) (answer : List ℕ) (items : List Answered) : Type 0 where
  request : Request
  is : p ≡ Means request
  plain : discovery_of request.byte0 ≡ false
  judged : judge request answer ≡ Means items

heard : (p : Reading Request) (answer : List ℕ) (items : List Answered) → judged_by p answer ≡ Means items → Heard p answer items
unfolding judged_by
heard p answer items e = go (plainly p) refl e
  where
    go : (x : Reading Request) → plainly p ≡ x → judged_in x answer ≡ Means items → Heard p answer items
    go (Refused r) z y = no-mean y
    go (Means q) z y = let h = plainly-reads p q z in record { request = q; is = h.is; plain = h.clear; judged = y }

-- it waited and was not answered, and the answer has its tag
was-own : (s : Sender) (message answer : List ℕ) → (take_of s message answer).refusal.number ≡ 0
    → (waits_for s (tag_of (get_or message 0 0)) ≡ true) × (tag_of (get_or answer 0 0) ≡ tag_of (get_or message 0 0))
was-own s message answer z =
    let l = let_by s message answer z in
    let q = sent_means s message l.own in
    let sent = sends s message q.0 q.1 in
    let h = heard (read message) answer l.items l.told in
    let byte : get_or message 0 0 ≡ h.request.byte0 = (read_first message h.request h.is).1 in (
      ap (λ (b : ℕ). waits_for s (tag_of b)) (read_first message q.0 sent.is).1 ∙ sent.waits,
      ap tag_of (judge-first h.request answer l.items h.judged) ∙ answer-tag h.request.byte0 ∙ ap tag_of (sym byte),
    )

-- an accepted answer's refusal is none, its index too
pub accepted-plain : (s : Sender) (message answer : List ℕ) → (take_of s message answer).refusal.number ≡ 0
    → (take_of s message answer).refusal ≡ refusal 0
accepted-plain s message answer z =
    let l = let_by s message answer z in
    let place : ℕ = place_in s (tag_of (get_or message 0 0)) in
    ap (λ (m : Taken). m.refusal) (take-judged s message answer l.own ∙ ap (taken_by s place) l.told) ∙ accepted-none s place

pub accepted : (s : Sender) (message answer : List ℕ) → Bytes message → Bytes answer → AcceptedIs s message answer
accepted s message answer bm ba z =
    let l = let_by s message answer z in
    let q = sent_means s message l.own in
    let ok = (sends s message q.0 q.1).ok in
    let h = heard (read message) answer l.items l.told in
    let r = h.request in
    let own = was-own s message answer z in
    let tag : ℕ = tag_of (get_or message 0 0) in
    let t : take_of s message answer ≡ accepted_at s (place_in s tag) = take-judged s message answer l.own ∙ ap (taken_by s (place_in s tag)) l.told in
    let d : Does s tag (take_of s message answer) = subst (Does s tag) (sym t) (does s (ok-next s ok) (ok-few s ok) tag (omega arith) own.0) in
    let first : get_or answer 0 0 ≡ answer_byte r.byte0 = judge-first r answer l.items h.judged in
    let e = encode-judged r answer l.items ba h.judged in
    record {
      waited = own.0;
      oldest = d.oldest;
      younger = d.younger;
      waiting = d.waiting;
      next = d.next;
      waits = d.waits;
      tag = own.1;
      plain = ap discovery_of first ∙ answer-discovery r.byte0 ∙ h.plain;
      request = r;
      asked = h.is;
      fits = (written_read message r bm h.is).0;
      items = l.items;
      told = l.told;
      encoded = e.1;
      answers = e.0;
    }

-- what does not wait, or is answered, is 31
away : (s : Sender) (message : List ℕ) → s.next < 16 → 0 < s.waiting → s.waiting ≤ 4 → waits_for s (tag_of (get_or message 0 0)) ≡ false → (send_fault s message).number ≡ 31
unfolding send_fault sending
away s message n some few e = rw (ok-is s n few, lt-ltb 0 s.waiting some) (as-away (waits_for s) message e)

judged-sent : (s : Sender) (message answer : List ℕ) (q : Request) → sending s message ≡ Means q → judged_by (read message) answer ≡ judge q answer
unfolding judged_by
judged-sent s message answer q e = rw (sends s message q e).plain

-- where one waits, the oldest does
pub oldest-is : (s : Sender) → OldestWaits s
oldest-is s n some = oldest-waits s n some

-- of all lent messages only its own
pub only-its-own : (s : Sender) (message answer : List ℕ) → OnlyItsOwn s message answer
only-its-own s message answer =
    record {
      own = was-own s message answer;
      absent = λ n some few e. away s message n some few e;
      other = λ e l z.
          let q = sent_means s message e in
          let byte : get_or message 0 0 ≡ q.0.byte0 = (read_first message q.0 (sends s message q.0 q.1).is).1 in
          let j = other_byte q.0 answer l (λ i. z (ap tag_of i ∙ answer-tag q.0.byte0 ∙ ap tag_of (sym byte))) in
          ap (λ (m : Taken). m.refusal) (take-judged s message answer e ∙ ap (taken_by s (place s message answer)) (judged-sent s message answer q.0 q.1 ∙ j));
      unsent = λ z. ap (λ (m : Taken). m.refusal) (sym (take_own s message answer (send_fault s message) (refused-is s message z)));
      keeps = take-keeps s message answer;
    }

taken-refusal : (s t : Sender) (i k : ℕ) (p : Reading (List Answered)) → (taken_by s i p).refusal ≡ (taken_by t k p).refusal
taken-refusal s t i k (Refused r) = refl
taken-refusal s t i k (Means items) = accepted-none s i ∙ sym (accepted-none t k)

pub alone : (s t : Sender) (message answer : List ℕ) → Alone s t message answer
alone s t message answer e f =
    rw (take-judged s message answer e, take-judged t message answer f) (taken-refusal s t (place s message answer) (place t message answer) (judged_by (read message) answer))

-- 31 has the index of what is wrong with the request
ask-where : (fits : ℕ → Bool) (message : List ℕ) (n at : ℕ) → read message ≡ Refused (refused_at n at) → asked_as fits (read message) ≡ Refused (refused_at 31 at)
ask-where fits message n at e = as-wrong fits (read message) (refused_at 31 at) (plainly-wrong (read message) (refused_at n at) e)

send-where : (s : Sender) (message : List ℕ) (n at : ℕ) → read message ≡ Refused (refused_at n at) → s.next < 16 → 0 < s.waiting → s.waiting ≤ 4
    → sending s message ≡ Refused (refused_at 31 at)
unfolding sending
send-where s message n at e l o w = rw (ok-is s l w, lt-ltb 0 s.waiting o) (ask-where (waits_for s) message n at e)

pub where-refused : (message : List ℕ) → Where message
unfolding offer_of offering send_fault take_of
where-refused message n at e =
    record {
      offer = λ s l w. rw (ok-is s l (omega arith), room-is s w, ask-where (eqb (new_tag s)) message n at e);
      send = λ s l o w. rw (send-where s message n at e l o w);
      take = λ s answer l o w. rw (send-where s message n at e l o w);
      told = λ answer k. sym (told-refused message answer k (refused_at 31 at) (plainly-wrong (read message) (refused_at n at) e));
    }

-- and no other refusal has one
unless-zero : (ok : Bool) (n : ℕ) (p : Reading Request) → (refusal_in p).at ≡ 0 → (refusal_in (unless ok (Refused (refusal n)) p)).at ≡ 0
unless-zero true n p e = e
unless-zero false n p e = refl

ask-zero : (fits : ℕ → Bool) (message : List ℕ) (r : Request) → read message ≡ Means r → (refusal_in (asked_as fits (read message))).at ≡ 0
unfolding asked_as
ask-zero fits message r e = rw (plainly-means (read message) r e) (go (discovery_of r.byte0))
  where
    by : (c : Bool) → (refusal_in (cond {A = Reading Request} c (Means r) (Refused (refusal 31)))).at ≡ 0
    by true = refl
    by false = refl

    go : (a : Bool) → (refusal_in (under_tag fits (cond {A = Reading Request} a (Refused (refusal 31)) (Means r)))).at ≡ 0
    go true = refl
    go false = by (fits (tag_of r.byte0))

offered-refusal : (s : Sender) (p : Reading Request) → (offered_by s p).refusal ≡ refusal_in p
offered-refusal s (Refused r) = refl
offered-refusal s (Means q) = refl

pub others-give-zero : (message : List ℕ) → OthersGiveZero message
unfolding offer_of offering send_fault sending
others-give-zero message r e s =
    let by : (ok : Bool) (n : ℕ) (fits : ℕ → Bool) → (refusal_in (unless (sender_ok s) (Refused (refusal 37)) (unless ok (Refused (refusal n)) (asked_as fits (read message))))).at ≡ 0 =
    λ ok n fits.
    unless-zero (sender_ok s) 37 (unless ok (Refused (refusal n)) (asked_as fits (read message))) (unless-zero ok n (asked_as fits (read message)) (ask-zero fits message r e)) in
    (ap (λ (q : Refusal). q.at) (offered-refusal s (offering s message)) ∙ by (has_room s) 36 (eqb (new_tag s)), by (ltb 0 s.waiting) 30 (waits_for s))

-- and 32 to 35 are handed on as they are
pub hands_on : (answer : List ℕ) (r : Refusal) → HandsOn answer r
unfolding outcome_of start_of
hands_on answer r =
    record {
      take = λ s message e j. ap (λ (m : Taken). m.refusal) (take-judged s message answer e ∙ ap (taken_by s (place s message answer)) j);
      told = λ message k j. rw j;
      start = λ j. rw j;
    }
