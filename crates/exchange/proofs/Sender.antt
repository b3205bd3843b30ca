-- The facts about offering and sending. Those about taking are in Taking.antt. Assumes nothing.
use Prim.Native.Nat.{ℕ, ◌+◌, ◌%◌, ◌≤◌, ◌<◌}
use mathlib.Core.Path.{◌≡◌, refl, sym, ap, subst, ◌∙◌}
use mathlib.Core.Bool.{Bool, true, false, not, false≢true}
use mathlib.Core.Option.{Option, none, some, some-injective}
use mathlib.Core.List.{List, [], ◌∷◌, ◌++◌}
use native.Mathlib.Omega.{arith}
use borrow.Author.Tests.{eqb-true, lt-ltb}
use lib.Dec.{eqb}
use lib.ListN.{length, get_or, get_elem?}
use Rattle.header.specs.Limits.{tag_count}
use Rattle.header.specs.Header.{tag_of, discovery_of}
use Rattle.message.specs.Request.{Request, Reading, Refused, Means}
use Rattle.message.specs.Walk.{read}
use Rattle.message.proofs.Laws.Going.{read_first}
use Rattle.initiator.specs.declared.sender.Moved.{Moved}
use Rattle.initiator.specs.Places.{most, place_in, answered_at, waits_for, new_tag, with_one}
use Rattle.initiator.specs.Sender.{send_fault}
use Rattle.initiator.proofs.Laws.Asked.{asks-wrong, asks-discovery, asks-tag}
use Rattle.initiator.proofs.Laws.Places.{place_of, tag-of, new-small, new-place, waits-at, one-next}
use Rattle.initiator.proofs.Laws.Checked.{offer-fine, offer-full, send-fine, sends-all, away-fault, sends_none}
use Rattle.once.specs.Tags.{Slot, asked, answered, message_in, Waits, Still}
use Rattle.once.proofs.Lists.{inside}
use Rattle.exchange.specs.Outcomes.{Outcome, told}
use Rattle.exchange.specs.Ends.{Waiting, Loader, ends, offered_in, handed, send_at}
use Rattle.exchange.specs.Terms.{Plain, terms, Offers}
use Rattle.exchange.specs.Promise.{window}
use Rattle.exchange.specs.Sight.{seen, next_by, sight}
use Rattle.exchange.proofs.Codec.{first-clear}
use Rattle.exchange.proofs.Waiting.{answered_in, Agree, to-agree, agree-next, next-agreed, one-agrees, seen-length, seen_more, asked-lent, asked-seen, answered-seen}

-- what 31 lets by is plain and has the tag after the newest
pub offers-plain : (s : Loader) (d : List ℕ) → Offers s d → Plain d × (tag_of (get_or d 0 0) ≡ new_tag s.sender)
offers-plain s d f = go (read d) refl
  where
    fits : ℕ → Bool
    fits = eqb (new_tag s.sender)

    by : (r : Request) → read d ≡ Means r → (b : Bool) → discovery_of (get_or d 0 0) ≡ b → Plain d × (tag_of (get_or d 0 0) ≡ new_tag s.sender)
    by r e true z = absurd (false≢true (asks-discovery fits d r e (get_or d 0 0) refl z ∙ f.asked))
    by r e false z = (
      record { bytes = f.bytes; request = r; is = e; clear = ap discovery_of (sym (read_first d r e).1) ∙ z },
      sym (eqb-true _ _ (asks-tag fits d r e (get_or d 0 0) refl z ∙ f.asked)),
    )

    go : (p : Reading Request) → read d ≡ p → Plain d × (tag_of (get_or d 0 0) ≡ new_tag s.sender)
    go (Refused r) e = absurd (false≢true (asks-wrong fits d r e ∙ f.asked))
    go (Means r) e = by r e (discovery_of (get_or d 0 0)) refl

-- an offer is accepted where there is room
pub offers-it : (s : Loader) (d : List ℕ) → s.sender.next < tag_count → s.sender.waiting < most → Offers s d
    → ends.offer s d ≡ record { sender = with_one s.sender; waiting = s.waiting ++ asked d ∷ [] }
offers-it s d n w f = ap (λ (r : Moved). offered_in r s d) (offer-fine s.sender d n w f.asked)

-- bytes that are some are handed back
handed-some : (d : List ℕ) → 0 < length d → handed d ≡ some d
handed-some [] h = absurd (omega arith)
handed-some (b ∷ bytes) h = refl

pub still : (s : Loader) → Still ends terms sight s s
still s = record { next = refl; waiting = refl }

-- a sender that is in order
module _ {s : Loader} (w : Waits ends terms sight window s) where
  pub agree : Agree s.sender s.waiting
  agree = to-agree s.sender s.waiting (agree-next s w.small).0

  pub next-is : next_by s ≡ s.sender.next
  next-is = (agree-next s w.small).1

  pub small : s.sender.next < tag_count
  small = omega (arith, next-is, w.small)

  long : length (seen s.waiting) ≡ s.sender.waiting
  long = seen-length s.waiting ∙ sym agree.many

  pub few : s.sender.waiting ≤ most
  few = omega (arith, long, w.few)

  pub fits-plain : {d : List ℕ} → Offers s d → Plain d × (tag_of (get_or d 0 0) ≡ (next_by s + length (seen s.waiting)) % 16)
  fits-plain {d} f =
      let p = offers-plain s d f in
      let t = tag-of s.sender (new_tag s.sender) small (new-small s.sender) in
      (p.0, p.1 ∙ sym t ∙ rw (new-place s.sender small few, next-is, long))

  pub offers-one : {d : List ℕ} → length (seen s.waiting) < window → Offers s d
      → (next_by (ends.offer s d) ≡ next_by s) × (seen (ends.offer s d).waiting ≡ seen s.waiting ++ asked d ∷ [])
  offers-one {d} room f =
      let e = offers-it s d small (omega (arith, long)) f in
      let a = one-agrees s.sender s.waiting d agree (omega (arith, seen-length s.waiting)) in (
        ap next_by e ∙ next-agreed _ a ∙ one-next s.sender ∙ sym next-is,
        ap (λ (u : Loader). seen u.waiting) e ∙ seen_more s.waiting d,
      )

  pub full-still : (d : List ℕ) → window ≤ length (seen s.waiting) → Still ends terms sight s (ends.offer s d)
  full-still d h =
      subst (λ (r : Moved). Still ends terms sight s (offered_in r s d)) (sym (offer-full s.sender d small (omega (arith, long, few)))) (still s)

  -- a message that waits at place p, answered or not
  module _ (p : ℕ) (d : List ℕ) where
    pub record There : Type 0 where
      pub inside : p < s.sender.waiting
      pub plain : Plain d
      pub tag : tag_of (get_or d 0 0) ≡ (s.sender.next + p) % tag_count
      pub place : place_in s.sender (tag_of (get_or d 0 0)) ≡ p
      pub waits : waits_for s.sender (tag_of (get_or d 0 0)) ≡ not (answered_at s.sender p)

    is-there : (x : Slot (List ℕ) Outcome) → get_elem? (seen s.waiting) p ≡ some x → message_in x ≡ d → There
    is-there x e m =
        let r = w.row p x e in
        let l : p < s.sender.waiting = omega (arith, inside (seen s.waiting) p x e, long) in
        let t : tag_of (get_or d 0 0) ≡ (s.sender.next + p) % tag_count =
        ap (λ (u : List ℕ). tag_of (get_or u 0 0)) (sym m) ∙ r.1 ∙ ap (λ (n : ℕ). (n + p) % tag_count) next-is in
        let n : p < tag_count = omega (arith, few) in
        record {
          inside = l;
          plain = subst Plain m r.0;
          tag = t;
          place = ap (place_in s.sender) t ∙ place_of s.sender p small n;
          waits = ap (waits_for s.sender) t ∙ waits-at s.sender p small n ∙ rw (lt-ltb p s.sender.waiting l);
        }

  -- one that is not answered
  module _ (p : ℕ) (d : List ℕ) (e : get_elem? s.waiting p ≡ some (asked d)) where
    pub here : There p d
    here = is-there p d (asked d) (asked-seen s.waiting p d e) refl

    unanswered : answered_at s.sender p ≡ false
    unanswered = agree.marks p ∙ ap answered_in e

    pub fine : (send_fault s.sender d).number ≡ 0
    fine =
        let h = here in
        send-fine s.sender d small (omega (arith, h.inside)) few
        (sym (asks-tag (waits_for s.sender) d h.plain.request h.plain.is (get_or d 0 0) refl (first-clear h.plain)) ∙ h.waits ∙ ap not unanswered)

    sends-lent : ends.send s p ≡ some d
    sends-lent =
        ap (send_at s.sender) e ∙ ap handed (sends-all s.sender d fine)
        ∙ handed-some d (read_first d here.plain.request here.plain.is).0.some

    -- no other that waits has its tag
    pub alone : (q : ℕ) (x : List ℕ) → get_elem? s.waiting q ≡ some (asked x) → tag_of (get_or x 0 0) ≡ tag_of (get_or d 0 0) → q ≡ p
    alone q x f t =
        let g = is-there q x (asked x) (asked-seen s.waiting q x f) refl in
        sym g.place ∙ ap (place_in s.sender) t ∙ here.place

  -- and one that is: it is not sent
  sends-answered : (p : ℕ) (d a : List ℕ) → get_elem? s.waiting p ≡ some (answered d a) → waits_for s.sender (tag_of (get_or d 0 0)) ≡ false
  sends-answered p d a e =
      let h = is-there p d (answered d (told d a)) (answered-seen s.waiting p d a e) refl in
      h.waits ∙ ap not (agree.marks p ∙ ap answered_in e)

  pub sends-it : {d : List ℕ} (p : ℕ) → get_elem? (seen s.waiting) p ≡ some (asked d) → ends.send s p ≡ some d
  sends-it {d} p e = sends-lent p d (asked-lent s.waiting p d e)

  pub sent-it : {x : List ℕ} (p : ℕ) → ends.send s p ≡ some x → (d : List ℕ) × (get_elem? (seen s.waiting) p ≡ some (asked d)) × (x ≡ d)
  sent-it {x} p q = go (get_elem? s.waiting p) refl q
    where
      go : (y : Option Waiting) → get_elem? s.waiting p ≡ y → send_at s.sender y ≡ some x
          → (d : List ℕ) × (get_elem? (seen s.waiting) p ≡ some (asked d)) × (x ≡ d)
      go none e z = let n : ◌≡◌ {A = ℕ} 0 1 = cc in absurd (omega arith)
      go (some (asked d)) e z =
          (d, asked-seen s.waiting p d e, some-injective x d (sym z ∙ ap (send_at s.sender) (sym e) ∙ sends-lent p d e))
      go (some (answered d a)) e z =
          let n = ap handed (sends_none s.sender d (away-fault s.sender d (sends-answered p d a e))) in
          let i : ◌≡◌ {A = ℕ} 0 1 = cc in absurd (omega arith)
