-- The facts about taking answers, and that `take` is lent the only message that it can accept. Assumes nothing.
use Prim.Native.Nat.{ℕ, zero, suc, ◌+◌, ◌-◌, ◌%◌, ◌<◌}
use mathlib.Core.Path.{◌≡◌, refl, sym, ap, subst, ◌∙◌}
use mathlib.Core.Bool.{Bool, true, false, not, ◌||◌, false≢true}
use mathlib.Core.Option.{Option, none, some}
use mathlib.Core.List.{List, []}
use native.Mathlib.Omega.{arith}
use native.Mathlib.Decide.{ℕ_discrete}
use borrow.Author.Tests.{eq-eqb, ltb-true, ne_eqb}
use lib.Dec.{eqb, ltb}
use lib.ListN.{get_or, get_elem?, take, drop, length-drop}
use Rattle.header.specs.Limits.{tag_count}
use Rattle.header.specs.Header.{tag_of}
use Rattle.header.specs.Refusal.{refusal}
use Rattle.initiator.specs.declared.sender.Sender.{Sender}
use Rattle.initiator.specs.declared.sender.Taken.{Taken}
use Rattle.initiator.specs.Places.{place_in, answered_at, waits_for, marked, ending_of, without}
use Rattle.initiator.specs.Sender.{accepted_at, take_of}
use Rattle.initiator.proofs.Laws.Places.{place-small, tag-of, waits-at, answered-oldest, Ending, ending-is, marked_next, marked-waiting, marked-answered, without-next, without-waiting, without-answered}
use Rattle.initiator.proofs.Laws.Waits.{accepted-oldest, accepted-younger}
use Rattle.initiator.proofs.Laws.Promises.{only-its-own}
use Rattle.initiator.proofs.Laws.Checked.{take-accepts, take-refuses}
use Rattle.once.specs.Tags.{asked, answered, mark, ready, rest, Waits, Turned, Ended}
use Rattle.once.proofs.Checked.{both_true}
use Rattle.once.proofs.Lists.{there}
use Rattle.exchange.specs.Outcomes.{Outcome}
use Rattle.exchange.specs.Ends.{Waiting, Loader, ends, awaits, with_answer, outcomes_in, taken_in, take_by}
use Rattle.exchange.specs.Terms.{Plain, terms}
use Rattle.exchange.specs.Promise.{window, RefusedStill}
use Rattle.exchange.specs.Sight.{Answers, Strange, seen, sight}
use Rattle.exchange.proofs.Codec.{encodes-judged, judged-headed, other-kind, own-judged, own-tag, own-told}
use Rattle.exchange.proofs.Waiting.{answered_in, Agree, next-agreed, asked-lent, asked-seen, awaits-none, awaits-some, Answering, answering, Cut, cut, behind-cut}
use Rattle.exchange.proofs.Sender.{agree, next-is, small, few, still, here, fine, alone}

turned : (s : Loader) (r : Loader × List Outcome) → r ≡ (s, []) → Turned ends terms sight s r
turned s r e = record { nothing = ap (λ u. u.1) e; still = rw e (still s) }

-- a sender that is in order
module _ {s : Loader} (w : Waits ends terms sight window s) where
  -- The message of place p is answered by a, and so many end with it.
  module _ (p : ℕ) {d : List ℕ} (e : get_elem? s.waiting p ≡ some (asked d)) {o : Outcome} {a : List ℕ} (h : Answers d o a) where
    abbrev then : List Waiting
    then = with_answer (tag_of (get_or a 0 0)) a s.waiting

    answers : Answering s.waiting p (tag_of (get_or a 0 0)) d a
    answers =
        let g = own-tag (here w p d e).plain h in
        answering s.waiting p (tag_of (get_or a 0 0)) d a e (sym g)
        (λ q x k f z. let i = alone w p d e q x f (z ∙ g) in omega arith)

    seen-then : seen then ≡ mark p o (seen s.waiting)
    seen-then = answers.seen ∙ ap (λ (u : Outcome). mark p u (seen s.waiting)) (own-told (here w p d e).plain h)

    -- whoever was answered, and it
    marks : (q : ℕ) → answered_in (get_elem? then q) ≡ (eqb q p || answered_at s.sender q)
    marks q = answers.marks q ∙ ap (λ (b : Bool). eqb q p || b) (sym ((agree w).marks q))

    closes : (s' : Sender) (n : ℕ) → s'.next ≡ (s.sender.next + n) % tag_count → Agree s' (drop n then) → Cut n then
        → Ended ends terms sight s p o (record { sender = s'; waiting = drop n then }, outcomes_in (take n then))
    closes s' n f g c =
        record {
          outcomes = c.outcomes ∙ ap ready seen-then;
          next =
              next-agreed (record { sender = s'; waiting = drop n then }) g ∙ f
              ∙ rw (← seen-then, c.many, next-is w);
          waiting = c.left ∙ ap rest seen-then;
        }

    takes : take_of s.sender d a ≡ accepted_at s.sender p
    takes =
        take-accepts s.sender d a (fine w p d e) h.items (own-judged (here w p d e).plain h)
        ∙ ap (accepted_at s.sender) (here w p d e).place

    take-is : ends.take s a ≡ taken_in (accepted_at s.sender p) s then
    take-is = ap (λ (m : Option (List ℕ)). take_by m s a) answers.awaited ∙ ap (λ (r : Taken). taken_in r s then) takes

    -- the oldest, and the answered ones right behind it
    oldest : p ≡ 0 → Ended ends terms sight s p o (taken_in (accepted_at s.sender p) s then)
    oldest z = rw (accepted-oldest s.sender p z) (closes (without s.sender n) n (without-next s.sender n) agrees (cut n then before stops))
      where
        n : ℕ
        n = ending_of s.sender

        are : Ending s.sender n
        are = ending-is s.sender

        -- behind the oldest, nothing is answered that was not
        same : (q : ℕ) → 0 < q → answered_in (get_elem? then q) ≡ answered_at s.sender q
        same q l = marks q ∙ rw (ne_eqb q p (λ (i : q ≡ p). omega (arith, z)))

        before : (q : ℕ) → q < n → answered_in (get_elem? then q) ≡ true
        before zero l = marks 0 ∙ rw (eq-eqb 0 p (sym z))
        before (suc q) l = same (suc q) (omega arith) ∙ are.all (suc q) (omega arith) l

        stops : answered_in (get_elem? then n) ≡ false
        stops = same n are.some ∙ are.stops

        agrees : Agree (without s.sender n) (drop n then)
        agrees =
            record {
              many = without-waiting s.sender n ∙ ap (λ (k : ℕ). k - n) ((agree w).many ∙ sym answers.long) ∙ sym (length-drop n then);
              marks =
                  λ q.
                  without-answered s.sender n (few w) are.stops q ∙ sym (same (q + n) (omega (arith, are.some)))
                  ∙ ap answered_in (sym (behind-cut n then q));
            }

    -- a younger one, which waits on
    younger : 0 < p → Ended ends terms sight s p o (taken_in (accepted_at s.sender p) s then)
    younger l = rw (accepted-younger s.sender p l) (closes (marked s.sender p) 0 next agrees (cut 0 then (λ q k. absurd (omega arith)) stops))
      where
        next : (marked s.sender p).next ≡ (s.sender.next + 0) % tag_count
        next = marked_next s.sender p ∙ omega (arith, small w)

        stops : answered_in (get_elem? then 0) ≡ false
        stops = marks 0 ∙ rw (ne_eqb 0 p (λ (i : 0 ≡ p). omega arith)) (answered-oldest s.sender)

        agrees : Agree (marked s.sender p) then
        agrees =
            record {
              many = marked-waiting s.sender p ∙ (agree w).many ∙ sym answers.long;
              marks = λ q. marked-answered s.sender p (few w) l (here w p d e).inside q ∙ sym (marks q);
            }

    ended : Ended ends terms sight s p o (ends.take s a)
    ended = subst (Ended ends terms sight s p o) (sym take-is) (go (ℕ_discrete p 0))
      where
        go : Dec (p ≡ 0) → Ended ends terms sight s p o (taken_in (accepted_at s.sender p) s then)
        go (yes z) = oldest z
        go (no z) = younger (omega arith)

  pub ends-own : {d : List ℕ} {o : Outcome} {a : List ℕ} (p : ℕ) → get_elem? (seen s.waiting) p ≡ some (asked d) → Answers d o a
      → Ended ends terms sight s p o (ends.take s a)
  ends-own {d} p e h = ended p (asked-lent s.waiting p d e) h

  -- an answer to none of them
  pub refuses-other : {e : List ℕ} {o : Outcome} {a : List ℕ} → Plain e → Answers e o a
      → ((p : ℕ) (d : List ℕ) → get_elem? (seen s.waiting) p ≡ some (asked d) → tag_of (get_or e 0 0) ≡ tag_of (get_or d 0 0) → ⊥)
      → Turned ends terms sight s (ends.take s a)
  refuses-other {e} {o} {a} p h n =
      turned s _ (ap (λ (m : Option (List ℕ)). take_by m s a) (awaits-none (tag_of (get_or a 0 0)) s.waiting none_has))
    where
      none_has : (q : ℕ) (d : List ℕ) → get_elem? s.waiting q ≡ some (asked d) → tag_of (get_or d 0 0) ≡ tag_of (get_or a 0 0) → ⊥
      none_has q d f t = n q d (asked-seen s.waiting q d f) (sym (own-tag p h) ∙ sym t)

  -- an answer to a discovery: where its tag is that of one that waits, it is 33
  pub refuses-strange : {a : List ℕ} → Strange a → Turned ends terms sight s (ends.take s a)
  refuses-strange {a} h = go (awaits (tag_of (get_or a 0 0)) s.waiting) refl
    where
      go : (m : Option (List ℕ)) → awaits (tag_of (get_or a 0 0)) s.waiting ≡ m → Turned ends terms sight s (take_by m s a)
      go none e = turned s _ refl
      go (some d) e =
          let f = awaits-some (tag_of (get_or a 0 0)) s.waiting d e in
          let p = (here w f.0 d f.1).plain in
          let j = judged-headed h.request a h.items (encodes-judged h.fits h.encodes) in
          let g = other-kind p h.request j (λ z. false≢true (sym p.clear ∙ sym z ∙ h.finds)) in
          let r = take-refuses s.sender d a (fine w f.0 d f.1) (refusal 33) g in
          turned s _ (ap (λ (r : Taken). taken_in r s (with_answer (tag_of (get_or a 0 0)) a s.waiting)) r)

  -- a tag that waits and is not answered is that of the message which is awaited
  awaited : (t : ℕ) → t < tag_count → waits_for s.sender t ≡ true → (d : List ℕ) × (awaits t s.waiting ≡ some d) × (tag_of (get_or d 0 0) ≡ t)
  awaited t k f = go (there s.waiting p (omega (arith, ltb-true p s.sender.waiting h.0, (agree w).many)))
    where
      p : ℕ
      p = place_in s.sender t

      is : (s.sender.next + p) % tag_count ≡ t
      is = tag-of s.sender t (small w) k

      h : (ltb p s.sender.waiting ≡ true) × (not (answered_at s.sender p) ≡ true)
      h = both_true _ _ (sym (waits-at s.sender p (small w) (place-small s.sender t)) ∙ ap (waits_for s.sender) is ∙ f)

      go : (x : Waiting) × (get_elem? s.waiting p ≡ some x) → (d : List ℕ) × (awaits t s.waiting ≡ some d) × (tag_of (get_or d 0 0) ≡ t)
      go (asked d, e) =
          let g = (here w p d e).tag ∙ is in
          (d, (answering s.waiting p t d [] e g (λ q x l r z. let i = alone w p d e q x r (z ∙ sym g) in omega arith)).awaited, g)
      go (answered d a, e) = absurd (false≢true (sym (ap not ((agree w).marks p ∙ ap answered_in e)) ∙ h.1))

  -- whichever other message is lent, it is refused
  pub only-own : (m a : List ℕ) → ((d : List ℕ) → awaits (tag_of (get_or a 0 0)) s.waiting ≡ some d → tag_of (get_or m 0 0) ≡ tag_of (get_or d 0 0) → ⊥)
      → RefusedStill s.sender (take_of s.sender m a)
  only-own m a n = let k = (only-its-own s.sender m a).keeps refused in record { refused = refused; sender = k.0; ended = k.1 }
    where
      refused : (take_of s.sender m a).refusal.number ≡ 0 → ⊥
      refused z =
          let t = (only-its-own s.sender m a).own z in
          let d = awaited (tag_of (get_or m 0 0)) (omega arith) t.0 in
          n d.0 (ap (λ (k : ℕ). awaits k s.waiting) t.1 ∙ d.1) (sym d.2)
