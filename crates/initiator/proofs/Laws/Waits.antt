-- Who waits and is not answered, once one more waits or an answer is accepted. Whoever stands above the sender cites these.
-- Assumes nothing.
use Prim.Native.Nat.{ℕ, ◌+◌, ◌-◌, ◌%◌, ◌≤◌, ◌<◌}
use mathlib.Core.Path.{◌≡◌, refl, sym, ap, subst, ◌∙◌}
use mathlib.Core.Bool.{Bool, true, false, not, cond, ◌&&◌, ◌||◌, and-eq-true_iff}
use native.Mathlib.Omega.{arith}
use borrow.Author.Tests.{ltb-true, ltb-false, lt-ltb, le-ltb, eqb-true, eqb-false, eq-eqb, ne_eqb}
use lib.Dec.{ltb, eqb}
use Rattle.header.specs.Limits.{tag_count}
use Rattle.header.specs.Refusal.{refusal}
use Rattle.initiator.specs.declared.sender.Sender.{Sender}
use Rattle.initiator.specs.declared.sender.Taken.{Taken}
use Rattle.initiator.specs.Places.{most, place_in, answered_at, waits_for, new_tag, with_one, marked, ending_of, without}
use Rattle.initiator.specs.Sender.{accepted_at}
use Rattle.initiator.proofs.Laws.Places.{place-small, place-first, first-place, tag-of, new-small, new-place, answered-oldest, answered-behind, one-next, one-waiting, one-answered, marked_next, marked-waiting, marked-answered, without-next, without-waiting, without-answered, Ending, ending-is, ending-within}

-- the place of a tag depends on the next tag alone
place-by : (s t : Sender) (tag : ℕ) → s.next ≡ t.next → place_in s tag ≡ place_in t tag
unfolding place_in
place-by s t tag e = rw e

-- who waits and is not answered, by the place
waits-is : (s : Sender) (tag : ℕ) {p w : ℕ} {b : Bool} → place_in s tag ≡ p → s.waiting ≡ w → answered_at s p ≡ b → waits_for s tag ≡ (ltb p w && not b)
unfolding waits_for
waits-is s tag {p} {w} {b} e f g =
    ap (λ (q : ℕ). ltb q s.waiting && not (answered_at s q)) e
    ∙ ap (λ (q : ℕ). ltb p q && not (answered_at s p)) f
    ∙ ap (λ (q : Bool). ltb p w && not q) g

-- two tags are one exactly if their places are
same_place : (s : Sender) (t u : ℕ) → s.next < tag_count → t < tag_count → u < tag_count → eqb t u ≡ eqb (place_in s t) (place_in s u)
same_place s t u n h k = go (eqb t u) refl
  where
    go : (b : Bool) → eqb t u ≡ b → b ≡ eqb (place_in s t) (place_in s u)
    go true e = sym (eq-eqb _ _ (ap (place_in s) (eqb-true t u e)))
    go false e =
        sym (ne_eqb _ _ (λ z. eqb-false t u e (sym (tag-of s t n h) ∙ ap (λ (p : ℕ). (s.next + p) % tag_count) z ∙ tag-of s u n k)))

-- truth tables
or-none : (b : Bool) → b ≡ (b || false)
or-none true = refl
or-none false = refl

and-all : (b : Bool) → b && true ≡ b
and-all true = refl
and-all false = refl

and_none : (b : Bool) → b && false ≡ false
and_none true = refl
and_none false = refl

not-or : (a b c : Bool) → a && not (b || c) ≡ (a && not c && not b)
not-or true true c = sym (and_none (not c))
not-or true false c = sym (and-all (not c))
not-or false b c = refl

both-less : (p w e : ℕ) → e ≤ p → e ≤ w → ltb (p - e) (w - e) ≡ ltb p w
both-less p w e h k = go (ltb p w) refl
  where
    go : (b : Bool) → ltb p w ≡ b → ltb (p - e) (w - e) ≡ b
    go true x = let l = ltb-true p w x in lt-ltb (p - e) (w - e) (omega arith)
    go false x = let l = ltb-false p w x in le-ltb (p - e) (w - e) (omega arith)

-- two places modulo 16, one e behind the other
apart-on : (a p e : ℕ) → a < 16 → p < 16 → e ≤ p → ((a + p) % 16 + 16 - (a + e) % 16) % 16 ≡ p - e
apart-on a p e ha hp l = omega arith

apart-back : (a p e : ℕ) → a < 16 → e ≤ 4 → p < e → 12 ≤ ((a + p) % 16 + 16 - (a + e) % 16) % 16
apart-back a p e ha he l = omega arith

module _ (s : Sender) (n : s.next < tag_count) (w : s.waiting ≤ most) (tag : ℕ) (h : tag < tag_count) where
  abbrev p : ℕ
  p = place_in s tag

  -- as it was
  was : waits_for s tag ≡ (ltb p s.waiting && not (answered_at s p))
  was = waits-is s tag refl refl refl

  -- one more: it too
  pub one-waits : s.waiting < most → waits_for (with_one s) tag ≡ (waits_for s tag || eqb tag (new_tag s))
  one-waits l =
      waits-is (with_one s) tag (place-by (with_one s) s tag (one-next s)) (one-waiting s) (one-answered s l p)
      ∙ go (ltb p s.waiting) refl
      ∙ ap (λ (b : Bool). b || eqb p s.waiting) (sym was)
      ∙ ap (λ (b : Bool). waits_for s tag || b) (sym (same_place s tag (new_tag s) n h (new-small s) ∙ ap (eqb p) (new-place s n w)))
    where
      at : (b : Bool) → eqb p s.waiting ≡ b → s.waiting ≤ p → ltb p (s.waiting + 1) && true ≡ b
      at true e k = let q = eqb-true p s.waiting e in rw (lt-ltb p (s.waiting + 1) (omega arith))
      at false e k = rw (le-ltb p (s.waiting + 1) (omega (arith, eqb-false p s.waiting e)))

      go : (b : Bool) → ltb p s.waiting ≡ b → ltb p (s.waiting + 1) && not (answered_at s p) ≡ (ltb p s.waiting && not (answered_at s p) || eqb p s.waiting)
      go true e =
          let k = ltb-true p s.waiting e in
          rw (e, lt-ltb p (s.waiting + 1) (omega arith), ne_eqb p s.waiting (λ (q : p ≡ s.waiting). omega arith)) (or-none (not (answered_at s p)))
      go false e =
          let k = ltb-false p s.waiting e in
          rw (e, answered-behind s p k) (at (eqb p s.waiting) refl k)

  -- one that waits is answered: all but it
  module _ (t : ℕ) (u : t < tag_count) (place : ℕ) (is : place_in s t ≡ place) where
    then : waits_for s tag && not (eqb tag t) ≡ (ltb p s.waiting && not (answered_at s p) && not (eqb p place))
    then = ap (λ (b : Bool). b && not (eqb tag t)) was ∙ ap (λ (b : Bool). ltb p s.waiting && not (answered_at s p) && not b) (same_place s tag t n h u ∙ ap (eqb p) is)

    pub marked-waits : 0 < place → place < s.waiting → waits_for (marked s place) tag ≡ (waits_for s tag && not (eqb tag t))
    marked-waits some l =
        waits-is (marked s place) tag (place-by (marked s place) s tag (marked_next s place)) (marked-waiting s place) (marked-answered s place w some l p)
        ∙ not-or (ltb p s.waiting) (eqb p place) (answered_at s p) ∙ sym then

    module _ (first : place ≡ 0) (e : ℕ) (ends : Ending s e) (within : e ≤ s.waiting) where
      -- the place of a tag among those that are left
      left : place_in (without s e) tag ≡ ((s.next + p) % tag_count + tag_count - (s.next + e) % tag_count) % tag_count
      unfolding place_in
      left = rw (without-next s e, tag-of s tag n h)

      stays : e ≤ p → waits_for (without s e) tag ≡ (ltb (p - e) (s.waiting - e) && not (answered_at s (p - e + e)))
      stays l =
          waits-is (without s e) tag (left ∙ apart-on s.next p e n (place-small s tag) l) (without-waiting s e)
          (without-answered s e w ends.stops (p - e))

      pub without-waits : waits_for (without s e) tag ≡ (waits_for s tag && not (eqb tag t))
      without-waits = go (ltb p e) refl ∙ sym then
        where
          ended : (b : Bool) → eqb p place ≡ b → p < e → false ≡ (ltb p s.waiting && not (answered_at s p) && not b)
          ended true x l = sym (and_none (ltb p s.waiting && not (answered_at s p)))
          ended false x l =
              let a : answered_at s p ≡ true = ends.all p (omega (arith, eqb-false p place x)) l in
              rw (a, and_none (ltb p s.waiting))

          go : (b : Bool) → ltb p e ≡ b → waits_for (without s e) tag ≡ (ltb p s.waiting && not (answered_at s p) && not (eqb p place))
          go true x =
              let l = ltb-true p e x in
              let far : s.waiting - e ≤ place_in (without s e) tag = rw left (omega (arith, apart-back s.next p e n ends.few l)) in
              waits-is (without s e) tag refl (without-waiting s e) refl ∙ rw (le-ltb (place_in (without s e) tag) (s.waiting - e) far) (ended (eqb p place) refl l)
          go false x =
              let l = ltb-false p e x in
              let back : p - e + e ≡ p = omega arith in
              stays l ∙ rw (back, both-less p s.waiting e l within, ne_eqb p place (λ (q : p ≡ place). omega (arith, ends.some)))
              (sym (and-all (ltb p s.waiting && not (answered_at s p))))

-- what an accepted answer to the oldest is, and to a younger one
module _ (s : Sender) (place : ℕ) where
  pub accepted-oldest : place ≡ 0 → accepted_at s place ≡ record { refusal = refusal 0; sender = without s (ending_of s); ended = ending_of s }
  unfolding accepted_at
  accepted-oldest e = rw e

  pub accepted-younger : 0 < place → accepted_at s place ≡ record { refusal = refusal 0; sender = marked s place; ended = 0 }
  unfolding accepted_at
  accepted-younger h = rw (ne_eqb place 0 (λ (e : place ≡ 0). omega arith))

  pub accepted-none : (accepted_at s place).refusal ≡ refusal 0
  unfolding accepted_at
  accepted-none = go (eqb place 0)
    where
      go : (b : Bool) → (cond {A = Taken} b (record { refusal = refusal 0; sender = without s (ending_of s); ended = ending_of s })
          (record { refusal = refusal 0; sender = marked s place; ended = 0 })).refusal ≡ refusal 0
      go true = refl
      go false = refl

-- and what it does
pub record Does (s : Sender) (tag : ℕ) (taken : Taken) : Type 0 where
  pub oldest : tag ≡ s.next → 0 < taken.ended
  pub younger : (tag ≡ s.next → ⊥) → taken.ended ≡ 0
  pub waiting : taken.sender.waiting + taken.ended ≡ s.waiting
  pub next : taken.sender.next ≡ (s.next + taken.ended) % tag_count
  pub waits : (t : ℕ) → t < tag_count → waits_for taken.sender t ≡ (waits_for s t && not (eqb t tag))

module _ (s : Sender) (n : s.next < tag_count) (w : s.waiting ≤ most) (tag : ℕ) (h : tag < tag_count) (still : waits_for s tag ≡ true) where
  inside : place_in s tag < s.waiting
  unfolding waits_for
  inside = ltb-true _ _ ((and-eq-true_iff (ltb (place_in s tag) s.waiting) (not (answered_at s (place_in s tag)))).0 still).0

  pub does : Does s tag (accepted_at s (place_in s tag))
  does = go (eqb (place_in s tag) 0) refl
    where
      go : (b : Bool) → eqb (place_in s tag) 0 ≡ b → Does s tag (accepted_at s (place_in s tag))
      go true e =
          let z = eqb-true (place_in s tag) 0 e in
          let ends = ending-is s in
          let within = ending-within s (omega (arith, inside)) in
          subst (Does s tag) (sym (accepted-oldest s (place_in s tag) z))
          (record {
            oldest = λ q. ends.some;
            younger = λ q. absurd (q (place-first s tag n h z));
            waiting = rw (without-waiting s (ending_of s)) (omega arith);
            next = without-next s (ending_of s);
            waits = λ t k. without-waits s n w t k tag h (place_in s tag) refl z (ending_of s) ends within;
          })
      go false e =
          let some : 0 < place_in s tag = omega (arith, eqb-false (place_in s tag) 0 e) in
          subst (Does s tag) (sym (accepted-younger s (place_in s tag) some))
          (record {
            oldest = λ q. absurd (eqb-false (place_in s tag) 0 e (first-place s tag n q));
            younger = λ q. refl;
            waiting = rw (marked-waiting s (place_in s tag)) (omega arith);
            next = rw (marked_next s (place_in s tag)) (omega arith);
            waits = λ t k. marked-waits s n w t k tag h (place_in s tag) refl some inside;
          })

-- where none waits, no tag is one's that waits
pub none-waits : (s : Sender) (tag : ℕ) → s.waiting ≡ 0 → waits_for s tag ≡ false
none-waits s tag e = waits-is s tag refl e refl ∙ rw (le-ltb (place_in s tag) 0 (omega arith))

-- where one waits, the oldest waits and is not answered
pub oldest-waits : (s : Sender) → s.next < tag_count → 0 < s.waiting → waits_for s s.next ≡ true
oldest-waits s n some =
    waits-is s s.next (first-place s s.next n refl) refl (answered-oldest s) ∙ rw (lt-ltb 0 s.waiting some)
