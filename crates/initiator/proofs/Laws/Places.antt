-- Places, marks and what ends, and the records after it. The proofs of the sender's functions, and whoever stands above it,
-- cite these. Assumes nothing.
use Prim.Native.Nat.{ℕ, zero, suc, ◌+◌, ◌-◌, ◌%◌, ◌≤◌, ◌<◌}
use mathlib.Core.Path.{◌≡◌, refl, sym, ap, ◌∙◌}
use mathlib.Core.Logic.{◌⊎◌, inl, inr}
use mathlib.Core.Bool.{Bool, true, false, not, ◌&&◌, ◌||◌, and-eq-true_iff}
use native.Mathlib.Omega.{arith}
use native.Mathlib.Nat.{zero-add}
use borrow.Author.Tests.{ltb-true, ltb-false, leb-true, lt-ltb, le-ltb, le-leb, ne_eqb}
use lib.Dec.{ltb, leb, eqb}
use Rattle.word.proofs.Rules.{tests}
use Rattle.header.specs.Limits.{tag_count}
use Rattle.header.specs.Refusal.{unless}
use Rattle.initiator.specs.declared.sender.Sender.{Sender}
use Rattle.initiator.specs.Places.{most, sender_ok, has_room, place_in, mark_at, answered_at, waits_for, new_tag, record_of, with_one, marked, ending_of, without}

module _ (s : Sender) where
  -- 37: the next tag and the number that wait
  pub ok-next : sender_ok s ≡ true → s.next < tag_count
  unfolding sender_ok
  ok-next e = ltb-true _ _ ((and-eq-true_iff (ltb s.next tag_count) (leb s.waiting most)).0 e).0

  pub ok-few : sender_ok s ≡ true → s.waiting ≤ most
  unfolding sender_ok
  ok-few e = leb-true _ _ ((and-eq-true_iff (ltb s.next tag_count) (leb s.waiting most)).0 e).1

  pub ok-is : s.next < tag_count → s.waiting ≤ most → sender_ok s ≡ true
  unfolding sender_ok
  ok-is n w = rw (lt-ltb s.next tag_count n, le-leb s.waiting most w)

  pub ok-not : tag_count ≤ s.next ⊎ ((s.next < tag_count) × (most < s.waiting)) → sender_ok s ≡ false
  unfolding sender_ok
  ok-not (inl n) = search tests
  ok-not (inr w) = search tests

  -- 36
  pub room-few : has_room s ≡ true → s.waiting < most
  unfolding has_room
  room-few e = ltb-true _ _ e

  pub room-is : s.waiting < most → has_room s ≡ true
  unfolding has_room
  room-is w = lt-ltb s.waiting most w

  pub room-none : s.waiting ≡ most → has_room s ≡ false
  unfolding has_room
  room-none w = le-ltb s.waiting most (omega arith)

  -- a place and its tag
  pub place-small : (tag : ℕ) → place_in s tag < tag_count
  unfolding place_in
  place-small tag = omega arith

  pub place_of : (p : ℕ) → s.next < tag_count → p < tag_count → place_in s ((s.next + p) % tag_count) ≡ p
  unfolding place_in
  place_of p n h = omega arith

  pub tag-of : (tag : ℕ) → s.next < tag_count → tag < tag_count → (s.next + place_in s tag) % tag_count ≡ tag
  unfolding place_in
  tag-of tag n h = omega arith

  pub place-first : (tag : ℕ) → s.next < tag_count → tag < tag_count → place_in s tag ≡ 0 → tag ≡ s.next
  unfolding place_in
  place-first tag n h e = omega arith

  pub first-place : (tag : ℕ) → s.next < tag_count → tag ≡ s.next → place_in s tag ≡ 0
  unfolding place_in
  first-place tag n e = omega arith

  pub new_is : new_tag s ≡ (s.next + s.waiting) % tag_count
  unfolding new_tag
  new_is = refl

  pub new-small : new_tag s < tag_count
  unfolding new_tag
  new-small = omega arith

  pub new-place : s.next < tag_count → s.waiting ≤ most → place_in s (new_tag s) ≡ s.waiting
  unfolding new_tag
  new-place n w = place_of s.waiting n (omega arith)

  -- no place but the three has a mark
  pub mark-none : (p : ℕ) → (p ≡ 1 → ⊥) → (p ≡ 2 → ⊥) → (p ≡ 3 → ⊥) → false ≡ mark_at s p
  unfolding mark_at
  mark-none zero a b c = refl
  mark-none (suc zero) a b c = absurd (a refl)
  mark-none (suc (suc zero)) a b c = absurd (b refl)
  mark-none (suc (suc (suc zero))) a b c = absurd (c refl)
  mark-none (suc (suc (suc (suc p)))) a b c = refl

  -- what is answered waits; the oldest is not answered, and nothing from the fifth place on
  pub answered-waits : (p : ℕ) → answered_at s p ≡ true → p < s.waiting
  unfolding answered_at
  answered-waits p e = ltb-true _ _ ((and-eq-true_iff (ltb p s.waiting) (mark_at s p)).0 e).0

  pub answered-behind : (p : ℕ) → s.waiting ≤ p → answered_at s p ≡ false
  unfolding answered_at
  answered-behind p h = rw (le-ltb p s.waiting h)

  unmarked : (p : ℕ) → mark_at s p ≡ false → answered_at s p ≡ false
  unfolding answered_at
  unmarked p e = rw e (go (ltb p s.waiting))
    where
      go : (b : Bool) → b && false ≡ false
      go true = refl
      go false = refl

  pub answered-oldest : answered_at s 0 ≡ false
  answered-oldest = unmarked 0 (sym (mark-none 0 (λ e. omega arith) (λ e. omega arith) (λ e. omega arith)))

  pub answered-past : (p : ℕ) → most ≤ p → answered_at s p ≡ false
  answered-past p h = unmarked p (sym (mark-none p (λ e. omega arith) (λ e. omega arith) (λ e. omega arith)))

  -- who waits and is not answered, by its place
  pub waits-at : (p : ℕ) → s.next < tag_count → p < tag_count → waits_for s ((s.next + p) % tag_count) ≡ (ltb p s.waiting && not (answered_at s p))
  unfolding waits_for
  waits-at p n h = rw (place_of p n h)

-- so many end with the oldest: all in between are answered, and the one behind them is not
pub record Ending (s : Sender) (n : ℕ) : Type 0 where
  pub some : 0 < n
  pub few : n ≤ most
  pub all : (p : ℕ) → 0 < p → p < n → answered_at s p ≡ true
  pub stops : answered_at s n ≡ false

between : (s : Sender) (n : ℕ) → n ≤ most → (1 < n → answered_at s 1 ≡ true) → (2 < n → answered_at s 2 ≡ true) → (3 < n → answered_at s 3 ≡ true)
    → (p : ℕ) → 0 < p → p < n → answered_at s p ≡ true
between s n few a b c zero h k = absurd (omega arith)
between s n few a b c (suc zero) h k = a k
between s n few a b c (suc (suc zero)) h k = b k
between s n few a b c (suc (suc (suc zero))) h k = c k
between s n few a b c (suc (suc (suc (suc p)))) h k = absurd (omega arith)

pub ending-is : (s : Sender) → Ending s (ending_of s)
unfolding ending_of
ending-is s = go (answered_at s 1) refl (answered_at s 2) refl (answered_at s 3) refl
  where
    made : (n : ℕ) → 0 < n → n ≤ most → (1 < n → answered_at s 1 ≡ true) → (2 < n → answered_at s 2 ≡ true) → (3 < n → answered_at s 3 ≡ true) → answered_at s n ≡ false → Ending s n
    made n h k a b c e = record { some = h; few = k; all = between s n k a b c; stops = e }

    go : (a : Bool) → answered_at s 1 ≡ a → (b : Bool) → answered_at s 2 ≡ b → (c : Bool) → answered_at s 3 ≡ c → Ending s (unless a 1 (unless b 2 (unless c 3 4)))
    go false x b y c z = made 1 (omega arith) (omega arith) (λ h. absurd (omega arith)) (λ h. absurd (omega arith)) (λ h. absurd (omega arith)) x
    go true x false y c z = made 2 (omega arith) (omega arith) (λ h. x) (λ h. absurd (omega arith)) (λ h. absurd (omega arith)) y
    go true x true y false z = made 3 (omega arith) (omega arith) (λ h. x) (λ h. y) (λ h. absurd (omega arith)) z
    go true x true y true z = made 4 (omega arith) (omega arith) (λ h. x) (λ h. y) (λ h. z) (answered-past s 4 (omega arith))

pub ending-within : (s : Sender) → 0 < s.waiting → ending_of s ≤ s.waiting
ending-within s w = go (ending_of s) (ending-is s)
  where
    go : (n : ℕ) → Ending s n → n ≤ s.waiting
    go zero e = omega arith
    go (suc zero) e = omega arith
    go (suc (suc n)) e = let l = answered-waits s (suc n) (e.all (suc n) (omega arith) (omega arith)) in omega arith

-- the marks of a record that is made from what is answered
module _ (next waiting : ℕ) (answered : ℕ → Bool) where
  pub record-marks : (p : ℕ) → 0 < p → p < most → mark_at (record_of next waiting answered) p ≡ answered p
  unfolding mark_at
  record-marks zero h k = absurd (omega arith)
  record-marks (suc zero) h k = refl
  record-marks (suc (suc zero)) h k = refl
  record-marks (suc (suc (suc zero))) h k = refl
  record-marks (suc (suc (suc (suc p)))) h k = absurd (omega arith)

  -- so what is answered there, if the oldest is not, and nothing that does not wait
  pub record-answered : answered 0 ≡ false → ((p : ℕ) → waiting ≤ p → answered p ≡ false) → waiting ≤ most
      → (p : ℕ) → answered_at (record_of next waiting answered) p ≡ answered p
  unfolding answered_at
  record-answered z none few p = go p (ltb p waiting) refl
    where
      go : (p : ℕ) (b : Bool) → ltb p waiting ≡ b → ltb p waiting && mark_at (record_of next waiting answered) p ≡ answered p
      go p false e = rw e (sym (none p (ltb-false p waiting e)))
      go zero true e = answered-oldest (record_of next waiting answered) ∙ sym z
      go (suc p) true e = let l = ltb-true (suc p) waiting e in rw e (record-marks (suc p) (omega arith) (omega arith))

-- one more waits
module _ (s : Sender) where
  pub one-next : (with_one s).next ≡ s.next
  unfolding with_one
  one-next = refl

  pub one-waiting : (with_one s).waiting ≡ s.waiting + 1
  unfolding with_one
  one-waiting = refl

  pub one-answered : s.waiting < most → (p : ℕ) → answered_at (with_one s) p ≡ answered_at s p
  unfolding with_one
  one-answered w = record-answered s.next (s.waiting + 1) (answered_at s) (answered-oldest s) (λ p h. answered-behind s p (omega arith)) (omega arith)

-- a younger one is answered
module _ (s : Sender) (place : ℕ) where
  pub marked_next : (marked s place).next ≡ s.next
  unfolding marked
  marked_next = refl

  pub marked-waiting : (marked s place).waiting ≡ s.waiting
  unfolding marked
  marked-waiting = refl

  pub marked-answered : s.waiting ≤ most → 0 < place → place < s.waiting → (p : ℕ) → answered_at (marked s place) p ≡ (eqb p place || answered_at s p)
  unfolding marked
  marked-answered w some l p =
      record-answered s.next s.waiting (λ q. eqb q place || answered_at s q)
      (rw (ne_eqb 0 place (λ e. omega arith)) (answered-oldest s))
      (λ q h. rw (ne_eqb q place (λ e. omega arith)) (answered-behind s q h)) w p

-- so many end
module _ (s : Sender) (n : ℕ) where
  pub without-next : (without s n).next ≡ (s.next + n) % tag_count
  unfolding without
  without-next = refl

  pub without-waiting : (without s n).waiting ≡ s.waiting - n
  unfolding without
  without-waiting = refl

  pub without-answered : s.waiting ≤ most → answered_at s n ≡ false → (p : ℕ) → answered_at (without s n) p ≡ answered_at s (p + n)
  unfolding without
  without-answered w stops =
      let first : answered_at s (0 + n) ≡ false = ap (answered_at s) (zero-add n) ∙ stops in
      record-answered ((s.next + n) % tag_count) (s.waiting - n) (λ p. answered_at s (p + n)) first
      (λ p h. answered-behind s (p + n) (omega arith)) (omega arith)
