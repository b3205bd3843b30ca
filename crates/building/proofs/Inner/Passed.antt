-- What a record and a command that nothing is wrong with are like. The proofs of `build`, of reachability and of what is built
-- cite these. Assumes nothing.
use Prim.Native.Nat.{ℕ, ◌+◌, ◌<◌, ◌≤◌}
use mathlib.Core.Path.{◌≡◌, refl}
use mathlib.Core.Bool.{Bool, true, false, not, cond, ◌&&◌, and-eq-true_iff}
use native.Mathlib.Omega.{arith}
use borrow.Author.Tests.{ltb-true, leb-true, eqb-true, eqb-false, ne_eqb, not-true}
use lib.Dec.{eqb}
use Rattle.header.specs.declared.Kind.{Kind}
use Rattle.header.specs.Limits.{limit, limit_bytes}
use Rattle.header.specs.Header.{kind_of, wide_of, address_words}
use Rattle.header.specs.Refusal.{refusal}
use Rattle.header.proofs.Laws.Refusal.{passed, number_is}
use Rattle.message.specs.Faults.{count_ok, pattern_ok}
use Rattle.building.specs.declared.record.Building.{Building}
use Rattle.building.specs.declared.asked.Asked.{Asked}
use Rattle.building.specs.Record.{start_ok, byte0_by, fresh_ok, shape_ok, some_ok, reachable}
use Rattle.building.specs.Asked.{count_by, count_fits, fields_ok, enables_fit, address_fits, size_by, reply_by, room_fits, command_fault}
use Rattle.building.specs.Build.{long_ok, usable, add_fault, close_fault}

-- two tests that both pass
pub both : (a b : Bool) → a && b ≡ true → (a ≡ true) × (b ≡ true)
both a b e = (and-eq-true_iff a b).0 e

-- a call that was not refused
pub unrefused : {n : ℕ} → refusal n ≡ refusal 0 → n ≡ 0
unrefused e = number_is e

-- a number that is not 0
pub off_zero : {n : ℕ} → eqb n 0 ≡ false → n ≡ 0 → ⊥
off_zero {n} z e = eqb-false n 0 z e

pub start-tag : (kind tag : ℕ) → start_ok kind tag ≡ true → (kind < 3) × (tag < 16)
unfolding start_ok
start-tag kind tag e = let t = both _ _ e in (ltb-true _ _ t.0, ltb-true _ _ t.1)

-- a record with something added
pub record Some (b : Building) : Type 0 where
  pub words : b.words ≤ limit
  pub answered : 1 ≤ b.answer
  pub answer : b.answer ≤ limit
  pub last : b.last < b.words
  pub shape : shape_ok (kind_of (byte0_by b)) (address_words (byte0_by b)) b.words b.last b.answer ≡ true

pub some_is : (b : Building) → some_ok b ≡ true → Some b
unfolding some_ok
some_is b e =
    let t1 = both _ _ e in
    let t2 = both _ _ t1.0 in
    let t3 = both _ _ t2.0 in
    let t4 = both _ _ t3.0 in
    record { words = leb-true _ _ t4.0; answered = leb-true _ _ t4.1; answer = leb-true _ _ t3.1; last = ltb-true _ _ t2.1; shape = t1.1 }

-- a record that some sequence of calls gives
pub record Bounded (b : Building) : Type 0 where
  pub kind : b.kind < 3
  pub tag : b.tag < 16
  pub words : b.words ≤ limit
  pub answer : b.answer ≤ limit
  pub last : b.last ≤ b.words

pub bounded : (b : Building) → reachable b ≡ true → Bounded b
unfolding reachable fresh_ok
bounded b e = go (eqb b.words 0) refl (both (start_ok b.kind b.tag) _ e)
  where
    go : (z : Bool) → eqb b.words 0 ≡ z → (start_ok b.kind b.tag ≡ true) × (cond z (fresh_ok b) (some_ok b) ≡ true) → Bounded b
    go true z t =
        let s = start-tag b.kind b.tag t.0 in
        let f = both _ _ t.1 in
        let g = both _ _ f.0 in
        let w = eqb-true b.words 0 z in
        let l = eqb-true b.last 0 g.0 in
        let n = eqb-true b.answer 0 g.1 in
        record { kind = s.0; tag = s.1; words = omega arith; answer = omega arith; last = omega arith }
    go false z t =
        let s = start-tag b.kind b.tag t.0 in
        let o = some_is b t.1 in
        record { kind = s.0; tag = s.1; words = o.words; answer = o.answer; last = omega arith }

-- where there are words, something was added
pub reached-some : (b : Building) → reachable b ≡ true → (b.words ≡ 0 → ⊥) → Some b
unfolding reachable
reached-some b e z = some_is b (both (start_ok b.kind b.tag) (some_ok b) (rw (ne_eqb b.words 0 z) at e)).1

-- nothing is wrong with a command of this count
pub record Fitting (byte0 words answer : ℕ) (asked : Asked) (count : ℕ) : Type 0 where
  pub twelve : count < 4096
  pub counted : count_ok (kind_of byte0) count ≡ true
  pub enabled : enables_fit (kind_of byte0) count asked ≡ true
  pub reaches : address_fits (kind_of byte0) (wide_of byte0) asked.address ≡ true
  pub short : words + size_by byte0 count ≤ limit
  pub few : answer + reply_by byte0 count ≤ limit

pub count-twelve : (kind : Kind) (count : ℕ) → count_fits kind count ≡ true → (count < 4096) × (count_ok kind count ≡ true)
unfolding count_fits
count-twelve kind count e = let t = both _ _ e in (ltb-true _ _ t.0, t.1)

pub fitting : (byte0 words answer : ℕ) (asked : Asked) (count : ℕ) → command_fault byte0 words answer asked count ≡ 0 → Fitting byte0 words answer asked count
unfolding command_fault room_fits
fitting byte0 words answer asked count e =
    let t1 = passed (count_fits (kind_of byte0) count) 23 _ (omega arith) e in
    let t2 = passed (enables_fit (kind_of byte0) count asked) 24 _ (omega arith) t1.1 in
    let t3 = passed (address_fits (kind_of byte0) (wide_of byte0) asked.address) 25 _ (omega arith) t2.1 in
    let t4 = passed (room_fits byte0 words answer count) 26 0 (omega arith) t3.1 in
    let c = count-twelve (kind_of byte0) count t1.0 in
    let r = both _ _ t4.0 in
    record { twelve = c.0; counted = c.1; enabled = t2.0; reaches = t3.0; short = leb-true _ _ r.0; few = leb-true _ _ r.1 }

-- an add that is not refused
pub record Adds (room : ℕ) (b : Building) (asked : Asked) (count : ℕ) : Type 0 where
  pub long : limit_bytes ≤ room
  pub reached : reachable b ≡ true
  pub bounds : Bounded b
  pub opens : b.closed ≡ false
  pub fits : Fitting (byte0_by b) b.words b.answer asked count

pub adds : (room : ℕ) (b : Building) (asked : Asked) (lent : ℕ) → add_fault room b asked lent ≡ 0
    → Adds room b asked (count_by (kind_of (byte0_by b)) asked.count lent)
unfolding add_fault
adds room b asked lent e =
    let t1 = passed (usable room b) 21 _ (omega arith) e in
    let t2 = passed (not b.closed) 22 _ (omega arith) t1.1 in
    let u = both _ _ t1.0 in
    record { long = leb-true _ _ u.0; reached = u.1; bounds = bounded b u.1; opens = not-true _ t2.0; fits = fitting _ _ _ _ _ t2.1 }

-- a close that is not refused
pub record Closes (room : ℕ) (b : Building) : Type 0 where
  pub long : limit_bytes ≤ room
  pub reached : reachable b ≡ true
  pub bounds : Bounded b
  pub opens : b.closed ≡ false
  pub some : Some b

pub closes : (room : ℕ) (b : Building) → close_fault room b ≡ 0 → Closes room b
unfolding close_fault
closes room b e =
    let t1 = passed (usable room b) 21 _ (omega arith) e in
    let t2 = passed (not b.closed && not (eqb b.words 0)) 22 0 (omega arith) t1.1 in
    let u = both _ _ t1.0 in
    let v = both _ _ t2.0 in
    let z : b.words ≡ 0 → ⊥ = eqb-false _ _ (not-true _ v.1) in
    record { long = leb-true _ _ u.0; reached = u.1; bounds = bounded b u.1; opens = not-true _ v.0; some = reached-some b u.1 z }

-- a write's enables are two fields of four bits, in a pattern that its count may have at its address
pub fields-lt : (count : ℕ) (asked : Asked) → fields_ok count asked ≡ true
    → (asked.first < 16) × (asked.last < 16) × (pattern_ok count asked.address asked.first asked.last ≡ true)
unfolding fields_ok
fields-lt count asked e =
    let t = both _ _ e in
    let u = both _ _ t.0 in
    (ltb-true _ _ u.0, ltb-true _ _ u.1, t.1)

pub usable-bounded : (room : ℕ) (b : Building) → usable room b ≡ true → Bounded b
usable-bounded room b e = bounded b (both (long_ok room) (reachable b) e).1
