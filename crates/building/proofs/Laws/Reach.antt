-- A building record is given by some sequence of calls exactly if the formula that 21 tests holds: `reached-exactly`.
-- Assumes nothing.
use Prim.Native.Nat.{ℕ, zero, suc, ◌+◌, ◌<◌, ◌≤◌}
use mathlib.Core.Path.{◌≡◌, refl, sym, ap}
use mathlib.Core.Bool.{Bool, true, false, not, cond, ◌&&◌, false≢true}
use mathlib.Core.List.{List}
use native.Mathlib.Omega.{arith}
use borrow.Author.Tests.{eqb-true, le-leb, lt-ltb, eq-eqb, ne_eqb, leb-true, not-true}
use lib.Dec.{eqb}
use lib.ListN.{length, get_or, replicate, length-replicate}
use Rattle.word.specs.Words.{Words}
use Rattle.word.proofs.Runs.{below_all}
use Rattle.header.specs.declared.Kind.{Kind}
use Rattle.header.specs.declared.Kind.TheVariants.{Nop, Write, Read, Response}
use Rattle.header.specs.Limits.{limit, limit_bytes}
use Rattle.header.specs.Header.{kind_of, wide_of}
use Rattle.header.specs.Refusal.{refusal}
use Rattle.message.specs.Faults.{count_ok}
use Rattle.message.proofs.Laws.Pieces.{whole_last, some_pattern}
use Rattle.building.specs.declared.record.Building.{Building}
use Rattle.building.specs.declared.asked.Asked.{Asked}
use Rattle.building.specs.Build.{Built}
use Rattle.building.specs.Record.{start_ok, byte0_by, fresh_ok, some_ok, reachable}
use Rattle.building.specs.Asked.{count_by, count_fits, fields_ok, enables_fit, address_fits, narrow_ok, size_by, reply_by, room_fits, command_fault}
use Rattle.building.specs.Build.{gives, long_ok, opened, no_building, begun, add_fault, close_fault, grown, shut, added, closed}
use Rattle.building.specs.Reach.{Reached, begins, adds, closes, ReachedExactly}
use Rattle.building.proofs.Inner.Passed.{both, unrefused, reached-some, Adds, Closes}
use Rattle.building.proofs.Inner.Passed as passed
use Rattle.building.proofs.Inner.Shapes.{size, reply, Allowed, Steps, start, more, Some, None, Open, on_some, back, shape-ok, ok-shape}

-- a record's numbers, in the words of the formula
abbrev Numbers : Building → Type 0
Numbers b = Open (kind_of (byte0_by b)) (wide_of (byte0_by b)) b.words b.last b.answer

open_of : (k : Kind) (wide : Bool) (w l n : ℕ) → (w ≡ 0 → None l n) → ((w ≡ 0 → ⊥) → Some k wide w l n) → Open k wide w l n
open_of k wide zero l n f g = f refl
open_of k wide (suc w) l n f g = g (λ e. absurd (omega arith))

fresh-none : (b : Building) → reachable b ≡ true → b.words ≡ 0 → None b.last b.answer × (b.closed ≡ false)
unfolding reachable fresh_ok
fresh-none b e z =
    let t = (both (start_ok b.kind b.tag) (fresh_ok b) (rw (eq-eqb b.words 0 z) at e)).1 in
    let u = both (eqb b.last 0 && eqb b.answer 0) (not b.closed) t in
    let v = both (eqb b.last 0) (eqb b.answer 0) u.0 in
    (record { first = eqb-true _ _ v.0; nothing = eqb-true _ _ v.1 }, not-true _ u.1)

numbers-some : (b : Building) → passed.Some b → Some (kind_of (byte0_by b)) (wide_of (byte0_by b)) b.words b.last b.answer
numbers-some b s =
    record {
      most = s.words;
      one = s.answered;
      few = s.answer;
      less = s.last;
      shape = ok-shape (kind_of (byte0_by b)) (wide_of (byte0_by b)) b.words b.last b.answer s.shape s.answered s.last s.words;
    }

numbers : (b : Building) → reachable b ≡ true → Numbers b
numbers b e =
    open_of (kind_of (byte0_by b)) (wide_of (byte0_by b)) b.words b.last b.answer (λ z. (fresh-none b e z).0) (λ z. numbers-some b (reached-some b e z))

started : (b : Building) → reachable b ≡ true → start_ok b.kind b.tag ≡ true
unfolding reachable
started b e = (both _ _ e).0

-- a record whose numbers are those of some commands
some-reachable : (b : Building) → start_ok b.kind b.tag ≡ true → Some (kind_of (byte0_by b)) (wide_of (byte0_by b)) b.words b.last b.answer → reachable b ≡ true
unfolding reachable some_ok
some-reachable b h s =
    let z : eqb b.words 0 ≡ false = ne_eqb b.words 0 (omega (arith, s.less)) in
    rw (h, z, le-leb _ _ s.most, le-leb _ _ s.one, le-leb _ _ s.few, lt-ltb _ _ s.less, shape-ok (kind_of (byte0_by b)) (wide_of (byte0_by b)) _ _ _ s)

-- what the calls make of a record that the formula holds of
counted : (k : Kind) (count : ℕ) → count_ok k count ≡ true → Allowed k count
counted Nop count e = leb-true _ _ e
counted Write count e = leb-true _ _ e
counted Read count e = leb-true _ _ e
counted Response count e = absurd (false≢true e)

grown-reachable : (room : ℕ) (b : Building) (asked : Asked) (count : ℕ) → Adds room b asked count → reachable (grown b count) ≡ true
unfolding grown byte0_by size_by reply_by
grown-reachable room b asked count a =
    some-reachable (grown b count) (started b a.reached)
    (on_some (kind_of (byte0_by b)) (wide_of (byte0_by b)) b.words b.last b.answer count (numbers b a.reached)
    (counted (kind_of (byte0_by b)) count a.fits.counted) a.fits.short a.fits.few)

shut-reachable : (room : ℕ) (b : Building) → Closes room b → reachable (shut b) ≡ true
unfolding shut byte0_by
shut-reachable room b c = some-reachable (shut b) (started b c.reached) (numbers-some b c.some)

-- each call keeps it
begun-reachable : (room kind tag : ℕ) (wide discovery : Bool) → (begun room kind tag wide discovery).refusal ≡ refusal 0
    → reachable (begun room kind tag wide discovery).building ≡ true
unfolding begun reachable opened fresh_ok
begun-reachable room kind tag wide discovery e = go (long_ok room && start_ok kind tag) refl e
  where
    go : (t : Bool) → (long_ok room && start_ok kind tag) ≡ t → (cond t (gives 0 (opened kind tag wide discovery)) (gives 21 no_building)).refusal ≡ refusal 0
        → reachable (cond t (gives 0 (opened kind tag wide discovery)) (gives 21 no_building)).building ≡ true
    go true z e = rw (both (long_ok room) (start_ok kind tag) z).1
    go false z e = absurd (omega (arith, unrefused e))

added-reachable : (out : List ℕ) (b : Building) (asked : Asked) (payload : List ℕ) → reachable b ≡ true → reachable (added out b asked payload).building ≡ true
unfolding added
added-reachable out b asked payload h = go (eqb (add_fault (length out) b asked (length payload)) 0) refl
  where
    go : (t : Bool) → eqb (add_fault (length out) b asked (length payload)) 0 ≡ t
        → reachable (cond t (gives 0 (grown b (count_by (kind_of (byte0_by b)) asked.count (length payload)))) (gives (add_fault (length out) b asked (length payload)) b)).building ≡ true
    go true z = grown-reachable (length out) b asked _ (passed.adds (length out) b asked (length payload) (eqb-true _ _ z))
    go false z = h

closed-reachable : (out : List ℕ) (b : Building) → reachable b ≡ true → reachable (closed out b).building ≡ true
unfolding closed
closed-reachable out b h = go (eqb (close_fault (length out) b) 0) refl
  where
    go : (t : Bool) → eqb (close_fault (length out) b) 0 ≡ t → reachable (cond t (gives 0 (shut b)) (gives (close_fault (length out) b) b)).building ≡ true
    go true z = shut-reachable (length out) b (passed.closes (length out) b (eqb-true _ _ z))
    go false z = h

forth : {b : Building} → Reached b → reachable b ≡ true
forth (begins out kind tag wide discovery e) = begun-reachable (length out) kind tag wide discovery e
forth (adds {b} r out asked payload l) = added-reachable out b asked payload (forth r)
forth (closes {b} r out) = closed-reachable out b (forth r)

-- a command of each count that is allowed can be asked for
abbrev plain : ℕ → Asked
plain count = record { address = 0; first = 15; last = whole_last count; count = count }

plain-last : (count : ℕ) → whole_last count < 16
plain-last count = go (eqb count 1)
  where
    go : (t : Bool) → cond t 0 15 < 16
    go true = omega arith
    go false = omega arith

zeros : (n : ℕ) → Words (replicate n 0)
zeros n = below_all 4294967296 (replicate n 0) (λ i. zero-at n i)
  where
    zero-at : (n i : ℕ) → get_or (replicate n 0) i 0 < 4294967296
    zero-at zero i = omega arith
    zero-at (suc n) zero = omega arith
    zero-at (suc n) (suc i) = zero-at n i

allowed-ok : (k : Kind) (count : ℕ) → Allowed k count → count_ok k count ≡ true
allowed-ok Nop count h = le-leb _ _ h
allowed-ok Write count h = le-leb _ _ h
allowed-ok Read count h = le-leb _ _ h
allowed-ok Response count h = absurd h

plain-enables : (k : Kind) (count : ℕ) → enables_fit k count (plain count) ≡ true
unfolding fields_ok
plain-enables Nop count = refl
plain-enables Write count = rw (lt-ltb _ _ (plain-last count), some_pattern count 0)
plain-enables Read count = refl
plain-enables Response count = refl

plain-address : (k : Kind) (wide : Bool) → address_fits k wide 0 ≡ true
unfolding narrow_ok
plain-address Nop wide = refl
plain-address Write false = refl
plain-address Write true = refl
plain-address Read false = refl
plain-address Read true = refl
plain-address Response wide = refl

abbrev blank : ℕ → List ℕ
blank n = replicate n 0

blank-long : (n : ℕ) → length (blank n) ≡ n
blank-long n = length-replicate {A = ℕ} n 0

plain-count : (k : Kind) (count : ℕ) → count_by k count (length (blank count)) ≡ count
plain-count Nop count = blank-long count
plain-count Write count = blank-long count
plain-count Read count = refl
plain-count Response count = blank-long count

twelve : (k : Kind) (wide : Bool) (w n count : ℕ) → Allowed k count → w + size k wide count ≤ limit → n + reply k count ≤ limit → count < 4096
twelve Nop wide w n count d p q = omega arith
twelve Write wide w n count d p q = omega arith
twelve Read wide w n count d p q = omega arith
twelve Response wide w n count d p q = absurd d

-- and nothing is wrong with it
plain-fault : (byte0 w n count : ℕ) → Allowed (kind_of byte0) count → w + size (kind_of byte0) (wide_of byte0) count ≤ limit → n + reply (kind_of byte0) count ≤ limit
    → command_fault byte0 w n (plain count) count ≡ 0
unfolding command_fault count_fits room_fits size_by reply_by
plain-fault byte0 w n count d p q =
    rw (
      lt-ltb _ _ (twelve (kind_of byte0) (wide_of byte0) w n count d p q),
      allowed-ok (kind_of byte0) count d,
      plain-enables (kind_of byte0) count,
      plain-address (kind_of byte0) (wide_of byte0),
      le-leb _ _ p,
      le-leb _ _ q,
    )

-- from the numbers to the calls
module _ (out : List ℕ) (long : long_ok (length out) ≡ true) (kind tag : ℕ) (wide discovery : Bool) (ok : start_ok kind tag ≡ true) where
  abbrev state : ℕ → ℕ → ℕ → Bool → Building
  state w l n z = record { kind = kind; tag = tag; wide = wide; discovery = discovery; words = w; last = l; answer = n; closed = z }

  abbrev byte : ℕ
  byte = byte0_by (state 0 0 0 false)

  first-state : Reached (state 0 0 0 false)
  unfolding begun opened
  first-state =
      let e : begun (length out) kind tag wide discovery ≡ gives 0 (opened kind tag wide discovery) = rw (long, ok) in
      rw e at (begins out kind tag wide discovery (ap (λ (g : Built). g.refusal) e))

  next-state : (w l n count : ℕ) → Reached (state w l n false) → Allowed (kind_of byte) count → w + size (kind_of byte) (wide_of byte) count ≤ limit
      → n + reply (kind_of byte) count ≤ limit → Reached (state (w + size (kind_of byte) (wide_of byte) count) w (n + reply (kind_of byte) count) false)
  unfolding added add_fault grown byte0_by size_by reply_by
  next-state w l n count r d p q =
      let s : Building = state w l n false in
      let c = plain-count (kind_of byte) count in
      let f : add_fault (length out) s (plain count) (length (blank count)) ≡ 0 = rw (long, forth r, c) (plain-fault byte w n count d p q) in
      let e : added out s (plain count) (blank count) ≡ gives 0 (grown s count) = rw (eq-eqb _ _ f, c) in
      rw e at (adds r out (plain count) (blank count) (record { address = omega arith; words = zeros count }))

  last-state : (w l n : ℕ) → Reached (state w l n false) → 0 < w → Reached (state w l n true)
  unfolding closed close_fault shut
  last-state w l n r h =
      let s : Building = state w l n false in
      let f : close_fault (length out) s ≡ 0 = rw (long, forth r, ne_eqb w 0 (omega arith)) in
      let e : closed out s ≡ gives 0 (shut s) = rw (eq-eqb _ _ f) in
      rw e at (closes r out)

  recalled : {w l n : ℕ} → Steps (kind_of byte) (wide_of byte) w l n → Reached (state w l n false)
  recalled start = first-state
  recalled (more w l n count r d p q) = next-state w l n count (recalled r) d p q

  shut-or : (w l n : ℕ) (z : Bool) → (w ≡ 0 → z ≡ false) → Steps (kind_of byte) (wide_of byte) w l n → Reached (state w l n z)
  shut-or w l n false h r = recalled r
  shut-or zero l n true h r = absurd (false≢true (sym (h refl)))
  shut-or (suc w) l n true h r = last-state (suc w) l n (recalled r) (omega arith)

called : (b : Building) → reachable b ≡ true → Reached b
unfolding byte0_by
called b e =
    shut-or (blank limit_bytes) refl b.kind b.tag b.wide b.discovery (started b e) b.words b.last b.answer b.closed (λ z. (fresh-none b e z).1)
    (back (kind_of (byte0_by b)) (wide_of (byte0_by b)) b.words b.last b.answer (numbers b e))

-- 21's formula holds exactly of the records that some sequence of calls gives
pub reached-exactly : ReachedExactly
reached-exactly b = (forth, called b)
