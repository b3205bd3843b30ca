-- The numbers that commands of one kind come to, one after another, are those of the formula: `on_some` and `back`, and the formula
-- as the code tests it. proofs/Laws/Reach.antt cites these. Assumes nothing.
use Prim.Native.Nat.{ℕ, zero, suc, ◌+◌, ◌-◌, ◌*◌, ◌/◌, ◌%◌, ◌<◌, ◌≤◌}
use mathlib.Core.Path.{◌≡◌}
use mathlib.Core.Bool.{Bool, true, false, cond, false≢true}
use native.Mathlib.Omega.{arith}
use native.Mathlib.Nat.{zero-mul}
use borrow.Author.Tests.{leb-true, eqb-true, le-leb, eq-eqb, ne_eqb}
use lib.Dec.{leb, eqb}
use Rattle.header.specs.declared.Kind.{Kind}
use Rattle.header.specs.declared.Kind.TheVariants.{Nop, Write, Read, Response}
use Rattle.header.specs.Limits.{limit}
use Rattle.header.specs.Header.{address_by, data_words, reply_words}
use Rattle.building.specs.Record.{nops_ok, writes_ok, reads_ok, shape_ok}
use Rattle.building.proofs.Inner.Passed.{both}

-- the words of a command of this kind and of its OK answer
abbrev pub size : Kind → Bool → ℕ → ℕ
size k wide count = 1 + (address_by k wide + data_words k count)

abbrev pub reply : Kind → ℕ → ℕ
reply k count = 1 + reply_words k count

abbrev pub Allowed : Kind → ℕ → Type 0
Allowed Nop count = count ≤ 2
Allowed Write count = 1 ≤ count
Allowed Read count = 1 ≤ count
Allowed Response count = ⊥

-- the words, last header and answer that commands of one kind come to, one after another
pub data Steps (k : Kind) (wide : Bool) : ℕ → ℕ → ℕ → Type 0 where
  start : Steps k wide 0 0 0
  more : (w l n count : ℕ) → Steps k wide w l n → Allowed k count → w + size k wide count ≤ limit → n + reply k count ≤ limit
      → Steps k wide (w + size k wide count) w (n + reply k count)

-- the formula in words
abbrev pub Shape : Kind → Bool → ℕ → ℕ → ℕ → Type 0
Shape Nop wide w l n = (n ≡ w) × (w ≤ l + 3)
Shape Write wide w l n = (l + (2 + address_by Write wide) ≤ w) × ((n - 1) * (2 + address_by Write wide) ≤ l) × (l ≤ (n - 1) * limit)
Shape Read wide w l n = (w ≡ l + (1 + address_by Read wide)) × (w % (1 + address_by Read wide) ≡ 0) × (2 * (w / (1 + address_by Read wide)) ≤ n)
Shape Response wide w l n = ⊥

pub record Some (k : Kind) (wide : Bool) (w l n : ℕ) : Type 0 where
  pub most : w ≤ limit
  pub one : 1 ≤ n
  pub few : n ≤ limit
  pub less : l < w
  pub shape : Shape k wide w l n

pub record None (l n : ℕ) : Type 0 where
  pub first : l ≡ 0
  pub nothing : n ≡ 0

-- none added yet, or some
abbrev pub Open : Kind → Bool → ℕ → ℕ → ℕ → Type 0
Open k wide zero l n = None l n
Open k wide (suc w) l n = Some k wide (suc w) l n

pub on_some : (k : Kind) (wide : Bool) (w l n count : ℕ) → Open k wide w l n → Allowed k count → w + size k wide count ≤ limit → n + reply k count ≤ limit
    → Some k wide (w + size k wide count) w (n + reply k count)
on_some Nop wide zero l n count o d p q = omega (arith, o)
on_some Nop wide (suc w) l n count o d p q = omega (arith, o)
on_some Write false zero l n count o d p q = omega (arith, o)
on_some Write true zero l n count o d p q = omega (arith, o)
on_some Write false (suc w) l n count o d p q = omega (arith, o)
on_some Write true (suc w) l n count o d p q = omega (arith, o)
on_some Read false zero l n count o d p q = omega (arith, o)
on_some Read true zero l n count o d p q = omega (arith, o)
on_some Read false (suc w) l n count o d p q = omega (arith, o)
on_some Read true (suc w) l n count o d p q = omega (arith, o)
on_some Response wide w l n count o d p q = elim d [ ]

step : (k : Kind) (wide : Bool) (w l n count w' l' n' : ℕ) → Steps k wide w l n → Allowed k count
    → (w' ≡ w + size k wide count) × (l' ≡ w) × (n' ≡ n + reply k count) × (w' ≤ limit) × (n' ≤ limit) → Steps k wide w' l' n'
step k wide w l n count w' l' n' r d e = rw (e.0, e.1, e.2) (more w l n count r d (rw (← e.0) e.3) (rw (← e.2) e.4))

-- m commands with the smallest counts
nops : (wide : Bool) (m : ℕ) → m ≤ limit → Steps Nop wide m (m - 1) m
nops wide zero h = start
nops wide (suc m) h = step Nop wide m (m - 1) m 0 (suc m) (suc m - 1) (suc m) (nops wide m (omega arith)) (omega arith) (omega arith)

reads : (wide : Bool) (m : ℕ) → m * (1 + address_by Read wide) ≤ limit → 2 * m ≤ limit
    → Steps Read wide (m * (1 + address_by Read wide)) ((m - 1) * (1 + address_by Read wide)) (2 * m)
reads false zero h k = start
reads true zero h k = start
reads false (suc m) h k = step Read false (m * 2) ((m - 1) * 2) (2 * m) 1 _ _ _ (reads false m (omega arith) (omega arith)) (omega arith) (omega arith)
reads true (suc m) h k = step Read true (m * 3) ((m - 1) * 3) (2 * m) 1 _ _ _ (reads true m (omega arith) (omega arith)) (omega arith) (omega arith)

writes : (wide : Bool) (m : ℕ) → m * (2 + address_by Write wide) ≤ limit
    → Steps Write wide (m * (2 + address_by Write wide)) ((m - 1) * (2 + address_by Write wide)) m
writes false zero h = start
writes true zero h = start
writes false (suc m) h = step Write false (m * 3) ((m - 1) * 3) m 1 _ _ _ (writes false m (omega arith)) (omega arith) (omega arith)
writes true (suc m) h = step Write true (m * 4) ((m - 1) * 4) m 1 _ _ _ (writes true m (omega arith)) (omega arith) (omega arith)

pub back : (k : Kind) (wide : Bool) (w l n : ℕ) → Open k wide w l n → Steps k wide w l n
back Nop wide zero l n o = rw (o.first, o.nothing) start
back Write wide zero l n o = rw (o.first, o.nothing) start
back Read wide zero l n o = rw (o.first, o.nothing) start
back Response wide zero l n o = rw (o.first, o.nothing) start
back Nop wide (suc w) l n o = step Nop wide l (l - 1) l (suc w - l - 1) (suc w) l n (nops wide l (omega (arith, o))) (omega (arith, o)) (omega (arith, o))
back Write wide (suc w) l zero o = absurd (omega (arith, o.one))
back Write false (suc w) l (suc zero) o = step Write false 0 0 0 (suc w - 2) (suc w) l 1 start (omega (arith, o)) (omega (arith, o))
back Write true (suc w) l (suc zero) o = step Write true 0 0 0 (suc w - 3) (suc w) l 1 start (omega (arith, o)) (omega (arith, o))
back Write false (suc w) l (suc (suc m)) o =
    step Write false l (m * 3) (suc m) (suc w - l - 2) (suc w) l (suc (suc m))
    (step Write false (m * 3) ((m - 1) * 3) m (l - m * 3 - 2) l (m * 3) (suc m) (writes false m (omega (arith, o))) (omega (arith, o)) (omega (arith, o)))
    (omega (arith, o)) (omega (arith, o))
back Write true (suc w) l (suc (suc m)) o =
    step Write true l (m * 4) (suc m) (suc w - l - 3) (suc w) l (suc (suc m))
    (step Write true (m * 4) ((m - 1) * 4) m (l - m * 4 - 3) l (m * 4) (suc m) (writes true m (omega (arith, o))) (omega (arith, o)) (omega (arith, o)))
    (omega (arith, o)) (omega (arith, o))
back Read false (suc w) l n o =
    let m : ℕ = suc w / 2 - 1 in
    step Read false (m * 2) ((m - 1) * 2) (2 * m) (n - 2 * m - 1) (suc w) l n (reads false m (omega (arith, o)) (omega (arith, o))) (omega (arith, o)) (omega (arith, o))
back Read true (suc w) l n o =
    let m : ℕ = suc w / 3 - 1 in
    step Read true (m * 3) ((m - 1) * 3) (2 * m) (n - 2 * m - 1) (suc w) l n (reads true m (omega (arith, o)) (omega (arith, o))) (omega (arith, o)) (omega (arith, o))
back Response wide (suc w) l n o = absurd o.shape

-- the formula that the code tests is the one in words
pub shape-ok : (k : Kind) (wide : Bool) (w l n : ℕ) → Some k wide w l n → shape_ok k (address_by k wide) w l n ≡ true
unfolding nops_ok writes_ok reads_ok
shape-ok Nop wide w l n o = rw (eq-eqb _ _ o.shape.0, le-leb (w - l) 3 (omega (arith, o)))
shape-ok Read wide w l n o =
    rw (eq-eqb (w - l) (1 + address_by Read wide) (omega (arith, o.shape.0)), eq-eqb _ _ o.shape.1, le-leb _ _ o.shape.2)
shape-ok Write wide w l zero o = absurd (omega (arith, o.one))
shape-ok Write wide w l (suc zero) o =
    rw (le-leb (2 + address_by Write wide) (w - l) (omega (arith, o.shape.0)), eq-eqb l 0 (omega (arith, o.shape.2)))
shape-ok Write wide w l (suc (suc n)) o =
    rw (le-leb (2 + address_by Write wide) (w - l) (omega (arith, o.shape.0)), ne_eqb (suc (suc n)) 1 (omega arith), le-leb _ _ o.shape.1)
shape-ok Response wide w l n o = absurd o.shape

pub ok-shape : (k : Kind) (wide : Bool) (w l n : ℕ) → shape_ok k (address_by k wide) w l n ≡ true → 1 ≤ n → l < w → w ≤ limit → Shape k wide w l n
unfolding nops_ok writes_ok reads_ok
ok-shape Nop wide w l n e h p q = let t = both _ _ e in (eqb-true _ _ t.0, omega (arith, leb-true (w - l) 3 t.1))
ok-shape Read wide w l n e h p q =
    let t = both _ _ e in
    let u = both _ _ t.0 in
    (omega (arith, eqb-true (w - l) (1 + address_by Read wide) u.0), eqb-true _ _ u.1, leb-true _ _ t.1)
ok-shape Write wide w l zero e h p q = absurd (omega arith)
ok-shape Write wide w l (suc zero) e h p q =
    let t = both _ _ e in
    let z = eqb-true l 0 t.1 in
    (omega (arith, leb-true (2 + address_by Write wide) (w - l) t.0), omega (arith, zero-mul (2 + address_by Write wide)), omega arith)
ok-shape Write wide w l (suc (suc n)) e h p q =
    let t = both (leb (2 + address_by Write wide) (w - l)) (cond (eqb (suc (suc n)) 1) (eqb l 0) (leb ((suc (suc n) - 1) * (2 + address_by Write wide)) l)) e in
    let v = rw (ne_eqb (suc (suc n)) 1 (omega arith)) at t.1 in
    (omega (arith, leb-true (2 + address_by Write wide) (w - l) t.0), leb-true _ _ v, omega arith)
ok-shape Response wide w l n e h p q = absurd (false≢true e)
