-- What a branch's test says of a definition's test, for `search`. The proofs of every crate cite these. Assumes nothing.
use Prim.Native.Nat.{ℕ, ◌≤◌, ◌<◌}
use mathlib.Core.Path.{◌≡◌, ◌∙◌, sym, subst}
use mathlib.Core.Bool.{Bool, true, false}
use lib.Dec.{leb, eqb}
use borrow.Author.Tests.{le-ltb, lt-ltb, le-leb, lt-leb, eq-eqb, ne_eqb}

pub ruleset tests = (le-ltb, lt-ltb, le-leb, lt-leb, eq-eqb, ne_eqb)

-- a call's flag that was tested, and what its contract says it is
pub flag_off : {b r : Bool} → r ≡ b → r ≡ false → b ≡ false
flag_off e h = sym e ∙ h

pub flag-on : {b r : Bool} → r ≡ b → r ≡ true → b ≡ true
flag-on e h = sym e ∙ h

-- a call's number that was tested, and what its contract says it is
pub leb-on : {x y n : ℕ} → x ≡ y → x ≤ n → leb y n ≡ true
leb-on {x} {y} {n} e h = le-leb y n (subst (λ (z : ℕ). z ≤ n) e h)

pub leb-off : {x y n : ℕ} → x ≡ y → n < x → leb y n ≡ false
leb-off {x} {y} {n} e h = lt-leb y n (subst (λ (z : ℕ). n < z) e h)

pub eqb-on : {x y n : ℕ} → x ≡ y → x ≡ n → eqb y n ≡ true
eqb-on {x} {y} {n} e h = eq-eqb y n (sym e ∙ h)

pub eqb-off : {x y n : ℕ} → x ≡ y → (x ≡ n → ⊥) → eqb y n ≡ false
eqb-off {x} {y} {n} e h = ne_eqb y n (λ q. h (e ∙ q))
