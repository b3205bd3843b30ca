-- The lengths that a datagram may have. The laws of requests and answers cite these. Assumes nothing.
use Prim.Native.Nat.{ℕ, ◌%◌, ◌<◌, ◌≤◌}
use mathlib.Core.Path.{◌≡◌, refl}
use mathlib.Core.Bool.{Bool, true, false, cond, false≢true}
use native.Mathlib.Omega.{arith}
use borrow.Author.Tests.{eqb-true, eqb-false, leb-true, eq-eqb, ne_eqb, le-leb}
use lib.Dec.{leb, eqb}
use Rattle.header.specs.Limits.{limit_bytes, length_ok}

-- a right length, in numbers
pub record Right (n : ℕ) : Type 0 where
  pub some : 0 < n
  pub whole : n % 4 ≡ 0
  pub most : n ≤ limit_bytes

pub right : (n : ℕ) → length_ok n ≡ true → Right n
unfolding length_ok
right n e = go (eqb n 0) refl (eqb (n % 4) 0) refl e
  where
    go : (a : Bool) → eqb n 0 ≡ a → (b : Bool) → eqb (n % 4) 0 ≡ b → cond a false (cond b (leb n limit_bytes) false) ≡ true → Right n
    go true p b q e = absurd (false≢true e)
    go false p false q e = absurd (false≢true e)
    go false p true q e = let z = eqb-false n 0 p in record { some = omega arith; whole = eqb-true _ _ q; most = leb-true _ _ e }

pub length-fits : (n : ℕ) → 0 < n → n % 4 ≡ 0 → n ≤ limit_bytes → length_ok n ≡ true
unfolding length_ok
length-fits n some whole most = rw (ne_eqb n 0 (omega arith), eq-eqb (n % 4) 0 whole, le-leb n limit_bytes most)
