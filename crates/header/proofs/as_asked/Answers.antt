-- `header::as_asked` meets its contract: count and LAST stand where they stood. Assumes nothing.
-- the highest bit of a word is its LAST
use Prim.Native.Nat.{ℕ, ◌/◌, ◌<◌}
use mathlib.Core.Path.{◌≡◌, refl}
use mathlib.Core.Bool.{Bool, true, false, not}
use native.Mathlib.Omega.{arith}
use borrow.Author.Tests.{eqb-true, eqb-false}
use lib.Dec.{eqb}
use Rattle.header.specs.Header.{last_of, bit, header_from}
use Rattle.header.proofs.as_asked.Goals as goal

last_bit : (h : ℕ) → h < 4294967296 → bit (last_of h) ≡ h / 2147483648
last_bit h l = go (eqb (h / 2147483648) 0) refl
  where
    go : (b : Bool) → eqb (h / 2147483648) 0 ≡ b → bit (not b) ≡ h / 2147483648
    go true z = omega (arith, eqb-true (h / 2147483648) 0 z)
    go false z = let some = eqb-false (h / 2147483648) 0 z in omega arith

pub returns : goal.returns
unfolding header_from
returns c = omega (arith, last_bit c.args.h c.ranges.h.fits)
