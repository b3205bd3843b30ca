-- The digits that `io` writes are those of the definition. The proof of `text::number` cites this. Assumes nothing.
use Prim.Native.Nat.{ℕ, zero, suc, ◌+◌, ◌-◌, ◌*◌, ◌/◌, ◌%◌, ◌^◌, ◌≤◌, ◌<◌}
use mathlib.Core.Path.{◌≡◌, refl, ◌∙◌}
use mathlib.Core.Bool.{Bool, true, false, cond}
use mathlib.Core.List.{List, [], ◌∷◌, ◌++◌}
use native.Mathlib.Omega.{arith}
use native.Mathlib.Nat.{pow-suc, one-le-pow, pow-le-pow_right}
use borrow.Author.Tests.{le-ltb, lt-ltb, leb-true, leb-false}
use lib.Dec.{ltb, leb}
use lib.ListN.{length, length-append}
use Rattle.io.specs.Digits.{hex_digit_ascii, last_digits, IsDigitCount}
use Rattle.night.specs.Text.{digits_in, decimal}

glyph-is : (d : ℕ) → d < 10 → hex_digit_ascii d ≡ 48 + d
glyph-is d h = rw (lt-ltb d 10 h)

-- one digit more
spelled-more : (n j : ℕ) (l : List ℕ) → last_digits 10 (suc j) (n / 10) ≡ l → last_digits 10 (suc (suc j)) n ≡ l ++ ((48 + n % 10) ∷ [])
spelled-more n j l e = rw (e, glyph-is (n % 10) (omega arith))

pub spelled : (f k n : ℕ) → k ≤ f → IsDigitCount 10 1 n k → last_digits 10 k n ≡ digits_in f n
unfolding digits_in
spelled f zero n h w = absurd (omega (arith, w.0))
spelled zero (suc k) n h w = absurd (omega arith)
spelled (suc f) (suc zero) n h w =
    let low : n < 10 = w.1 in
    let same : n % 10 ≡ n = omega arith in
    rw (lt-ltb n 10 low, same, glyph-is n low)
spelled (suc f) (suc (suc j)) n h w =
    let e : suc (suc j) - 1 ≡ suc j = omega arith in
    let least : 10 ^ j * 10 ≤ n = rw (e, pow-suc 10 j) at (w.2 (omega arith)) in
    let most : n < 10 ^ suc j * 10 = rw (pow-suc 10 (suc j)) at w.1 in
    let some : 1 ≤ 10 ^ j = one-le-pow _ _ (omega arith) in
    let d : suc j - 1 ≡ j = omega arith in
    let fewer : IsDigitCount 10 1 (n / 10) (suc j) = (omega arith, omega arith, λ q. rw d (omega arith)) in
    rw (le-ltb n 10 (omega arith)) (spelled-more n j (digits_in f (n / 10)) (spelled f (suc j) (n / 10) (omega arith) fewer))

one_more : (k n : ℕ) (l : List ℕ) (b : Bool) → length l ≤ k → length (cond b ((48 + n) ∷ []) (l ++ ((48 + n % 10) ∷ []))) ≤ suc k
one_more k n l true h = omega arith
one_more k n l false h = rw (length-append l ((48 + n % 10) ∷ [])) (omega arith)

short-in : (k n : ℕ) → length (digits_in k n) ≤ k
unfolding digits_in
short-in zero n = omega arith
short-in (suc k) n = one_more k n (digits_in k (n / 10)) (ltb n 10) (short-in k (n / 10))

pub decimal-short : (n : ℕ) → length (decimal n) ≤ 20
unfolding decimal
decimal-short n = short-in 20 n

-- what `io::decimal` ensures of the digits d of n
pub decimal-is : (n k : ℕ) (d : List ℕ) → k ≤ 20 → IsDigitCount 10 1 n k → d ≡ last_digits 10 k n → d ≡ decimal n
unfolding decimal
decimal-is n k d h w e = e ∙ spelled 20 k n h w

-- a number of 64 bits has at most 20 digits
pub few-digits : (n k : ℕ) → n < 18446744073709551616 → IsDigitCount 10 1 n k → k ≤ 20
few-digits n k h w = go (leb k 20) refl
  where
    go : (b : Bool) → leb k 20 ≡ b → k ≤ 20
    go true e = leb-true k 20 e
    go false e =
        let more : 20 < k = leb-false k 20 e in
        let ten : 0 < 10 = omega arith in
        let much : 20 ≤ k - 1 = omega arith in
        let long : 10 ^ 20 ≤ 10 ^ (k - 1) = pow-le-pow_right ten much in
        absurd (omega (arith, w.2 (omega arith)))
