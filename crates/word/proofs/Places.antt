-- Byte order and byte enables, once, over the byte's place. Whoever speaks of single bytes of words cites these. Assumes nothing.
use Prim.Native.Nat.{ℕ, zero, suc, ◌+◌, ◌*◌, ◌/◌, ◌%◌, ◌<◌}
use mathlib.Core.Path.{◌≡◌, refl, ap, ◌∙◌}
use mathlib.Core.Bool.{Bool, true, false, cond}
use mathlib.Core.List.{[], ◌∷◌}
use native.Mathlib.Omega.{arith}
use native.Mathlib.Nat.{not-suc-le-zero, le_of_suc-le-suc, div-div-eq-div-mul}
use lib.Dec.{eqb}
use Rattle.word.specs.Words.{bytes_of}
use Rattle.word.specs.Enables.{byte_of, bit_of, of_bytes, merged}
use Rattle.word.specs.Promises.{BytePlace, MergeByte}
use Rattle.word.proofs.Crossing.{word-four}

-- a byte is below 256
pub byte-lt : (k w : ℕ) → byte_of k w < 256
unfolding byte_of
byte-lt zero w = omega arith
byte-lt (suc k) w = byte-lt k (w / 256)

-- byte k of a number made of bytes is its k-th
pub byte-of : (n k : ℕ) (b : ℕ → ℕ) → k < n → ((i : ℕ) → b i < 256) → byte_of k (of_bytes n b) ≡ b k
unfolding byte_of of_bytes
byte-of zero k b h l = absurd (not-suc-le-zero h)
byte-of (suc n) zero b h l = omega (arith, l 0)
byte-of (suc n) (suc k) b h l =
    let e : (b 0 + 256 * of_bytes n (λ i. b (suc i))) / 256 ≡ of_bytes n (λ i. b (suc i)) = omega (arith, l 0) in
    ap (byte_of k) e ∙ byte-of n k (λ i. b (suc i)) (le_of_suc-le-suc h) (λ i. l (suc i))

-- either of two bytes is a byte
pub chosen-lt : (t : Bool) (x y : ℕ) → x < 256 → y < 256 → cond t x y < 256
chosen-lt true x y p q = p
chosen-lt false x y p q = q

pub merge-byte : MergeByte
unfolding merged
merge-byte k old new e h =
    byte-of 4 k (λ i. cond (bit_of i e) (byte_of i new) (byte_of i old)) h
    (λ i. chosen-lt (bit_of i e) (byte_of i new) (byte_of i old) (byte-lt i new) (byte-lt i old))

-- a merge is a word
pub merge-lt : (old new e : ℕ) → merged old new e < 4294967296
unfolding merged of_bytes
merge-lt old new e =
    let b : (i : ℕ) → cond (bit_of i e) (byte_of i new) (byte_of i old) < 256 =
    λ i. chosen-lt (bit_of i e) (byte_of i new) (byte_of i old) (byte-lt i new) (byte-lt i old) in
    omega (arith, b 0, b 1, b 2, b 3)

pub byte-place : BytePlace
unfolding bytes_of byte_of
byte-place [] i k h l = absurd (not-suc-le-zero l)
byte-place (w ∷ ws) zero zero h l = refl
byte-place (w ∷ ws) zero (suc zero) h l = refl
byte-place (w ∷ ws) zero (suc (suc zero)) h l = rw (div-div-eq-div-mul w 256 256)
byte-place (w ∷ ws) zero (suc (suc (suc zero))) h l = rw (div-div-eq-div-mul w 256 256, div-div-eq-div-mul w 65536 256)
byte-place (w ∷ ws) zero (suc (suc (suc (suc k)))) h l = absurd (omega arith)
byte-place (w ∷ ws) (suc i) k h l =
    let e : 4 * suc i + k ≡ suc (suc (suc (suc (4 * i + k)))) = omega arith in
    rw e (byte-place ws i k h (omega arith))

-- a merge as its four bytes
pub merged-is : (old new e : ℕ)
    → merged old new e
    ≡ cond (eqb (e % 2) 1) (new % 256) (old % 256) + 256 * cond (eqb (e / 2 % 2) 1) (new / 256 % 256) (old / 256 % 256)
    + 65536 * cond (eqb (e / 4 % 2) 1) (new / 65536 % 256) (old / 65536 % 256)
    + 16777216 * cond (eqb (e / 8 % 2) 1) (new / 16777216 % 256) (old / 16777216 % 256)
unfolding merged of_bytes byte_of bit_of
merged-is old new e =
    simp (div-div-eq-div-mul) (omega arith)

-- under all four enables the merge is the new word
pub merge-whole : (old new : ℕ) → new < 4294967296 → merged old new 15 ≡ new
merge-whole old new h = merged-is old new 15 ∙ word-four new h
