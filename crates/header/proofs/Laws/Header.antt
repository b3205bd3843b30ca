-- Laws of the header word: its fields are read back, and it is rebuilt from them. Assumes nothing.
use Prim.Native.Nat.{ℕ, zero, suc, ◌+◌, ◌*◌, ◌/◌, ◌%◌, ◌<◌, ◌≤◌}
use mathlib.Core.Path.{◌≡◌, refl, ◌∙◌}
use mathlib.Core.Bool.{Bool, true, false, not}
use native.Mathlib.Omega.{arith}
use borrow.Author.Tests.{eq-eqb, ne_eqb}
use lib.Arith.{mod-mul}
use lib.Dec.{eqb, lit<}
use Rattle.std.specs.Int.{from_bool}
use Rattle.header.specs.declared.Kind.{Kind}
use Rattle.header.specs.declared.Kind.TheVariants.{Nop, Write, Read, Response}
use Rattle.header.specs.Header.{tag_of, number_of, kind_no, kind_of, wide_of, discovery_of, byte0_of, byte1_of, count_of, reserved_of, last_of, bit, byte0_from, header_from, address_by, address_words, data_words, reply_words}

-- a kind is what its number names, and the other way
pub kind-number : (k : Kind) → kind_no (number_of k) ≡ k
unfolding kind_no
kind-number Nop = refl
kind-number Write = refl
kind-number Read = refl
kind-number Response = refl

pub number-kind : (n : ℕ) → n < 4 → number_of (kind_no n) ≡ n
unfolding kind_no
number-kind zero h = refl
number-kind (suc zero) h = refl
number-kind (suc (suc zero)) h = refl
number-kind (suc (suc (suc zero))) h = refl
number-kind (suc (suc (suc (suc n)))) h = absurd (omega arith)

-- what is neither 0, 1 nor 2 names a response
pub kind-rest : (n : ℕ) → (n ≡ 0 → ⊥) → (n ≡ 1 → ⊥) → (n ≡ 2 → ⊥) → Response ≡ kind_no n
unfolding kind_no
kind-rest zero a b c = absurd (a refl)
kind-rest (suc zero) a b c = absurd (b refl)
kind-rest (suc (suc zero)) a b c = absurd (c refl)
kind-rest (suc (suc (suc n))) a b c = refl

number_lt : (k : Kind) → number_of k < 4
number_lt Nop = omega arith
number_lt Write = omega arith
number_lt Read = omega arith
number_lt Response = omega arith

bit-lt : (b : Bool) → bit b < 2
bit-lt true = omega arith
bit-lt false = omega arith

-- a flag as a number, as the library has it
pub bit-is : (b : Bool) → from_bool b ≡ bit b
bit-is true = refl
bit-is false = refl

-- a bit that was written is read back, and the other way
bit-back : (n : ℕ) (b : Bool) → n ≡ bit b → not (eqb n 0) ≡ b
bit-back n true e = rw (ne_eqb n 0 (omega arith))
bit-back n false e = rw (eq-eqb n 0 e)

back-bit : (n : ℕ) → n < 2 → bit (not (eqb n 0)) ≡ n
back-bit zero h = refl
back-bit (suc zero) h = refl
back-bit (suc (suc n)) h = absurd (omega arith)

-- byte 0 is read back
module _ (tag : ℕ) (kind : Kind) (wide discovery : Bool) (ht : tag < 16) where
  abbrev b0 : ℕ
  b0 = byte0_from tag kind wide discovery

  pub tag_back : tag_of b0 ≡ tag
  unfolding byte0_from
  tag_back = omega (arith, number_lt kind, bit-lt wide, bit-lt discovery)

  pub kind-back : kind_of b0 ≡ kind
  unfolding byte0_from
  kind-back =
      let e : b0 / 16 % 4 ≡ number_of kind = omega (arith, number_lt kind, bit-lt wide, bit-lt discovery) in
      rw e (kind-number kind)

  pub wide_back : wide_of b0 ≡ wide
  unfolding byte0_from
  wide_back = bit-back (b0 / 64 % 2) wide (omega (arith, number_lt kind, bit-lt wide, bit-lt discovery))

  pub discovery-back : discovery_of b0 ≡ discovery
  unfolding byte0_from
  discovery-back = bit-back (b0 / 128 % 2) discovery (omega (arith, number_lt kind, bit-lt wide, bit-lt discovery))

  pub byte0-lt : b0 < 256
  unfolding byte0_from
  byte0-lt = omega (arith, number_lt kind, bit-lt wide, bit-lt discovery)

-- a number by its digits, which `omega` joins where they are plain
joined : (t k w d l m n x : ℕ) → m ≡ k * 16 + t → n ≡ w * 64 + m → x ≡ d * 128 + n → t + 16 * k + 64 * w + 128 * d ≡ x
joined t k w d l m n x p q r = omega arith

-- and is rebuilt from its fields
pub byte0-is : (b : ℕ) → b < 256 → byte0_from (tag_of b) (kind_of b) (wide_of b) (discovery_of b) ≡ b
unfolding byte0_from
byte0-is b h =
    let e : b % 256 ≡ b = omega arith in
    rw (number-kind (b / 16 % 4) (omega arith), back-bit (b / 64 % 2) (omega arith), back-bit (b / 128 % 2) (omega arith))
    (joined _ _ _ _ 0 _ _ _ (mod-mul b {m = 4} {c = 16} (lit< tt) (lit< tt)) (mod-mul b {m = 2} {c = 64} (lit< tt) (lit< tt))
    (mod-mul b {m = 2} {c = 128} (lit< tt) (lit< tt)) ∙ e)

-- a header's fields are read back
module _ (b e n : ℕ) (l : Bool) (hb : b < 256) (he : e < 256) (hn : n < 4096) where
  abbrev h : ℕ
  h = header_from b e n l

  pub byte0-back : byte0_of h ≡ b
  unfolding header_from
  byte0-back = omega (arith, bit-lt l)

  pub byte1-back : byte1_of h ≡ e
  unfolding header_from
  byte1-back = omega (arith, bit-lt l)

  pub count-back : count_of h ≡ n
  unfolding header_from
  count-back = omega (arith, bit-lt l)

  pub reserved-back : reserved_of h ≡ 0
  unfolding header_from
  reserved-back = omega (arith, bit-lt l)

  pub last-back : last_of h ≡ l
  unfolding header_from
  last-back = bit-back (h / 2147483648) l (omega (arith, bit-lt l))

  pub header-lt : h < 4294967296
  unfolding header_from
  header-lt = omega (arith, bit-lt l)

digits : (a b c d e m n x h : ℕ) → m ≡ b * 256 + a → n ≡ c * 65536 + m → x ≡ d * 268435456 + n → h ≡ e * 2147483648 + x → d ≡ 0
    → a + 256 * b + 65536 * c + 2147483648 * e ≡ h
digits a b c d e m n x h p q r s t = omega arith

-- and a header with no reserved bit set is rebuilt from them
pub header_is : (h : ℕ) → h < 4294967296 → reserved_of h ≡ 0 → header_from (byte0_of h) (byte1_of h) (count_of h) (last_of h) ≡ h
unfolding header_from
header_is h w z =
    let e : h ≡ h / 2147483648 * 2147483648 + h % 2147483648 = omega arith in
    rw (back-bit (h / 2147483648) (omega arith))
    (digits _ _ _ _ _ _ _ _ _ (mod-mul h {m = 256} {c = 256} (lit< tt) (lit< tt)) (mod-mul h {m = 4096} {c = 65536} (lit< tt) (lit< tt))
    (mod-mul h {m = 8} {c = 268435456} (lit< tt) (lit< tt)) e z)

-- byte 0 says of a header's form what the header says: its lower byte's bits are its own
pub byte0-bits : (h : ℕ) → (byte0_of h / 16 % 4 ≡ h / 16 % 4) × (byte0_of h / 64 % 2 ≡ h / 64 % 2) × (byte0_of h / 128 % 2 ≡ h / 128 % 2)
byte0-bits h = (omega arith, omega arith, omega arith)

-- how long addresses and data are
address-by-le : (k : Kind) (w : Bool) → address_by k w ≤ 2
address-by-le Nop w = omega arith
address-by-le Write w = omega (arith, bit-lt w)
address-by-le Read w = omega (arith, bit-lt w)
address-by-le Response w = omega arith

pub address-le : (byte0 : ℕ) → address_words byte0 ≤ 2
address-le byte0 = address-by-le (kind_of byte0) (wide_of byte0)

pub data-le : (k : Kind) (n : ℕ) → data_words k n ≤ n
data-le Nop n = omega arith
data-le Write n = omega arith
data-le Read n = omega arith
data-le Response n = omega arith

pub reply-le : (k : Kind) (n : ℕ) → reply_words k n ≤ n
reply-le Nop n = omega arith
reply-le Write n = omega arith
reply-le Read n = omega arith
reply-le Response n = omega arith

-- a header with LAST is the one without it, with bit 31
pub header-last : (b e n : ℕ) → header_from b e n true ≡ header_from b e n false + 2147483648
unfolding header_from
header-last b e n = omega arith

pub header-low : (b e n : ℕ) → b < 256 → e < 256 → n < 4096 → header_from b e n false < 2147483648
unfolding header_from
header-low b e n hb he hn = omega arith
