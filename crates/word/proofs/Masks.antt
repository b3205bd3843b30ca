-- Words under a mask of whole bytes. The proofs of `covered` and `merge` cite these. Assumes nothing.
use Prim.Native.Nat.{ℕ, zero, suc, ◌+◌, ◌*◌, ◌^◌, ◌/◌, ◌%◌, ◌<◌, ◌≤◌, suc-le-suc}
use mathlib.Core.Path.{◌≡◌, refl, sym, ap, ap₂, ◌∙◌}
use mathlib.Core.Bool.{Bool, true, false, cond, ◌&&◌}
use native.Mathlib.Omega.{arith}
use native.Mathlib.Nat.{not-suc-le-zero, le_of_suc-le-suc}
use lib.Arith.{bin_ind}
use lib.Dec.{T, eqb, eqb→eq, lit<}
use lib.Bits.{differ, bit_and, bit_xor, and_block, xor_block, and_mask, and_zero_r, xor_zero_r, xor_step, xor_shr, xor_lt, and_lt, and_le_r, block_half, block_odd}
use lib.Ieee.Fits.{and_l, and_r}
use Rattle.word.specs.Enables.{byte_of, bit_of, of_bytes, merged}
use Rattle.word.proofs.Places.{byte-lt, chosen-lt, merge-whole}

-- numbers of the same bytes
same_bytes : (n : ℕ) (a b : ℕ → ℕ) → ((i : ℕ) → i < n → a i ≡ b i) → of_bytes n a ≡ of_bytes n b
unfolding of_bytes
same_bytes zero a b h = refl
same_bytes (suc n) a b h = omega (arith, h 0 (omega arith), same_bytes n (λ i. a (suc i)) (λ i. b (suc i)) (λ i l. h (suc i) (suc-le-suc l)))

-- a word is its bytes: all four merged are it
own-bytes : (w : ℕ) → w < 4294967296 → of_bytes 4 (λ i. byte_of i w) ≡ w
unfolding merged of_bytes bit_of
own-bytes w h = merge-whole 0 w h

-- an operation on bits is one on each byte
module _ (op : ℕ → ℕ → ℕ) (none : op 0 0 ≡ 0)
    (block : (k a b r s : ℕ) → r < 2 ^ k → s < 2 ^ k → op (a * 2 ^ k + r) (b * 2 ^ k + s) ≡ op a b * 2 ^ k + op r s) where
  op_bytes : (n : ℕ) (a b : ℕ → ℕ) → ((i : ℕ) → a i < 256) → ((i : ℕ) → b i < 256) → op (of_bytes n a) (of_bytes n b) ≡ of_bytes n (λ i. op (a i) (b i))
  unfolding of_bytes
  op_bytes zero a b h k = none
  op_bytes (suc n) a b h k =
      let x : ℕ = of_bytes n (λ i. a (suc i)) in
      let y : ℕ = of_bytes n (λ i. b (suc i)) in
      let p : a 0 + 256 * x ≡ x * 256 + a 0 = omega arith in
      let q : b 0 + 256 * y ≡ y * 256 + b 0 = omega arith in
      ap₂ op p q ∙ block 8 x y (a 0) (b 0) (h 0) (k 0)
      ∙ omega (arith, op_bytes n (λ i. a (suc i)) (λ i. b (suc i)) (λ i. h (suc i)) (λ i. k (suc i)))

-- what differs from a in the bits in which a differs from b is b: of one bit, then of all
differ_back : (x y : ℕ) → x < 2 → y < 2 → differ x (differ x y) ≡ y
differ_back zero y h k = refl
differ_back (suc zero) zero h k = refl
differ_back (suc zero) (suc zero) h k = refl
differ_back (suc zero) (suc (suc y)) h k = absurd (omega arith)
differ_back (suc (suc x)) y h k = absurd (omega arith)

xor-back : (a b : ℕ) → bit_xor a (bit_xor a b) ≡ b
xor-back =
    bin_ind (λ (a : ℕ). (b : ℕ) → bit_xor a (bit_xor a b) ≡ b) (λ b. refl)
    (λ a ih b.
    let half : bit_xor a b / 2 ≡ bit_xor (a / 2) (b / 2) = xor_shr a b 1 in
    let low : bit_xor a b % 2 ≡ differ (a % 2) (b % 2) = omega (arith, xor_step a b) in
    xor_step a (bit_xor a b) ∙ ap₂ (λ (x y : ℕ). bit_xor (a / 2) x * 2 + differ (a % 2) y) half low
    ∙ ap₂ (λ (x y : ℕ). x * 2 + y) (ih (b / 2)) (differ_back (a % 2) (b % 2) (omega arith) (omega arith)) ∙ omega arith)

-- the bits that the enables cover: 255 in each enabled byte
abbrev mask : ℕ → ℕ
mask e = of_bytes 4 (λ i. cond (bit_of i e) 255 0)

ones : (e : ℕ) → merged 0 0xFFFF_FFFF e ≡ mask e
unfolding merged of_bytes byte_of
ones e = refl

-- the low n bits, whatever stands above them
low_bits : (n k q r : ℕ) → k < n → bit_of k (q * 2 ^ n + r) ≡ bit_of k r
unfolding bit_of
low_bits zero k q r h = absurd (not-suc-le-zero h)
low_bits (suc n) zero q r h = ap (λ (x : ℕ). eqb x 1) (block_odd q n r)
low_bits (suc n) (suc k) q r h = ap (bit_of k) (block_half q n r) ∙ low_bits n k q (r / 2) (le_of_suc-le-suc h)

-- a test that passes at every number below n passes at each
abbrev passes : ℕ → (ℕ → Bool) → Bool
passes zero f = true
passes (suc n) f = f 0 && passes n (λ i. f (suc i))

passed : (n : ℕ) (f : ℕ → Bool) → T (passes n f) → (k : ℕ) → k < n → T (f k)
passed zero f t k h = absurd (not-suc-le-zero h)
passed (suc n) f t zero h = and_l (f 0) (passes n (λ i. f (suc i))) t
passed (suc n) f t (suc k) h = passed n (λ i. f (suc i)) (and_r (f 0) (passes n (λ i. f (suc i))) t) k (le_of_suc-le-suc h)

-- what `covered` computes: the enables set down every 7 bits, of those the lowest of each byte, then 0 or 255 by it
abbrev product : ℕ → ℕ
product e = e * 0x20_4081

abbrev computed : ℕ → ℕ
computed e = bit_xor (bit_and (product e) 0x0101_0101 + 0x7F7F_7F7F) 0x7F7F_7F7F

pub lowest-le : (e : ℕ) → bit_and (product e) 0x0101_0101 ≤ 0x0101_0101
lowest-le e = and_le_r (product e) 0x0101_0101

-- it is the mask at all sixteen patterns of enables, and higher bits cover nothing
pub covers : (e : ℕ) → computed (e % 16) ≡ merged 0 0xFFFF_FFFF e
unfolding of_bytes bit_of
covers e =
    let q : e / 16 * 16 + e % 16 ≡ e = omega arith in
    eqb→eq (computed (e % 16)) (mask (e % 16)) (passed 16 (λ i. eqb (computed i) (mask i)) tt (e % 16) (omega arith))
    ∙ same_bytes 4 _ _ (λ i l. ap (λ (b : Bool). cond b 255 0) (sym (low_bits 4 i (e / 16) (e % 16) l) ∙ ap (bit_of i) q))
    ∙ sym (ones e)

-- a byte under 255 is the new one, and under 0 the old one
byte-under : (b : Bool) (old new : ℕ) → old < 256 → new < 256 → bit_xor old (bit_and (bit_xor old new) (cond b 255 0)) ≡ cond b new old
byte-under true old new h k =
    ap (bit_xor old) (and_mask (bit_xor old new) 8 ∙ omega (arith, xor_lt 8 old new h k)) ∙ xor-back old new
byte-under false old new h k = ap (bit_xor old) (and_zero_r (bit_xor old new)) ∙ xor_zero_r old

-- and so each byte of a word
under : (o n : ℕ → ℕ) (e : ℕ) → ((i : ℕ) → o i < 256) → ((i : ℕ) → n i < 256)
    → bit_xor (of_bytes 4 o) (bit_and (bit_xor (of_bytes 4 o) (of_bytes 4 n)) (mask e)) ≡ of_bytes 4 (λ i. cond (bit_of i e) (n i) (o i))
under o n e h k =
    let c : ℕ → ℕ = λ i. cond (bit_of i e) 255 0 in
    let d : ℕ → ℕ = λ i. bit_xor (o i) (n i) in
    let c_lt : (i : ℕ) → c i < 256 = λ i. chosen-lt (bit_of i e) 255 0 (lit< tt) (lit< tt) in
    let d-lt : (i : ℕ) → d i < 256 = λ i. xor_lt 8 (o i) (n i) (h i) (k i) in
    ap (λ (x : ℕ). bit_xor (of_bytes 4 o) (bit_and x (mask e))) (op_bytes bit_xor refl xor_block 4 o n h k)
    ∙ ap (bit_xor (of_bytes 4 o)) (op_bytes bit_and refl and_block 4 d c d-lt c_lt)
    ∙ op_bytes bit_xor refl xor_block 4 o (λ i. bit_and (d i) (c i)) h (λ i. and_lt 8 (d i) (c i) (d-lt i) (c_lt i))
    ∙ same_bytes 4 _ _ (λ i l. byte-under (bit_of i e) (o i) (n i) (h i) (k i))

pub merge-under : (old new e : ℕ) {m : ℕ} → old < 4294967296 → new < 4294967296 → m ≡ merged 0 0xFFFF_FFFF e
    → bit_xor old (bit_and (bit_xor old new) m) ≡ merged old new e
unfolding merged
merge-under old new e {m} h k q =
    rw (q, ones e) (rw (own-bytes old h, own-bytes new k) at (under (λ i. byte_of i old) (λ i. byte_of i new) e (λ i. byte-lt i old) (λ i. byte-lt i new)))
