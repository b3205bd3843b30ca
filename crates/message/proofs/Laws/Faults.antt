-- A header's faults and a reading's checks, passed one by one. The laws of requests and answers cite these. Assumes nothing.
use Prim.Native.Nat.{ℕ, zero, suc, ◌+◌, ◌*◌, ◌/◌, ◌%◌, ◌≤◌}
use mathlib.Core.Path.{◌≡◌, refl, sym, ap, ◌∙◌}
use mathlib.Core.Bool.{Bool, true, false, not, cond, ◌&&◌, or-true, and-eq-true_iff, false≢true}
use mathlib.Core.List.{List, [], ◌∷◌}
use native.Mathlib.Nat.{add-zero, div-div-eq-div-mul, mul-mod_right}
use native.Mathlib.Omega.{arith}
use borrow.Author.Tests.{eqb-true, leb-true, eq-eqb, ne_eqb, le-leb}
use lib.Dec.{leb, eqb}
use lib.ListN.{length, get_or, drop}
use lib.Seq.{get_or-drop}
use Rattle.word.proofs.Crossing.{length-words_of}
use Rattle.header.specs.declared.refusal.Refusal.{Refusal}
use Rattle.header.specs.declared.Kind.{Kind}
use Rattle.header.specs.declared.Kind.TheVariants.{Nop, Write, Read as Reads, Response}
use Rattle.header.specs.Header.{kind_of, wide_of, byte0_of, byte1_of, first_field, last_field, count_of, reserved_of, last_of, bit}
use Rattle.header.specs.Header.{address_words, data_words, body_words, head_of, ends_ok}
use Rattle.header.specs.Refusal.{refused_at}
use Rattle.header.proofs.Laws.Refusal.{passed}
use Rattle.std.specs.Prelude.{Ok, Err}
use Rattle.message.specs.Faults.{asks, is_write, count_ok, gaps_ok, first_field_ok, last_field_ok, gapless, pattern_ok, enables_ok, fault_of}
use Rattle.message.specs.Walk.{step_on, commands_from}
use Rattle.message.specs.Request.{Reading, Refused, Means, before}
use Rattle.message.specs.Address.{address_from}

-- how many words a datagram has
pub ruleset counted_words = (length-words_of)

-- what stands in a header without fault
pub record Sound (byte0 h left address : ℕ) : Type 0 where
  pub same : byte0_of h ≡ byte0
  pub asking : asks (kind_of byte0) ≡ true
  pub clear : reserved_of h ≡ 0
  pub counted : count_ok (kind_of byte0) (count_of h) ≡ true
  pub enabled : enables_ok (kind_of byte0) (count_of h) address (byte1_of h) ≡ true
  pub within : body_words byte0 (count_of h) ≤ left
  pub ends : ends_ok (last_of h) (body_words byte0 (count_of h)) left ≡ true

pub sound : (byte0 h left address : ℕ) → fault_of byte0 h left address ≡ 0 → Sound byte0 h left address
unfolding fault_of
sound byte0 h left address e =
    let p4 = passed (eqb (byte0_of h) byte0) 4 _ (omega arith) e in
    let p5 = passed (asks (kind_of byte0)) 5 _ (omega arith) p4.1 in
    let p6 = passed (eqb (reserved_of h) 0) 6 _ (omega arith) p5.1 in
    let p7 = passed (count_ok (kind_of byte0) (count_of h)) 7 _ (omega arith) p6.1 in
    let p3 = passed (leb (address_words byte0) left) 3 _ (omega arith) p7.1 in
    let p8 = passed (enables_ok (kind_of byte0) (count_of h) address (byte1_of h)) 8 _ (omega arith) p3.1 in
    let q3 = passed (leb (body_words byte0 (count_of h)) left) 3 _ (omega arith) p8.1 in
    let p9 = passed (ends_ok (last_of h) (body_words byte0 (count_of h)) left) 9 0 (omega arith) q3.1 in
    record {
      same = eqb-true _ _ p4.0;
      asking = p5.0;
      clear = eqb-true _ _ p6.0;
      counted = p7.0;
      enabled = p8.0;
      within = leb-true _ _ q3.0;
      ends = p9.0;
    }

pub faultless : (byte0 h left address : ℕ) → Sound byte0 h left address → fault_of byte0 h left address ≡ 0
unfolding fault_of
faultless byte0 h left address s =
    rw (
      eq-eqb _ _ s.same,
      s.asking,
      eq-eqb _ _ s.clear,
      s.counted,
      le-leb (address_words byte0) left (omega (arith, s.within)),
      s.enabled,
      le-leb _ _ s.within,
      s.ends,
    )

-- a write's kind
pub write_is : (k : Kind) → is_write k ≡ true → k ≡ Write
write_is Nop e = cc
write_is Write e = refl
write_is Reads e = cc
write_is Response e = cc

-- a body that stands, and the last of its words where its header is LAST
standing : (last : Bool) (body left : ℕ) → cond last (eqb left body) (leb body left) ≡ true → (body ≤ left) × (ends_ok last body left ≡ true)
standing true body left e = let same = eqb-true left body e in (omega arith, e)
standing false body left e = (leb-true _ _ e, refl)

-- a write of one word, the header's bits 30:12 being 16: no fault, whatever its address, if its body stands
pub short_faultless : (byte0 h left : ℕ) → is_write (kind_of byte0) ≡ true → byte0_of h ≡ byte0 → h / 4096 % 524288 ≡ 16
    → cond (last_of h) (eqb left (address_words byte0 + 1)) (leb (address_words byte0 + 1) left) ≡ true
    → (kind_of byte0 ≡ Write) × (count_of h ≡ 1) × ((address : ℕ) → fault_of byte0 h left address ≡ 0)
unfolding pattern_ok
short_faultless byte0 h left writes same bits there =
    let kind = write_is (kind_of byte0) writes in
    let stands = standing (last_of h) (address_words byte0 + 1) left there in
    let one : count_of h ≡ 1 = omega (arith, bits) in
    let last : byte1_of h / 16 ≡ 0 = omega (arith, bits) in
    let high : h / 268435456 ≡ 8 * (h / 4096 / 524288) = sym (div-div-eq-div-mul h 4096 65536) ∙ omega (arith, bits) in
    let body : body_words byte0 (count_of h) ≡ address_words byte0 + 1 = rw (kind, one) in (
      kind,
      one,
      λ address. faultless byte0 h left address
          (record {
            same = same;
            asking = rw kind;
            clear = rw high (mul-mod_right 8 _);
            counted = rw (kind, one);
            enabled = rw (kind, one, last);
            within = rw body stands.0;
            ends = rw body stands.1;
          }),
    )

-- a read of some words, the header's bits 31:28 being 8: no fault, if its address and nothing else follows it
pub read_faultless : (byte0 h left : ℕ) → kind_of byte0 ≡ Reads → byte0_of h ≡ byte0 → h / 268435456 ≡ 8
    → (count_of h ≡ 0 → ⊥) → left ≡ address_words byte0 → (address : ℕ) → fault_of byte0 h left address ≡ 0
read_faultless byte0 h left kind same bits some ends address =
    let last : last_of h ≡ true = rw (sym (div-div-eq-div-mul h 268435456 8), bits) in
    let none : data_words (kind_of byte0) (count_of h) ≡ 0 = rw kind in
    let body : body_words byte0 (count_of h) ≡ left = omega (arith, none, ends) in
    faultless byte0 h left address
    (record {
      same = same;
      asking = rw kind;
      clear = rw bits;
      counted = rw kind (le-leb 1 (count_of h) (omega (arith, some)));
      enabled = rw kind;
      within = rw body (omega arith);
      ends = rw (last, body) (eq-eqb left left refl);
    })

-- a step by its header's fault
pub step-read : (byte0 at h left address : ℕ) → fault_of byte0 h left address ≡ 0 → step_on byte0 at h left address ≡ Ok (head_of byte0 h)
unfolding step_on
step-read byte0 at h left address e = rw (eq-eqb _ _ e)

pub step-refused : (byte0 at h left address : ℕ) → (fault_of byte0 h left address ≡ 0 → ⊥)
    → step_on byte0 at h left address ≡ Err (refused_at (fault_of byte0 h left address) at)
unfolding step_on
step-refused byte0 at h left address e = rw (ne_eqb _ _ e)

-- a header's fault, and that it has none, by the words that follow it
abbrev pub fault_before : ℕ → ℕ → List ℕ → ℕ
fault_before byte0 h rest = fault_of byte0 h (length rest) (address_from (address_words byte0) rest)

abbrev pub SoundBefore : ℕ → ℕ → List ℕ → Type 0
SoundBefore byte0 h rest = Sound byte0 h (length rest) (address_from (address_words byte0) rest)

-- fields without a gap are nonzero: for every count but 1 they are allowed, at every address
passes-some : (ok : ℕ → Bool) → ok 0 ≡ false → (n : ℕ) → ok n ≡ true → eqb n 0 ≡ false
passes-some ok z n e = ne_eqb n 0 (λ q. false≢true (sym z ∙ ap ok (sym q) ∙ e))

pub gapless_pattern : (count address first last : ℕ) → gapless first last ≡ true → not (eqb count 1) ≡ pattern_ok count address first last
unfolding pattern_ok
gapless_pattern count address first last e =
    let f = (and-eq-true_iff (first_field_ok first) (last_field_ok last)).0 e in
    rw (e, passes-some first_field_ok refl first f.0, passes-some last_field_ok refl last f.1, or-true (gaps_ok count address)) (go (eqb count 1))
  where
    go : (b : Bool) → not b ≡ cond b false true && true
    go true = refl
    go false = refl

-- of a write's address the lowest word is enough: 2^32 is a multiple of 8
pattern_low : (wide : Bool) (count first last : ℕ) (rest : List ℕ) → pattern_ok count (get_or rest 0 0) first last ≡ pattern_ok count (address_from (1 + bit wide) rest) first last
unfolding pattern_ok address_from
pattern_low false count first last rest = refl
pattern_low true count first last rest =
    let e : (get_or rest 0 0 + 4294967296 * get_or rest 1 0) % 8 ≡ get_or rest 0 0 % 8 = omega arith in
    rw e

pub enables_low : (byte0 count byte1 at : ℕ) (ws : List ℕ) → kind_of byte0 ≡ Write
    → pattern_ok count (get_or ws at 0) (first_field byte1) (last_field byte1) ≡ enables_ok (kind_of byte0) count (address_from (address_words byte0) (drop at ws)) byte1
enables_low byte0 count byte1 at ws kind =
    let low : get_or (drop at ws) 0 0 ≡ get_or ws at 0 = get_or-drop at ws 0 0 ∙ ap (λ (n : ℕ). get_or ws n 0) (add-zero at) in
    rw (kind, ← low) (pattern_low (wide_of byte0) count (first_field byte1) (last_field byte1) (drop at ws))

-- a refusal is no meaning
pub no-mean : {A B : Type 0} {r : Refusal} {a : A} → Refused r ≡ Means a → B
no-mean e = cc

pub same-refusal : {A : Type 0} {q r : Refusal} → ◌≡◌ {A = Reading A} (Refused q) (Refused r) → q ≡ r
same-refusal e = cc

-- a check that let a reading by
pub past : {A : Type 0} (ok : Bool) (r : Refusal) (x : Reading A) {a : A} → cond ok x (Refused r) ≡ Means a → (ok ≡ true) × (x ≡ Means a)
past true r x e = (refl, e)
past false r x e = cc

pub before-is : {A : Type 0} (c : A) (p : Reading (List A)) (cs : List A) → before c p ≡ Means cs → (ds : List A) × (p ≡ Means ds) × (cs ≡ c ∷ ds)
before-is c (Refused r) cs e = cc
before-is c (Means ds) cs e = (ds, refl, (cc))

pub before-wrong : {A : Type 0} (c : A) (p : Reading (List A)) {r : Refusal} → before c p ≡ Refused r → p ≡ Refused r
before-wrong c (Refused r) e = e
before-wrong c (Means ds) e = cc

-- skipped words are dropped
pub skipped : (byte0 at n : ℕ) (ws : List ℕ) → commands_from byte0 at n ws ≡ commands_from byte0 at 0 (drop n ws)
unfolding commands_from
skipped byte0 at zero ws = refl
skipped byte0 at (suc n) [] = refl
skipped byte0 at (suc n) (w ∷ ws) = skipped byte0 at n ws
