-- Lists that are the same: what `same` says of them, and that runs of words are the same exactly when their bytes are. Whoever
-- compares a datagram cites these. Assumes nothing.
use Prim.Native.Nat.{ℕ, zero, suc, ◌*◌, ◌/◌, ◌%◌, ◌<◌, ◌≤◌}
use mathlib.Core.Path.{◌≡◌, refl, sym, ap, ◌∙◌}
use mathlib.Core.Bool.{Bool, true, false, ◌&&◌, false≢true}
use mathlib.Core.List.{List, [], ◌∷◌}
use native.Mathlib.Omega.{arith}
use borrow.Author.Tests.{eq-eqb, ne_eqb, eqb-true, eqb-false}
use lib.Dec.{eqb}
use lib.ListN.{length, take, get_or}
use Rattle.word.specs.Words.{word_of, words_of, Below, Bytes, same}
use Rattle.word.specs.Promises.{SameExactly}
use Rattle.word.proofs.Crossing.{byte0, byte1, byte2, byte3}

-- a flag and a test that came out
pub and-true : (b : Bool) → b ≡ b && true
and-true true = refl
and-true false = refl

pub and-false : (b : Bool) → false ≡ b && false
and-false true = refl
and-false false = refl

-- equal lists are the same, and the same lists equal
pub same_self : (a : List ℕ) → same a a ≡ true
unfolding same
same_self [] = refl
same_self (x ∷ a) = rw (eq-eqb x x refl) (same_self a)

pub same-equal : (a b : List ℕ) → same a b ≡ true → a ≡ b
unfolding same
same-equal [] [] e = refl
same-equal [] (y ∷ b) e = absurd (false≢true e)
same-equal (x ∷ a) [] e = absurd (false≢true e)
same-equal (x ∷ a) (y ∷ b) e = go (eqb x y) refl e (λ f. same-equal a b f)
  where
    go : (t : Bool) → eqb x y ≡ t → t && same a b ≡ true → (same a b ≡ true → a ≡ b) → x ∷ a ≡ y ∷ b
    go true q f r = rw (eqb-true x y q, r f)
    go false q f r = absurd (false≢true f)

pub same-exactly : (a b : List ℕ) → SameExactly a b
same-exactly a b = record { equal = same-equal a b; differ = λ e q. false≢true (sym e ∙ rw q (same_self b)) }

-- lists of unlike lengths are not
pub same-long : (a b : List ℕ) → (length a ≡ length b → ⊥) → same a b ≡ false
same-long a b h = go (same a b) refl
  where
    go : (t : Bool) → same a b ≡ t → t ≡ false
    go true e = absurd (h (ap length (same-equal a b e)))
    go false e = refl

-- words of four bytes are equal exactly when the bytes are
module _ (a b c d e f g h : ℕ) (ha : a < 256) (hb : b < 256) (hc : c < 256) (hd : d < 256) (he : e < 256) (hf : f < 256) (hg : g < 256) (hh : h < 256) where
  four_same : eqb (word_of a b c d) (word_of e f g h) ≡ eqb a e && (eqb b f && (eqb c g && eqb d h))
  four_same = go (eqb a e) (eqb b f) (eqb c g) (eqb d h) refl refl refl refl
    where
      w : ℕ
      w = word_of a b c d

      v : ℕ
      v = word_of e f g h

      go : (p q r s : Bool) → eqb a e ≡ p → eqb b f ≡ q → eqb c g ≡ r → eqb d h ≡ s → eqb w v ≡ p && (q && (r && s))
      go true true true true i j k l = eq-eqb w v (rw (eqb-true a e i, eqb-true b f j, eqb-true c g k, eqb-true d h l))
      go true true true false i j k l =
          ne_eqb w v (λ n. eqb-false d h l (sym (byte3 a b c d ha hb hc hd) ∙ ap (λ x. x / 16777216 % 256) n ∙ byte3 e f g h he hf hg hh))
      go true true false s i j k l = ne_eqb w v (λ n. eqb-false c g k (sym (byte2 a b c d ha hb hc) ∙ ap (λ x. x / 65536 % 256) n ∙ byte2 e f g h he hf hg))
      go true false r s i j k l = ne_eqb w v (λ n. eqb-false b f j (sym (byte1 a b c d ha hb) ∙ ap (λ x. x / 256 % 256) n ∙ byte1 e f g h he hf))
      go false q r s i j k l = ne_eqb w v (λ n. eqb-false a e i (sym (byte0 a b c d ha) ∙ ap (λ x. x % 256) n ∙ byte0 e f g h he))

-- so are runs of them
pub same_runs : (n : ℕ) (a b : List ℕ) → Bytes a → Bytes b → 4 * n ≤ length a → 4 * n ≤ length b
    → same (take n (words_of a)) (take n (words_of b)) ≡ same (take (4 * n) a) (take (4 * n) b)
unfolding words_of same Below
same_runs zero a b h k l m = refl
same_runs (suc n) (p ∷ q ∷ r ∷ s ∷ a) (t ∷ u ∷ v ∷ w ∷ b) h k l m =
    let e : 4 * suc n ≡ suc (suc (suc (suc (4 * n)))) = omega arith in
    rw (
      e,
      four_same p q r s t u v w h.0 h.1.0 h.1.1.0 h.1.1.1.0 k.0 k.1.0 k.1.1.0 k.1.1.1.0,
      same_runs n a b h.1.1.1.1 k.1.1.1.1 (omega arith) (omega arith),
    )
    (all-five (eqb p t) (eqb q u) (eqb r v) (eqb s w) _)
  where
    all-five : (f g i j o : Bool) → (f && (g && (i && j))) && o ≡ f && (g && (i && (j && o)))
    all-five true true true j o = refl
    all-five true true false j o = refl
    all-five true false i j o = refl
    all-five false g i j o = refl
same_runs (suc n) [] b h k l m = absurd (omega arith)
same_runs (suc n) (p ∷ []) b h k l m = absurd (omega arith)
same_runs (suc n) (p ∷ q ∷ []) b h k l m = absurd (omega arith)
same_runs (suc n) (p ∷ q ∷ r ∷ []) b h k l m = absurd (omega arith)
same_runs (suc n) (p ∷ q ∷ r ∷ s ∷ a) [] h k l m = absurd (omega arith)
same_runs (suc n) (p ∷ q ∷ r ∷ s ∷ a) (t ∷ []) h k l m = absurd (omega arith)
same_runs (suc n) (p ∷ q ∷ r ∷ s ∷ a) (t ∷ u ∷ []) h k l m = absurd (omega arith)
same_runs (suc n) (p ∷ q ∷ r ∷ s ∷ a) (t ∷ u ∷ v ∷ []) h k l m = absurd (omega arith)

-- one element more
pub same_next : (i : ℕ) (a b : List ℕ) → i < length a → i < length b
    → same (take i a) (take i b) && eqb (get_or a i 0) (get_or b i 0) ≡ same (take (suc i) a) (take (suc i) b)
unfolding same
same_next zero (x ∷ a) (y ∷ b) h k = go (eqb x y)
  where
    go : (t : Bool) → true && t ≡ t && true
    go true = refl
    go false = refl
same_next (suc i) (x ∷ a) (y ∷ b) h k = rw (← same_next i a b (omega arith) (omega arith)) (go (eqb x y) (same (take i a) (take i b)) (eqb (get_or a i 0) (get_or b i 0)))
  where
    go : (t u v : Bool) → (t && u) && v ≡ t && (u && v)
    go true u v = refl
    go false u v = refl
same_next i [] b h k = absurd (omega arith)
same_next i (x ∷ a) [] h k = absurd (omega arith)
