-- The address of a command in its words: read, written, put into an output, and back. Assumes nothing.
use Prim.Native.Nat.{ℕ, zero, suc, ◌+◌, ◌*◌, ◌/◌, ◌%◌, ◌<◌, ◌≤◌}
use mathlib.Core.Path.{◌≡◌, refl, sym, ◌∙◌}
use mathlib.Core.List.{List, [], ◌∷◌, ◌++◌}
use native.Mathlib.Omega.{arith}
use native.Mathlib.Nat.{add-zero}
use lib.ListN.{length, get_or, drop}
use lib.Seq.{get_or-drop}
use Rattle.word.specs.Words.{put_words, Words, Below}
use Rattle.word.proofs.Runs.{words-none, words-words}
use Rattle.message.specs.Address.{address_from, address_in, address_top}

-- an address in none, one or two words from word `at` on
module _ (n : ℕ) (ws : List ℕ) (at : ℕ) where
  pub from-none : n ≡ 0 → 0 ≡ address_from n (drop at ws)
  unfolding address_from
  from-none e = rw e

  pub from_one : n ≡ 1 → get_or ws at 0 ≡ address_from n (drop at ws)
  unfolding address_from
  from_one e = rw (e, get_or-drop at ws 0 0, add-zero at)

  pub from-two : (n ≡ 0 → ⊥) → (n ≡ 1 → ⊥) → get_or ws at 0 + 4294967296 * get_or ws (at + 1) 0 ≡ address_from n (drop at ws)
  unfolding address_from
  from-two a b = go n a b
    where
      go : (n : ℕ) → (n ≡ 0 → ⊥) → (n ≡ 1 → ⊥) → get_or ws at 0 + 4294967296 * get_or ws (at + 1) 0 ≡ address_from n (drop at ws)
      go zero a b = absurd (a refl)
      go (suc zero) a b = absurd (b refl)
      go (suc (suc m)) a b = rw (get_or-drop at ws 0 0, get_or-drop at ws 1 0, add-zero at)

-- an address of none, one and two words, and what they can carry
pub in-none : (a : ℕ) → address_in 0 a ≡ []
unfolding address_in
in-none a = refl

pub in_one : (a : ℕ) → address_in 1 a ≡ a ∷ []
unfolding address_in
in_one a = refl

pub in_two : (a : ℕ) → address_in 2 a ≡ a % 4294967296 ∷ a / 4294967296 ∷ []
unfolding address_in
in_two a = refl

pub top-none : address_top 0 ≡ 1
unfolding address_top
top-none = refl

pub top_one : address_top 1 ≡ 4294967296
unfolding address_top
top_one = refl

pub top-two : address_top 2 ≡ 18446744073709551616
unfolding address_top
top-two = refl

-- an address is read back from its words
pub address-long : (n a : ℕ) → n ≤ 2 → length (address_in n a) ≡ n
unfolding address_in
address-long zero a h = refl
address-long (suc zero) a h = refl
address-long (suc (suc zero)) a h = refl
address-long (suc (suc (suc n))) a h = absurd (omega arith)

pub address-back : (n a : ℕ) (r : List ℕ) → a < address_top n → address_from n (address_in n a ++ r) ≡ a
unfolding address_in address_from address_top
address-back zero a r h = omega arith
address-back (suc zero) a r h = refl
address-back (suc (suc n)) a r h = omega arith

pub address-words : (n a : ℕ) → a < address_top n → Words (address_in n a)
unfolding address_in address_top Below
address-words zero a h = tt
address-words (suc zero) a h = (h, tt)
address-words (suc (suc n)) a h = (omega arith, (omega arith, tt))

-- an address's words are rebuilt from it
pub address_is : (n : ℕ) (ws : List ℕ) → n ≤ 2 → n ≤ length ws → Words ws → address_in n (address_from n ws) ++ drop n ws ≡ ws
unfolding address_in address_from Below
address_is zero ws h l e = refl
address_is (suc zero) (w ∷ ws) h l e = refl
address_is (suc (suc zero)) (w ∷ v ∷ ws) h l e =
    let p : (w + 4294967296 * v) % 4294967296 ≡ w = omega (arith, e.0) in
    let q : (w + 4294967296 * v) / 4294967296 ≡ v = omega (arith, e.0) in
    rw (p, q)
address_is (suc (suc (suc n))) ws h l e = absurd (omega arith)
address_is (suc zero) [] h l e = absurd (omega arith)
address_is (suc (suc zero)) [] h l e = absurd (omega arith)
address_is (suc (suc zero)) (w ∷ []) h l e = absurd (omega arith)

pub address-top : (n : ℕ) (ws : List ℕ) → n ≤ length ws → Words ws → address_from n ws < address_top n
unfolding address_from address_top Below
address-top zero ws l e = omega arith
address-top (suc zero) [] l e = omega arith
address-top (suc zero) (w ∷ ws) l e = omega (arith, e.0)
address-top (suc (suc n)) (w ∷ v ∷ ws) l e = omega (arith, e.0, e.1.0)
address-top (suc (suc n)) [] l e = omega arith
address-top (suc (suc n)) (w ∷ []) l e = absurd (omega arith)

-- an address put word by word
pub put-none : (l : List ℕ) (at n a : ℕ) → n ≡ 0 → l ≡ put_words l at (address_in n a)
put-none l at n a e = rw (e, in-none a) (sym (words-none l at))

pub put_one : (l : List ℕ) (at n a : ℕ) {m : List ℕ} → n ≡ 1 → m ≡ put_words l at (a ∷ []) → m ≡ put_words l at (address_in n a)
put_one l at n a e h = rw (e, in_one a) h

pub put_two : (l : List ℕ) (at n a : ℕ) {k m : List ℕ} → n ≡ 2 → 4 * (at + n) ≤ length l
    → k ≡ put_words l at (a % 4294967296 ∷ []) → m ≡ put_words k (at + 1) (a / 4294967296 ∷ []) → m ≡ put_words l at (address_in n a)
put_two l at n a e h p q = rw (e, in_two a) (q ∙ rw p (words-words l at (a % 4294967296 ∷ []) (a / 4294967296 ∷ []) (omega arith)))

pub one-top : (n a : ℕ) → n ≡ 1 → a < address_top n → a < 4294967296
one-top n a e h = rw (e, top_one) at h

-- an address read and put, by how many words it has
pub ruleset by_words = (from-none, from_one, from-two, put-none, put_one, put_two)
