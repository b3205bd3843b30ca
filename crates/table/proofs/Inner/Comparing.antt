-- A part of an answer, compared with words, and a row that is read. The proofs of `same_words` and `came_back` cite
-- these. Assumes nothing.
use Prim.Native.Nat.{ℕ, ◌+◌, ◌/◌, ◌<◌}
use mathlib.Core.Path.{◌≡◌, refl, sym, ap, ◌∙◌}
use mathlib.Core.Bool.{Bool, true, false}
use mathlib.Core.List.{List}
use native.Mathlib.Omega.{arith}
use borrow.Author.Tests.{eqb-true, eqb-false}
use lib.Dec.{eqb}
use lib.ListN.{length, get_or}
use lib.Seq.{ext_get_or}
use Rattle.word.specs.Words.{words_of, bytes_of, Words, same}
use Rattle.word.proofs.Crossing.{words_back, length-words_of}
use Rattle.word.proofs.Rules.{flag-on, flag_off}
use Rattle.word.proofs.Runs.{length-bytes}
use Rattle.word.proofs.Same.{same_self, same-equal}
use Rattle.layout.specs.Layout.{row_of}
use Rattle.table.specs.Attempt.{Told, is_ok, read_row}
use Rattle.table.specs.Comparing.{Compares}
use Rattle.table.proofs.Laws.Attempt.{read_is}

same_not : (xs ys : List ℕ) → (xs ≡ ys → ⊥) → same xs ys ≡ false
same_not xs ys h = go (same xs ys) refl
  where
    go : (t : Bool) → same xs ys ≡ t → same xs ys ≡ false
    go true e = absurd (h (same-equal xs ys e))
    go false e = e

module _ (part row : List ℕ) where
  words_are : (ws : List ℕ) → Words ws → part ≡ bytes_of ws → words_of part ≡ ws
  words_are ws w e = ap words_of e ∙ words_back ws w

  pub other_length : (length part / 4 ≡ length row → ⊥) → Compares part row false
  other_length h ws w e =
      sym (same_not ws row (λ p. h (omega (arith, ap length e, length-bytes ws, ap length p))))

  pub other_word : {x y : ℕ} (j : ℕ) → x ≡ get_or (words_of part) j 0 → y ≡ get_or row j 0
      → (x ≡ y → ⊥) → Compares part row false
  other_word j p q h ws w e =
      sym (same_not ws row (λ z. h (p ∙ ap (λ (l : List ℕ). get_or l j 0) (words_are ws w e ∙ z) ∙ sym q)))

  pub all_same : length part / 4 ≡ length row → ((k : ℕ) → k < length row → get_or (words_of part) k 0 ≡ get_or row k 0)
      → Compares part row true
  all_same n h ws w e =
      let l : length (words_of part) ≡ length row = length-words_of part ∙ n in
      let z : ws ≡ row = sym (words_are ws w e) ∙ ext_get_or 0 (words_of part) row l (λ i k. h i (omega (arith, k, l))) in
      rw z (sym (same_self row))

-- a fact of every number below j, and of j
pub one_more : {P : ℕ → Type 0} (j : ℕ) → ((k : ℕ) → k < j → P k) → P j → (k : ℕ) → k < j + 1 → P k
one_more {P} j h p k l = go (eqb k j) refl
  where
    go : (t : Bool) → eqb k j ≡ t → P k
    go true e = rw (eqb-true k j e) p
    go false e = h k (omega (arith, eqb-false k j e))

-- a row that is read: not OK, or compared
module _ (rows : List ℕ) (told : Told) (i : ℕ) {ok : Bool} (e : ok ≡ is_ok (told.ending i)) where
  pub row-failed : ok ≡ false → false ≡ read_row rows told i
  row-failed h = rw (read_is told i rows, flag_off e h)

  pub row-compared : {r : Bool} {part row : List ℕ} → ok ≡ true → row ≡ row_of rows i → Words (told.words i)
      → part ≡ bytes_of (told.words i) → Compares part row r → r ≡ read_row rows told i
  row-compared h z w p c = rw (read_is told i rows, flag-on e h) (c (told.words i) w p ∙ ap (same (told.words i)) z)
