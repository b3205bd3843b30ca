-- The table's set-up, its rows, its commands and its messages, for whoever may not open their definitions. Assumes
-- nothing.
use Prim.Native.Nat.{ℕ, suc, ◌+◌, ◌*◌, ◌%◌, ◌<◌, ◌≤◌}
use mathlib.Core.Path.{◌≡◌, refl}
use mathlib.Core.Bool.{Bool, true, false, and-eq-true_iff}
use mathlib.Core.List.{List, [], ◌∷◌, ◌++◌}
use native.Mathlib.Omega.{arith}
use borrow.Author.Tests.{leb-true, eqb-true}
use lib.ListN.{length, get_or}
use Rattle.word.specs.Words.{Words}
use Rattle.word.proofs.Runs.{below-cons, below-nth, below-take}
use Rattle.header.specs.Limits.{tag_count}
use Rattle.header.specs.Header.{tag_of, kind_of, discovery_of}
use Rattle.header.proofs.Laws.Header.{tag_back, kind-back, discovery-back}
use Rattle.header.proofs.Laws.Refusal.{passed}
use Rattle.layout.specs.declared.Stage.{Stage}
use Rattle.layout.specs.Layout.{each_from, row_of, joined, row_address, mark_address, set_up_ok, set_up_fault}
use Rattle.layout.specs.Layout.{row_write, row_read, mark_write, kind_at, commands_at, request_at}

-- a set-up that 40 lets by
pub record Placed (start room : ℕ) : Type 0 where
  pub enough : 193 ≤ room
  pub aligned : start % 4 ≡ 0
  pub ends : start + 4 * room ≤ 4294967296
  pub below : start + 772 ≤ 4294967296

module _ (start room : ℕ) where
  pub set-up-ok : set_up_fault start room ≡ 0 → set_up_ok start room ≡ true
  unfolding set_up_fault
  set-up-ok e = (passed (set_up_ok start room) 40 0 (omega arith) e).0

  pub set-up-fine : set_up_ok start room ≡ true → set_up_fault start room ≡ 0
  unfolding set_up_fault
  set-up-fine e = rw e refl

  pub set-up-refused : set_up_ok start room ≡ false → set_up_fault start room ≡ 40
  unfolding set_up_fault
  set-up-refused e = rw e refl

  pub set-up-off : (set_up_fault start room ≡ 0 → ⊥) → set_up_ok start room ≡ false
  set-up-off h = go (set_up_ok start room) refl
    where
      go : (t : Bool) → set_up_ok start room ≡ t → t ≡ false
      go true e = absurd (h (set-up-fine e))
      go false e = refl

  pub placed : set_up_fault start room ≡ 0 → Placed start room
  unfolding set_up_ok
  placed e =
      let v = (and-eq-true_iff _ _).0 (set-up-ok e) in
      let w = (and-eq-true_iff _ _).0 v.0 in
      let r = leb-true _ _ w.0 in
      let n = leb-true _ _ v.1 in
      record { enough = r; aligned = eqb-true _ _ w.1; ends = n; below = omega (arith, r, n) }

-- each of them, and the rows
pub each_none : {A : Type 0} (f : ℕ → A) (i : ℕ) → each_from f i 0 ≡ []
unfolding each_from
each_none f i = refl

pub each_more : {A : Type 0} (f : ℕ → A) (i n : ℕ) → each_from f i (suc n) ≡ f i ∷ each_from f (suc i) n
unfolding each_from
each_more f i n = refl

pub joined-none : joined [] ≡ []
unfolding joined
joined-none = refl

pub joined-more : (row : List ℕ) (more : List (List ℕ)) → joined (row ∷ more) ≡ row ++ joined more
unfolding joined
joined-more row more = refl

pub row-long : (rows : List ℕ) (i : ℕ) → length (row_of rows i) ≡ 8
unfolding row_of
row-long rows i = refl

pub row_words_lem : (rows : List ℕ) (i : ℕ) → i < 24 → Words rows → Words (row_of rows i)
unfolding row_of
row_words_lem rows i h w =
    let more : (k : ℕ) (l : List ℕ) → Words l → Words (get_or rows k 0 ∷ l) =
    λ k l v. below-cons 4294967296 (get_or rows k 0) l (below-nth 4294967296 rows k w (omega arith)) v in
    below-cons 4294967296 (i + 1) _ (omega arith)
    (more (7 * i) _ (more (7 * i + 1) _ (more (7 * i + 2) _ (more (7 * i + 3) _
    (more (7 * i + 4) _ (more (7 * i + 5) _ (more (7 * i + 6) [] (below-take 4294967296 0 rows w))))))))

-- the commands
pub row-write-is : (start : ℕ) (rows : List ℕ) (i : ℕ)
    → row_write start rows i ≡ record { byte1 = 255; count = 8; address = row_address start i; payload = row_of rows i }
unfolding row_write
row-write-is start rows i = refl

pub row-read-is : (start i : ℕ)
    → row_read start i ≡ record { byte1 = 0; count = 8; address = row_address start i; payload = [] }
unfolding row_read
row-read-is start i = refl

pub mark-write-is : (start value : ℕ)
    → mark_write start value ≡ record { byte1 = 15; count = 1; address = mark_address start; payload = value ∷ [] }
unfolding mark_write
mark-write-is start value = refl

-- the messages
module _ (stage : Stage) (tag start : ℕ) (rows : List ℕ) where
  pub request-commands : (request_at stage tag start rows).commands ≡ commands_at stage start rows
  unfolding request_at
  request-commands = refl

  module _ (small : tag < tag_count) where
    pub request-kind : kind_of (request_at stage tag start rows).byte0 ≡ kind_at stage
    unfolding request_at
    request-kind = kind-back tag (kind_at stage) false false small

    pub request-tag : tag_of (request_at stage tag start rows).byte0 ≡ tag
    unfolding request_at
    request-tag = tag_back tag (kind_at stage) false false small

    pub request-plain : discovery_of (request_at stage tag start rows).byte0 ≡ false
    unfolding request_at
    request-plain = discovery-back tag (kind_at stage) false false small
