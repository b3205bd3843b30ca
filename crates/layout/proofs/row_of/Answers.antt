-- `layout::row_of` meets its contract: seven words behind the number, and all of them are words. Assumes nothing.
use Prim.Native.Nat.{ℕ, suc, ◌+◌, ◌-◌, ◌*◌, ◌<◌, ◌≤◌}
use mathlib.Core.Path.{◌≡◌, refl}
use mathlib.Core.List.{List, [], ◌∷◌, ◌++◌}
use native.Mathlib.Omega.{arith}
use lib.ListN.{length, get_or, take, drop}
use lib.Seq.{drop-cons}
use Rattle.word.proofs.Runs.{below_all}
use Rattle.layout.specs.Layout.{row_of}
use Rattle.layout.proofs.Laws.Layout.{row_words_lem}
use Rattle.layout.proofs.row_of.Goals as goal

-- what lies behind an index, from the next one on
behind : (l : List ℕ) (k j : ℕ) → j ≡ suc k → k < length l → drop k l ≡ get_or l k 0 ∷ drop j l
behind l k j e h = rw e (drop-cons l k 0 h)

seven : (l : List ℕ) (k n : ℕ) → n ≡ 7 → k + 7 ≤ length l
    → take n (drop k l)
    ≡ get_or l k 0 ∷ get_or l (k + 1) 0 ∷ get_or l (k + 2) 0 ∷ get_or l (k + 3) 0 ∷ get_or l (k + 4) 0
    ∷ get_or l (k + 5) 0 ∷ get_or l (k + 6) 0 ∷ []
seven l k n e h =
    rw (
      e,
      behind l k (k + 1) (omega arith) (omega arith),
      behind l (k + 1) (k + 2) (omega arith) (omega arith),
      behind l (k + 2) (k + 3) (omega arith) (omega arith),
      behind l (k + 3) (k + 4) (omega arith) (omega arith),
      behind l (k + 4) (k + 5) (omega arith) (omega arith),
      behind l (k + 5) (k + 6) (omega arith) (omega arith),
      behind l (k + 6) (k + 7) (omega arith) (omega arith),
    ) refl

copied : (l : List ℕ) (i : ℕ) {row : List ℕ} → i < 24 → length l ≡ 168 → row ≡ take (7 * i + 7 - 7 * i) (drop (7 * i) l)
    → (i + 1) ∷ (row ++ []) ≡ row_of l i
unfolding row_of
copied l i h n e = rw (e, seven l (7 * i) (7 * i + 7 - 7 * i) (omega arith) (omega arith)) refl

pub returns : goal.returns
returns c =
    let e = copied c.args.rows.now c.args.i c.requires c.told-rows c.copy_from_slice.ensures.after in
    record { value = e; words = rw e (row_words_lem _ c.args.i c.requires (below_all 4294967296 _ c.fits-rows)) }
