-- What follows from what an accepted answer tells, line by line. Whoever stands above an attempt cites these. Assumes
-- nothing.
use Prim.Native.Nat.{ℕ, suc}
use mathlib.Core.Path.{◌≡◌, refl}
use mathlib.Core.Bool.{Bool, true, false, ◌&&◌}
use mathlib.Core.List.{List}
use Rattle.word.specs.Words.{same}
use Rattle.layout.specs.declared.Stage.TheVariants.{Clear, Rows, Back, Mark}
use Rattle.layout.specs.Layout.{row_of, row_count}
use Rattle.table.specs.declared.attempt.Next.{Next}
use Rattle.table.specs.declared.attempt.Next.TheVariants.{Send, Done, Ended}
use Rattle.table.specs.Attempt.{Told, is_ok, wrote_row, read_row, through, marking, next_of}

-- what follows each stage
module _ (rows : List ℕ) (told : Told) where
  pub next-clear : next_of rows Clear told ≡ marking told (Send Rows)
  unfolding next_of
  next-clear = refl

  pub next-rows : next_of rows Rows told ≡ through (wrote_row told) (Send Back) 0 row_count
  unfolding next_of
  next-rows = refl

  pub next-back : next_of rows Back told ≡ through (read_row rows told) (Send Mark) 0 row_count
  unfolding next_of
  next-back = refl

  pub next-mark : next_of rows Mark told ≡ marking told Done
  unfolding next_of
  next-mark = refl

-- the mark: OK, or 25
module _ (told : Told) (on : Next) where
  pub marking-well : is_ok (told.ending 0) ≡ true → marking told on ≡ on
  unfolding marking
  marking-well e = rw e

  pub marking-bad : is_ok (told.ending 0) ≡ false → marking told on ≡ Ended 25
  unfolding marking
  marking-bad e = rw e

-- the rows, one after another
module _ (well : ℕ → Bool) (on : Next) (i : ℕ) where
  pub through-none : through well on i 0 ≡ on
  unfolding through
  through-none = refl

  pub through-well : (n : ℕ) → well i ≡ true → through well on i (suc n) ≡ through well on (suc i) n
  unfolding through
  through-well n e = rw e

  pub through-bad : (n : ℕ) → well i ≡ false → through well on i (suc n) ≡ Ended (suc i)
  unfolding through
  through-bad n e = rw e

-- a row written, and one read
module _ (told : Told) (i : ℕ) where
  pub wrote-is : wrote_row told i ≡ is_ok (told.ending i)
  unfolding wrote_row
  wrote-is = refl

  pub read_is : (rows : List ℕ) → read_row rows told i ≡ (is_ok (told.ending i) && same (told.words i) (row_of rows i))
  unfolding read_row
  read_is rows = refl
