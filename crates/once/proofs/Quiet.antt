-- What comes before the answer is taken is quiet, as it is allowed; Lives.antt cites it. Assumes nothing.
use Prim.Native.Nat.{ℕ}
use mathlib.Core.List.{[], ◌∷◌}
use Rattle.once.specs.Runs.{Always}
use Rattle.once.specs.World.{Ends, other, World, step}
use Rattle.once.specs.Promise.{Terms, Ages, Allowed}
use Rattle.once.specs.Lives.{Others, others, AllQuiet}

module _ {E : Ends} (T : Terms E) (W : ℕ) (A : Ages) where
  pub all_quiet : (w : World E) (xs : Others E) → Always (step E W) (Allowed E T W A) w (others xs) → AllQuiet T xs
  all_quiet w [] a = tt
  all_quiet w (x ∷ xs) a = (a.0, all_quiet (step E W w (other x.0 x.1)) xs a.1)
