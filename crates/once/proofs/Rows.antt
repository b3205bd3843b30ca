-- Messages in a row: message i is plain and has the tag that is i after the first. Cited by Stored.antt, Waiting.antt
-- and Tags.antt. Assumes nothing.
use Prim.Native.Nat.{ℕ, ◌+◌, ◌%◌, ◌<◌}
use mathlib.Core.Path.{◌≡◌}
use mathlib.Core.Logic.{⊎_elim}
use mathlib.Core.Option.{some}
use mathlib.Core.List.{List, [], ◌∷◌, ◌++◌}
use native.Mathlib.Omega.{arith}
use lib.ListN.{length, get_elem?}
use Rattle.once.specs.World.{Ends}
use Rattle.once.specs.Promise.{Terms}
use Rattle.once.specs.Tags.{Sight}
use Rattle.once.proofs.Lists.{newly}

-- what is added to a remainder may be added before it is taken
pub on-mod : (x y : ℕ) → (x % 16 + y) % 16 ≡ (x + y) % 16
on-mod x y = omega arith

-- two numbers less than 16 apart with one remainder are one
pub same : (x y : ℕ) → x % 16 ≡ y % 16 → x < y + 16 → y < x + 16 → x ≡ y
same x y e a b = omega arith

module _ {E : Ends} {T : Terms E} (S : Sight E T) (s₀ : E.Sender) where
  -- message i is plain, and its tag is i after the first
  abbrev pub Numbered : ℕ → E.Message → Type 0
  Numbered i d = S.Plain d × (S.tag d ≡ (S.next s₀ + i) % 16)

  -- Each of the messages ds is so.
  abbrev pub Row : List E.Message → Type 0
  Row ds = (i : ℕ) (d : E.Message) → get_elem? ds i ≡ some d → Numbered i d

  -- none is so, and one more is
  pub row-none : Row []
  row-none i d e = let z : ◌≡◌ {A = ℕ} 0 1 = cc in absurd (omega arith)

  pub row_more : (ds : List E.Message) (d : E.Message) → Row ds → Numbered (length ds) d → Row (ds ++ d ∷ [])
  row_more ds d r n i e h = ⊎_elim (λ x. r i e x) (λ x. rw (x.0, ← x.1) n) (newly ds d i e h)
