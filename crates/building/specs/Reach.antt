-- "a building record that no sequence of calls gives": the records that some sequence gives. Assumes nothing.
use Rattle.std.specs.Prelude.{ℕ, ◌<◌, ◌≡◌, ◌↔◌, Bool, true, List, length}
use Rattle.word.specs.Words.{Words}
use Rattle.header.specs.Refusal.{refusal}
use Rattle.building.specs.declared.record.Building.{Building}
use Rattle.building.specs.declared.asked.Asked.{Asked}
use Rattle.building.specs.Record.{reachable}
use Rattle.building.specs.Build.{begun, added, closed}

-- what a caller can lend with a command: an address of 64 bits, and words
pub record Lent (asked : Asked) (payload : List ℕ) : Type 0 where
  pub address : asked.address < 18446744073709551616
  pub words : Words payload

-- a record that a sequence of calls gives: an accepted begin, then adding and closing, with any outputs
pub data Reached : Building → Type 0 where
  begins : (out : List ℕ) (kind tag : ℕ) (wide discovery : Bool)
      → (begun (length out) kind tag wide discovery).refusal ≡ refusal 0
      → Reached (begun (length out) kind tag wide discovery).building
  adds : {b : Building} → Reached b → (out : List ℕ) (asked : Asked) (payload : List ℕ) → Lent asked payload
      → Reached (added out b asked payload).building
  closes : {b : Building} → Reached b → (out : List ℕ) → Reached (closed out b).building

-- the formula that 21 tests is that
abbrev pub ReachedExactly : Type 0
ReachedExactly = (b : Building) → Reached b ↔ (reachable b ≡ true)
