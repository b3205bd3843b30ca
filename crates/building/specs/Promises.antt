-- What a refused call leaves, said of the calls and not by their definitions. Assumes nothing.
use Rattle.std.specs.Prelude.{ℕ, ◌≡◌, Bool, cond, eqb, List, Result, Ok, Err}
use Rattle.header.specs.declared.refusal.Refusal.{Refusal}
use Rattle.header.specs.Refusal.{refusal}
use Rattle.building.specs.declared.record.Building.{Building}
use Rattle.building.specs.declared.asked.Asked.{Asked}
use Rattle.building.specs.Build.{Built, built_of, gives, begun, added, added_to, closed, closed_to}
use Rattle.building.specs.Reach.{Reached}

-- "Refusals .. change nothing": adding that is refused leaves the record and the output as they were
abbrev pub RefusedAddStays : Type 0
RefusedAddStays =
    (out : List ℕ) (b : Building) (asked : Asked) (payload : List ℕ)
    → ((added out b asked payload).refusal ≡ refusal 0 → ⊥)
    → ((added out b asked payload).building ≡ b) × (added_to out b asked payload ≡ out)

-- and so does closing
abbrev pub RefusedCloseStays : Type 0
RefusedCloseStays =
    (out : List ℕ) (b : Building) → ((closed out b).refusal ≡ refusal 0 → ⊥)
    → ((closed out b).building ≡ b) × (closed_to out b ≡ out)

-- a record that serves for nothing: no sequence of calls gives it, and 21 refuses adding and closing, which change
-- nothing
pub record Stopped (b : Building) : Type 0 where
  pub never : Reached b → ⊥
  pub add : (out : List ℕ) (asked : Asked) (payload : List ℕ)
      → (added out b asked payload ≡ gives 21 b) × (added_to out b asked payload ≡ out)
  pub close : (out : List ℕ) → (closed out b ≡ gives 21 b) × (closed_to out b ≡ out)

-- whoever went on with the record beside a refused begin, which no call gives, would be stopped at the next call
abbrev pub RefusedBeginStops : Type 0
RefusedBeginStops =
    (room kind tag : ℕ) (wide discovery : Bool) → ((begun room kind tag wide discovery).refusal ≡ refusal 0 → ⊥)
    → Stopped (begun room kind tag wide discovery).building

-- what a function gives back, over the record that was lent: nothing is refused, or the record is as it was
abbrev pub over : Building → Result Building Refusal → Built
over old (Ok new) = gives 0 new
over old (Err refusal) = record { refusal = refusal; building = old }

-- it tells all that the call comes to: a refused add or close leaves the record that was lent, and a begin gives none
pub record ResultTells : Type 0 where
  pub begin : (old : Building) (room kind tag : ℕ) (wide discovery : Bool)
      → let begins = begun room kind tag wide discovery in
      over old (built_of begins)
      ≡ cond (eqb begins.refusal.number 0) begins (record { refusal = begins.refusal; building = old })
  pub add : (out : List ℕ) (b : Building) (asked : Asked) (payload : List ℕ)
      → over b (built_of (added out b asked payload)) ≡ added out b asked payload
  pub close : (out : List ℕ) (b : Building) → over b (built_of (closed out b)) ≡ closed out b

-- [4] "All others .. give 0": no refusal of building has a place
pub record NoPlace : Type 0 where
  pub begin : (room kind tag : ℕ) (wide discovery : Bool) → (begun room kind tag wide discovery).refusal.at ≡ 0
  pub add : (out : List ℕ) (b : Building) (asked : Asked) (payload : List ℕ)
      → (added out b asked payload).refusal.at ≡ 0
  pub close : (out : List ℕ) (b : Building) → (closed out b).refusal.at ≡ 0
