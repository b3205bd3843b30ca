-- Building with the record lent and changed in place. Assumes nothing.
use Rattle.std.specs.Prelude.{ℕ, ◌≡◌, Bool, cond, eqb}
use Rattle.header.specs.declared.refusal.Refusal.{Refusal}
use Rattle.building.specs.declared.record.Building.{Building}
use Rattle.building.specs.declared.asked.Asked.{Asked}
use Rattle.building.specs.Build.{Built}
use Rattle.building.specs.Build.{begun}

-- a command's fields, each a parameter
abbrev pub asking : ℕ → ℕ → ℕ → ℕ → Asked
asking address first last count = record { address = address; first = first; last = last; count = count }

-- a refusal, and the record that the call leaves
abbrev pub leaves : Refusal → Building → Built
leaves refusal b = record { refusal = refusal; building = b }

-- "Refusals .. change nothing": the old record where begin is refused
unfoldable pub begun_over : ℕ → Building → ℕ → ℕ → Bool → Bool → Built
begun_over room old kind tag wide discovery =
    let new = begun room kind tag wide discovery in
    cond (eqb new.refusal.number 0) new (leaves new.refusal old)

-- the same of begin, said of the calls: it is refused as begin by value is; accepted, it leaves the record that begin
-- gives, whatever stood there; refused, the record that stood there
abbrev pub BeginInPlace : Type 0
BeginInPlace =
    (room : ℕ) (old : Building) (kind tag : ℕ) (wide discovery : Bool)
    → ((begun_over room old kind tag wide discovery).refusal ≡ (begun room kind tag wide discovery).refusal)
    × ((begun room kind tag wide discovery).refusal.number ≡ 0
    → (begun_over room old kind tag wide discovery).building ≡ (begun room kind tag wide discovery).building)
    × (((begun room kind tag wide discovery).refusal.number ≡ 0 → ⊥)
    → (begun_over room old kind tag wide discovery).building ≡ old)
