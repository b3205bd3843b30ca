-- `building::record::Building::add_fault` meets its contract: a record that can be used has a tag of four bits. Assumes nothing.
use mathlib.Core.Path.{◌≡◌}
use mathlib.Core.Bool.{true}
use native.Mathlib.Omega.{arith}
use Rattle.std.proofs.lemmas.Grind.{common_steps}
use Rattle.building.specs.Build.{usable}
use Rattle.building.proofs.Inner.Passed.{usable-bounded}
use Rattle.building.proofs.record.Building.add_fault.Goals as goal

pub byte0-byte0-requires : goal.byte0-byte0-requires
byte0-byte0-requires c =
    let u : usable c.args.room c.args.self ≡ true = grind (arith, common_steps) in
    (usable-bounded c.args.room c.args.self u).tag
