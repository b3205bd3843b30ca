-- `building::build::close` meets its contract: the last header stands in the output. Assumes nothing.
use lib.ListN.{length}
use mathlib.Core.Path.{◌≡◌}
use native.Mathlib.Omega.{arith}
use Rattle.std.proofs.lemmas.Grind.{common_steps}
use Rattle.building.specs.Build.{close_fault}
use Rattle.building.proofs.Inner.Passed.{closes}
use Rattle.building.proofs.build.close.Goals as goal

pub set_last-requires : goal.set_last-requires
set_last-requires c =
    let z : close_fault (length c.args.out.now) c.args.b ≡ 0 = grind (arith, common_steps) in
    let k = closes (length c.args.out.now) c.args.b z in
    omega (arith, k.long, k.some.last, k.some.words)
