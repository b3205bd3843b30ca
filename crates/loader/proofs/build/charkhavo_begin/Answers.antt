-- `loader::build::charkhavo_begin` meets its contract: the record that begin gives, or the old one. Assumes nothing.
use mathlib.Core.Path.{◌∙◌, ap}
use Rattle.building.specs.Promises.{over}
use Rattle.building.proofs.Laws.Promises.{result-tells}
use Rattle.loader.specs.Build.{begun_over}
use Rattle.loader.proofs.build.charkhavo_begin.Goals as goal

pub returns : goal.returns
unfolding begun_over
returns c = c.leave.ensures ∙ ap (over _) c.begin.ensures ∙ result-tells.begin _ _ _ _ _ _
