-- `loader::build::charkhavo_add` meets its contract: what `add` gives, over the lent record. Assumes nothing.
use mathlib.Core.Path.{◌∙◌, ap}
use Rattle.building.specs.Promises.{over}
use Rattle.building.proofs.Laws.Promises.{result-tells}
use Rattle.loader.proofs.build.charkhavo_add.Goals as goal

pub returns : goal.returns
returns c = (c.leave.ensures ∙ ap (over _) c.add.ensures.0 ∙ result-tells.add _ _ _ _, c.add.ensures.1)
