-- `loader::build::charkhavo_close` meets its contract: what `close` gives, over the lent record. Assumes nothing.
use mathlib.Core.Path.{◌∙◌, ap}
use Rattle.building.specs.Promises.{over}
use Rattle.building.proofs.Laws.Promises.{result-tells}
use Rattle.loader.proofs.build.charkhavo_close.Goals as goal

pub returns : goal.returns
returns c = (c.leave.ensures ∙ ap (over _) c.close.ensures.0 ∙ result-tells.close _ _, c.close.ensures.1)
