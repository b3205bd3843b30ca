-- `loader::build::charkhavo_refusal` meets its contract: the walk refuses what cannot be read, by the same refusal. Assumes nothing.
use mathlib.Core.Path.{sym, ◌∙◌, ap}
use Rattle.message.specs.Request.{refusal_in}
use Rattle.message.proofs.Laws.Going.{walk-means, walk-wrong}
use Rattle.loader.proofs.build.charkhavo_refusal.Goals as goal

pub returns-in-Ok : goal.returns-in-Ok
returns-in-Ok c = c.of.ensures ∙ sym (ap refusal_in (walk-means _ _ (sym c.walk.ensures ∙ c.in-Ok.is)).is)

pub returns-in-Err : goal.returns-in-Err
returns-in-Err c = sym (ap refusal_in (walk-wrong _ _ (sym c.walk.ensures ∙ c.in-Err.is)))
