-- `initiator::outcome::answered` meets its contract: what is told. Assumes nothing.
use mathlib.Core.Path.{sym, ◌∙◌}
use Rattle.initiator.specs.Outcome.{told_of}
use Rattle.initiator.proofs.Inner.Told.{told-means, told-silent}
use Rattle.initiator.proofs.outcome.answered.Goals as goal

pub returns-in-Ok : goal.returns-in-Ok
unfolding told_of
returns-in-Ok c =
    let g = told-means _ _ _ (sym c.told.ensures ∙ c.in-Ok.is) in
    rw (g.gives, g.is)

pub returns-in-Err : goal.returns-in-Err
returns-in-Err c = rw (told-silent _ _ _ (sym c.told.ensures ∙ c.in-Err.is))
