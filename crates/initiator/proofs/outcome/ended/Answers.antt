-- `initiator::outcome::ended` meets its contract: what is told. Assumes nothing.
use mathlib.Core.Path.{sym, ◌∙◌}
use Rattle.initiator.proofs.Inner.Told.{ended-some, ended-none}
use Rattle.initiator.proofs.outcome.ended.Goals as goal

pub returns-in_err-ok : goal.returns-in_err-ok
returns-in_err-ok c = rw c.from_residual.ensures (ended-none _ _ _ _ (sym c.told.ensures) (sym c.ok.ensures.value ∙ c.in_err-ok.was))

pub returns : goal.returns
returns c = ended-some _ _ _ _ (sym c.told.ensures) (sym c.ok.ensures.value ∙ c.in_ok-ok.was)
