-- `loader::sending::charkhavo_take` meets its contract: what the call gives back, as C has it. Assumes nothing.
use Rattle.initiator.proofs.Laws.Checked.{take-taken}
use Rattle.loader.proofs.sending.charkhavo_take.Goals as goal

pub returns : goal.returns
returns c = rw (c.of.ensures, c.take.ensures) (take-taken _ _ _)
