-- `loader::sending::charkhavo_discovered` meets its contract: what the call gives back, as C has it. Assumes nothing.
use Rattle.initiator.proofs.Laws.Checked.{start-moved}
use Rattle.loader.proofs.sending.charkhavo_discovered.Goals as goal

pub returns : goal.returns
returns c = rw (c.of.ensures, c.discovered.ensures, c.stopped.ensures) (start-moved _)
