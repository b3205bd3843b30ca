-- `channel_run::loader::hear` meets its contract: the sender that the answer makes, as C has it. Assumes nothing.
use Rattle.initiator.proofs.Laws.Checked.{start-moved}
use Rattle.channel_run.proofs.loader.hear.Goals as goal

pub returns : goal.returns
returns c = rw (c.of.ensures, c.discovered.ensures, c.stopped.ensures, c.as_slice.ensures) (start-moved _)
