-- `channel_run::loader::take` meets its contract: what taking the answer came to. Assumes nothing.
use Rattle.initiator.proofs.Laws.Checked.{take-taken}
use Rattle.channel_run.proofs.loader.take.Goals as goal

pub returns : goal.returns
returns c = rw (c.of-taken.ensures, c.take.ensures, c.as_slice.ensures, c.as_slice-2.ensures, take-taken)
