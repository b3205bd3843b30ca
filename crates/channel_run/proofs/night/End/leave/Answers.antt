-- `channel_run::night::End::leave` meets its contract: what a reset leaves. Assumes nothing.
use Rattle.channel_run.proofs.night.End.leave.Goals as goal

pub returns-in-Reset : goal.returns-in-Reset
returns-in-Reset c = rw c.in-Reset.is c.fresh.ensures
