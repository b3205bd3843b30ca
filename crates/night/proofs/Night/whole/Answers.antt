-- `night::Night::whole` meets its contract: what the record makes of the controller, and its line. Assumes nothing.
use Rattle.night.proofs.Inner.Turns.{ok-left, err-left}
use Rattle.night.proofs.Night.whole.Goals as goal

pub returns-in-Ok : goal.returns-in-Ok
returns-in-Ok c = ok-left _ c.args.k c.args.got.now _ c.in-Ok.ensures.leaves c.sent.ensures

pub returns-in-Err : goal.returns-in-Err
returns-in-Err c = err-left _ c.args.k c.args.got.now _ c.in-Err.ensures.leaves c.in-Err.ensures.refused c.refused.ensures
