-- `channel_run::loader::send` meets its contract: all the message's bytes, or none. Assumes nothing.
use Rattle.initiator.proofs.Laws.Checked.{sent-whole, sent-refused}
use Rattle.channel_run.proofs.loader.send.Goals as goal

pub returns-in-Ok : goal.returns-in-Ok
returns-in-Ok c =
    let k = rw c.as_slice.ensures at (sent-whole _ _ c.in-Ok.ensures).1 in
    rw (← k)

pub returns-in-Err : goal.returns-in-Err
returns-in-Err c =
    let k = rw c.as_slice.ensures at (sent-refused _ _ c.in-Err.ensures).1 in
    rw (← k)
