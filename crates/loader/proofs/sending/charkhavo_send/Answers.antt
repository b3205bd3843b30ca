-- `loader::sending::charkhavo_send` meets its contract: the refusal, and all the message's bytes or none. Assumes nothing.
use Rattle.initiator.proofs.Laws.Checked.{sent-whole, sent-refused}
use Rattle.loader.specs.Sending.{sending_of}
use Rattle.loader.proofs.sending.charkhavo_send.Goals as goal

pub returns-in-Ok : goal.returns-in-Ok
unfolding sending_of
returns-in-Ok c =
    let k = sent-whole _ _ c.in-Ok.ensures in
    rw (c.of.ensures, ← k.0, ← k.1)

pub returns-in-Err : goal.returns-in-Err
unfolding sending_of
returns-in-Err c =
    let k = sent-refused _ _ c.in-Err.ensures in
    rw (← k.0, ← k.1)
