-- `initiator::sender::Sender::send` meets its contract: the lent message, or what refuses it. Assumes nothing.
use Rattle.std.proofs.lemmas.Result.{err_from_is_err_and}
use Rattle.initiator.proofs.Inner.Sending.{sending-stopped}
use Rattle.initiator.proofs.sender.Sender.send.Goals as goal

pub returns-in_err-checked : goal.returns-in_err-checked
returns-in_err-checked c =
    let p = err_from_is_err_and c.from_residual.result c.from_residual.ensures.1 in
    rw (p.1, p.2, c.in_err-checked.ensures.0, sending-stopped c.args.self _ c.in_err-checked.ensures.1)
