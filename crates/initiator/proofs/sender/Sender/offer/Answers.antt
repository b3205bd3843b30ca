-- `initiator::sender::Sender::offer` meets its contract: each check is a line of `offering`. Assumes nothing.
use mathlib.Core.Path.{sym, ◌∙◌}
use Rattle.std.proofs.lemmas.Result.{err_from_is_err_and}
use Rattle.word.proofs.Rules.{flag-on, flag_off}
use Rattle.initiator.proofs.Laws.Asked.{given-ok, given-err}
use Rattle.initiator.proofs.Inner.Sending.{offering-stopped, offering-full, offering-asks}
use Rattle.initiator.proofs.sender.Sender.offer.Goals as goal

pub returns-in_err-checked : goal.returns-in_err-checked
returns-in_err-checked c =
    let p = err_from_is_err_and c.from_residual.result c.from_residual.ensures.1 in
    rw (p.1, p.2, c.in_err-checked.ensures.0, offering-stopped c.args.self _ c.in_err-checked.ensures.1)

pub returns-then-not-has_room : goal.returns-then-not-has_room
returns-then-not-has_room c =
    let k = c.in_ok-checked.ensures in
    let e = rw k.0 at (flag_off c.has_room.ensures c.if-not-has_room.true) in
    rw (c.of.ensures, offering-full c.args.self _ k.1 e)

pub returns-in_err-ask_as : goal.returns-in_err-ask_as
returns-in_err-ask_as c =
    let k = c.in_ok-checked.ensures in
    let e = rw k.0 at (flag-on c.has_room.ensures c.if-not-has_room.false) in
    let a = given-err _ _ (rw (c.new_tag.ensures, k.0) at (sym c.ask_as.ensures ∙ c.in_err-ask_as.was)) in
    let p = err_from_is_err_and c.from_residual-in_err-ask_as.result c.from_residual-in_err-ask_as.ensures.1 in
    rw (p.1, p.2, offering-asks c.args.self _ k.1 e, a)

pub returns : goal.returns
returns c =
    let k = c.in_ok-checked.ensures in
    let e = rw k.0 at (flag-on c.has_room.ensures c.if-not-has_room.false) in
    let a = given-ok _ _ (rw (c.new_tag.ensures, k.0) at (sym c.ask_as.ensures ∙ c.in_ok-ask_as.was)) in
    rw (c.with_one.ensures, k.0, offering-asks c.args.self _ k.1 e, a.is)
