-- `initiator::sender::Sender::take` meets its contract: refused by the sender, by the answer, or accepted. Assumes nothing.
use mathlib.Core.Path.{sym, ◌∙◌}
use native.Mathlib.Omega.{arith}
use Rattle.std.proofs.lemmas.Result.{err_from_is_err_and}
use Rattle.word.specs.Words.{Bytes}
use Rattle.word.proofs.Runs.{below_all}
use Rattle.message.proofs.Laws.Going.{read_first}
use Rattle.initiator.proofs.Laws.Asked.{given-ok, given-err}
use Rattle.initiator.proofs.Inner.Sending.{sends, sending-stopped}
use Rattle.initiator.proofs.Inner.Told.{ready}
use Rattle.initiator.proofs.sender.Sender.take.Goals as goal

pub returns-in_err-checked : goal.returns-in_err-checked
returns-in_err-checked c =
    let p = err_from_is_err_and c.from_residual.result c.from_residual.ensures.1 in
    rw (p.1, p.2, c.in_err-checked.ensures.0, sending-stopped c.args.self _ c.in_err-checked.ensures.1)

pub told_by-requires : goal.told_by-requires
told_by-requires c =
    let b : Bytes c.args.message.now = below_all 256 _ (λ i. let k = c.shared_slice_known-1.given i in omega arith) in
    let f = given-ok _ _ (sym c.sending.ensures ∙ c.in_ok-byte0.was) in
    ready _ f.value b (sends _ _ _ f.is).is f.gives

pub returns-in_err-told_by : goal.returns-in_err-told_by
returns-in_err-told_by c =
    let f = given-ok _ _ (sym c.sending.ensures ∙ c.in_ok-byte0.was) in
    let a = rw (sends _ _ _ f.is).is at (given-err _ _ (sym c.told_by.ensures ∙ c.in_err-told_by.was)) in
    let p = err_from_is_err_and c.from_residual-in_err-told_by.result c.from_residual-in_err-told_by.ensures.1 in
    rw (p.1, p.2, ← c.in_ok-checked.ensures.0, f.is, a)

pub accepted_at-requires : goal.accepted_at-requires
accepted_at-requires c =
    let f = given-ok _ _ (sym c.sending.ensures ∙ c.in_ok-byte0.was) in
    (sends _ _ _ f.is).some

pub returns : goal.returns
returns c =
    let f = given-ok _ _ (sym c.sending.ensures ∙ c.in_ok-byte0.was) in
    let r = (sends _ _ _ f.is).is in
    let a = given-ok _ _ (rw r at (sym c.told_by.ensures ∙ c.in_ok-told_by.was)) in
    rw (c.accepted_at.ensures, c.place_in.ensures, c.tag.ensures.value, f.gives, ← (read_first _ _ r).1, ← c.in_ok-checked.ensures.0, f.is, a.is)
