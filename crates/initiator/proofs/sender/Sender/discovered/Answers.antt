-- `initiator::sender::Sender::discovered` meets its contract: check by check. Assumes nothing.
use mathlib.Core.Path.{sym, ap, ◌∙◌}
use native.Mathlib.Omega.{arith}
use Rattle.std.specs.Prelude.{Err}
use Rattle.std.proofs.lemmas.Result.{err_from_is_err_and}
use Rattle.word.proofs.Crossing.{length-words_of}
use Rattle.header.proofs.Laws.Refusal.{ok_of, err_of}
use Rattle.message.proofs.Laws.Fixed.{discovery-byte}
use Rattle.answer.specs.declared.Status.TheVariants.{Ok}
use Rattle.initiator.specs.Sender.{sender_from}
use Rattle.initiator.proofs.Laws.Starting.{start-head, start-bad, start-found, start-as, start-failed, start-two, start_word}
use Rattle.initiator.proofs.sender.Sender.discovered.Goals as goal

pub returns-in_err-check_head : goal.returns-in_err-check_head
returns-in_err-check_head c =
    let p = err_from_is_err_and c.from_residual.result c.from_residual.ensures.1 in
    let e = err_of _ tt c.in_err-check_head.ensures in
    rw (p.1, p.2, e.0) (start-head _ _ (c.byte0_from-byte0.ensures.value ∙ discovery-byte) e.1)

pub returns-in_err-seen : goal.returns-in_err-seen
returns-in_err-seen c =
    let b = c.byte0_from-byte0.ensures.value ∙ discovery-byte in
    let n = (ok_of _ tt c.in_ok-check_head.ensures).0 in
    let p = err_from_is_err_and c.from_residual-in_err-seen.result c.from_residual-in_err-seen.ensures.1 in
    rw (p.1, p.2) (start-bad _ _ b n _ (sym c.look_at.ensures ∙ c.in_err-seen.was))

pub word_at-requires : goal.word_at-requires
word_at-requires c =
    let b = c.byte0_from-byte0.ensures.value ∙ discovery-byte in
    let n = (ok_of _ tt c.in_ok-check_head.ensures).0 in
    let s = sym c.look_at.ensures ∙ c.in_ok-seen.was in
    omega (
      arith,
      length-words_of c.args.answer.now,
      (start-found _ _ b n _ s).within,
      start-two _ _ b n _ s c.in-Ok.is,
    )

pub returns-in-Ok : goal.returns-in-Ok
returns-in-Ok c =
    let b = c.byte0_from-byte0.ensures.value ∙ discovery-byte in
    let n = (ok_of _ tt c.in_ok-check_head.ensures).0 in
    let s = sym c.look_at.ensures ∙ c.in_ok-seen.was in
    let word = start_word _ _ b n _ s c.in-Ok.is in
    c.sender_from.ensures ∙ ap sender_from (c.word_at.ensures ∙ sym word) ∙ start-as _ _ b n _ s Ok c.in-Ok.is

pub returns-in-Timeout : goal.returns-in-Timeout
returns-in-Timeout c =
    let b = c.byte0_from-byte0.ensures.value ∙ discovery-byte in
    let n = (ok_of _ tt c.in_ok-check_head.ensures).0 in
    let s = sym c.look_at.ensures ∙ c.in_ok-seen.was in
    ap Err c.of.ensures ∙ start-failed _ _ b n _ s c.in-Timeout.is
