-- `initiator::outcome::told_by` meets its contract: the answer's head, then header by header. Assumes nothing.
use mathlib.Core.Path.{◌∙◌}
use Rattle.std.proofs.lemmas.Result.{err_from_is_err_and}
use Rattle.header.proofs.Laws.Limits.{right}
use Rattle.header.proofs.Laws.Refusal.{ok_of, err_of}
use Rattle.answer.proofs.Laws.Looking.{passed-long}
use Rattle.initiator.proofs.Inner.Told.{told-head, told-through}
use Rattle.initiator.proofs.outcome.told_by.Goals as goal

pub returns-in_err-check_head : goal.returns-in_err-check_head
returns-in_err-check_head c =
    let p = err_from_is_err_and c.from_residual.result c.from_residual.ensures.1 in
    let e = err_of _ tt c.in_err-check_head.ensures in
    rw (p.1, p.2, e.0) (told-head _ _ _ c.requires e.1)

pub look_through-requires-clause-answer_len_bound : goal.look_through-requires-clause-answer_len_bound
look_through-requires-clause-answer_len_bound c =
    (right _ (passed-long c.requires.meaning c.args.answer.now _ (ok_of _ tt c.in_ok-check_head.ensures).0)).most

pub returns : goal.returns
returns c = c.look_through.ensures ∙ told-through _ _ _ c.requires (ok_of _ tt c.in_ok-check_head.ensures).0
