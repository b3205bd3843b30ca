-- `completer::verdict::judge` meets its contract: the walk's refusal, or the rule of tags. Assumes nothing.
use mathlib.Core.Path.{sym, ◌∙◌}
use Rattle.std.proofs.lemmas.Result.{err_from_is_err_and}
use Rattle.message.proofs.Laws.Going.{walk-means, walk-wrong}
use Rattle.completer.proofs.Inner.Verdicts.{judged-wrong, judged-means}
use Rattle.completer.proofs.verdict.judge.Goals as goal

pub returns-in_err-byte0 : goal.returns-in_err-byte0
returns-in_err-byte0 c =
    let e = err_from_is_err_and c.from_residual.result c.from_residual.ensures.1 in
    rw (e.1, e.2) (judged-wrong _ c.args.datagram.now (walk-wrong _ _ (sym c.walk.ensures ∙ c.in_err-byte0.was)))

pub returns : goal.returns
returns c =
    let dg = c.args.datagram.now in
    let w = walk-means dg _ (sym c.walk.ensures ∙ c.in_ok-byte0.was) in
    judged-means _ dg w.is w.first c.rule.ensures
