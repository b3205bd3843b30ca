-- `completer::verdict::hold` meets its contract: the lengths of a repeat's tag are right. Assumes nothing.
use mathlib.Core.Path.{sym, ap, ◌∙◌}
use Rattle.std.specs.Prelude.{Ok}
use Rattle.completer.proofs.Inner.Verdicts.{repeated}
use Rattle.completer.proofs.verdict.hold.Goals as goal

pub same_request-requires-clause-tag_bound : goal.same_request-requires-clause-tag_bound
same_request-requires-clause-tag_bound c =
    let a = c.args in
    (repeated a.sound.tags a.datagram.now _ c.args.sound.good (sym c.judge.ensures ∙ (c.in_ok-verdict.was ∙ ap Ok c.in-Repeat.is))).lengths.request
