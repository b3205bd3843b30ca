-- `initiator::asking::ask` meets its contract: the walk's refusal, or the discovery bit. Assumes nothing.
use mathlib.Core.Path.{sym, ◌∙◌}
use Rattle.message.proofs.Laws.Going.{walk-means, walk-wrong}
use Rattle.initiator.proofs.Laws.Asked.{ask-refused, ask-plain}
use Rattle.initiator.proofs.asking.ask.Goals as goal

pub returns-in-Err : goal.returns-in-Err
returns-in-Err c = ask-refused _ _ (walk-wrong _ _ (sym c.walk.ensures ∙ c.in-Err.is))

pub returns-in-Ok : goal.returns-in-Ok
returns-in-Ok c =
    let m = walk-means _ _ (sym c.walk.ensures ∙ c.in-Ok.is) in
    c.plain.ensures ∙ ask-plain _ _ m.is m.first
