-- `initiator::outcome::read_span` meets its contract: what is told, and it lies inside the answer. Assumes nothing.
use mathlib.Core.Path.{refl, sym, ◌∙◌}
use native.Mathlib.Omega.{arith}
use lib.ListN.{get_or}
use Rattle.word.specs.Words.{Bytes}
use Rattle.word.proofs.Runs.{below_all}
use Rattle.header.specs.Header.{kind_of}
use Rattle.message.specs.Walk.{read}
use Rattle.initiator.specs.Outcome.{told_of}
use Rattle.initiator.proofs.Inner.Parts.{part-holds}
use Rattle.initiator.proofs.Inner.Told.{told-means, told-silent}
use Rattle.initiator.proofs.outcome.read_span.Goals as goal

pub returns-in-Ok : goal.returns-in-Ok
unfolding told_of
returns-in-Ok c =
    let a = c.args in
    let b : Bytes a.answer.now = below_all 256 _ (λ i. let k = c.shared_slice_known-2-1.given i in omega arith) in
    let holds = part-holds a.answer.now (kind_of (get_or a.request.now 0 0)) a.k b (read a.request.now) in
    let g = told-means _ _ _ (sym c.told.ensures ∙ c.in-Ok.is) in
    let v = rw g.is at holds in
    rw (g.gives, g.is) (record { value = refl; inside = (v.ordered, v.inside) })

pub returns-in-Err-clause-value : goal.returns-in-Err-clause-value
returns-in-Err-clause-value c = rw (told-silent _ _ _ (sym c.told.ensures ∙ c.in-Err.is))
