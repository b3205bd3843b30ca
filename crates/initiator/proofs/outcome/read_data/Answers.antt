-- `initiator::outcome::read_data` meets its contract: the part, and its words. Assumes nothing.
use Rattle.initiator.specs.Outcome.{cut}
use Rattle.initiator.specs.declared.outcome.Span.{Span}
use mathlib.Core.Path.{◌∙◌, ap}
use native.Mathlib.Omega.{arith}
use lib.ListN.{get_or}
use Rattle.word.specs.Words.{Bytes}
use Rattle.word.proofs.Runs.{below_all}
use Rattle.header.specs.Header.{kind_of}
use Rattle.message.specs.Walk.{read}
use Rattle.initiator.proofs.Inner.Parts.{part-holds}
use Rattle.initiator.proofs.outcome.read_data.Goals as goal

pub returns : goal.returns
returns c =
    let a = c.args in
    let b : Bytes a.answer.now = below_all 256 _ (λ i. let k = c.shared_slice_known-2-1.given i in omega arith) in
    let place = ap (λ (s : Span). cut s a.answer.now) c.read_span-span.ensures.value in
    record { place = place; words = place ∙ (part-holds a.answer.now (kind_of (get_or a.request.now 0 0)) a.k b (read a.request.now)).words }
