-- `initiator::outcome::data_span` meets its contract: four bytes a word. Assumes nothing.
use mathlib.Core.Path.{refl}
use Rattle.initiator.specs.Outcome.{span_of}
use Rattle.initiator.proofs.outcome.data_span.Goals as goal

pub returns : goal.returns
unfolding span_of
returns c = refl
