-- `tags::record::one_at` meets its contract, by whether it is the place. Assumes nothing.
use Rattle.word.proofs.Rules.{tests}
use Rattle.tags.proofs.record.one_at.Goals as goal

pub returns-then-at-place : goal.returns-then-at-place
returns-then-at-place c = search tests

pub returns : goal.returns
returns c = search tests
