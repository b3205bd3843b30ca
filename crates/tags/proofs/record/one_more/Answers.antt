-- `tags::record::one_more` meets its contract. Assumes nothing.
use Rattle.word.proofs.Rules.{tests}
use Rattle.tags.specs.Record.{one_more}
use Rattle.tags.proofs.record.one_more.Goals as goal

pub returns-then-held-lt-PLACES : goal.returns-then-held-lt-PLACES
unfolding one_more
returns-then-held-lt-PLACES c = search tests

pub returns : goal.returns
unfolding one_more
returns c = search tests
