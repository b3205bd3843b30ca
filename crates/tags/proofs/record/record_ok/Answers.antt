-- `tags::record::record_ok` meets its contract. Assumes nothing.
use borrow.Author.Tests.{ne_eqb}
use Rattle.word.proofs.Rules.{tests}
use Rattle.tags.specs.Record.{record_ok}
use Rattle.tags.proofs.record.record_ok.Goals as goal

pub returns-then-tags-eq0 : goal.returns-then-tags-eq0
unfolding record_ok
returns-then-tags-eq0 c = search tests

pub returns-else-tags-eq0 : goal.returns-else-tags-eq0
unfolding record_ok
returns-else-tags-eq0 c = rw (ne_eqb _ 0 c.if-tags-eq0.false) c.held_ok.ensures
