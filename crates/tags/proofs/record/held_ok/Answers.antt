-- `tags::record::held_ok` meets its contract: each check is a line of the definition. Assumes nothing.
use Rattle.word.proofs.Rules.{tests}
use Rattle.tags.specs.Record.{held_ok}
use Rattle.tags.proofs.record.held_ok.Goals as goal

pub returns-then-tags-gt-PLACES : goal.returns-then-tags-gt-PLACES
unfolding held_ok
returns-then-tags-gt-PLACES c = search tests

pub returns-then-tags-ge-TAGS : goal.returns-then-tags-ge-TAGS
unfolding held_ok
returns-then-tags-ge-TAGS c = search tests

pub returns : goal.returns
unfolding held_ok
returns c = search (tests, ← c.places_ok.ensures)
