-- `tags::record::words_ok` meets its contract: each check is a line of the definition. Assumes nothing.
use Rattle.word.proofs.Rules.{tests}
use Rattle.tags.specs.Record.{words_ok}
use Rattle.tags.proofs.record.words_ok.Goals as goal

pub returns-then-words-ge1 : goal.returns-then-words-ge1
unfolding words_ok
returns-then-words-ge1 c = search tests

pub returns-else-words-ge1 : goal.returns-else-words-ge1
unfolding words_ok
returns-else-words-ge1 c = search tests
