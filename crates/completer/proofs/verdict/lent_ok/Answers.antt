-- `completer::verdict::lent_ok` meets its contract: each check is a line of the definition. Assumes nothing.
use Rattle.word.proofs.Rules.{tests}
use Rattle.completer.specs.Verdict.{lent_ok}
use Rattle.completer.proofs.verdict.lent_ok.Goals as goal

pub returns-then-memory-lt1 : goal.returns-then-memory-lt1
unfolding lent_ok
returns-then-memory-lt1 c = search tests

pub returns-then-memory-gt-MEMORY : goal.returns-then-memory-gt-MEMORY
unfolding lent_ok
returns-then-memory-gt-MEMORY c = search tests

pub returns : goal.returns
unfolding lent_ok
returns c = search tests
