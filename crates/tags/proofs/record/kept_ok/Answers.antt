-- `tags::record::kept_ok` meets its contract: each check is a line of the definition. Assumes nothing.
use Rattle.word.proofs.Rules.{tests, flag-on, flag_off}
use Rattle.tags.specs.Record.{kept_ok}
use Rattle.tags.proofs.record.kept_ok.Goals as goal

pub returns-then-not-record_ok : goal.returns-then-not-record_ok
unfolding kept_ok
returns-then-not-record_ok c = rw (flag_off c.record_ok.ensures c.if-not-record_ok.true)

pub returns-then-stored-lt-STORED : goal.returns-then-stored-lt-STORED
unfolding kept_ok
returns-then-stored-lt-STORED c = rw (flag-on c.record_ok.ensures c.if-not-record_ok.false) (search tests)

pub returns : goal.returns
unfolding kept_ok
returns c = rw (flag-on c.record_ok.ensures c.if-not-record_ok.false) (search tests)
