-- `tags::record::place_ok` meets its contract: each question is a part of the definition. Assumes nothing.
use Rattle.tags.specs.Record.{place_ok}
use Rattle.tags.proofs.record.place_ok.Goals as goal

pub returns : goal.returns
unfolding place_ok
returns c = rw c.lengths_ok-both.ensures
