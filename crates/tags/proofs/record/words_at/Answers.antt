-- `tags::record::words_at` meets its contract. Assumes nothing.
use Rattle.tags.specs.Record.{words_at}
use Rattle.tags.proofs.record.words_at.Goals as goal

pub returns : goal.returns
unfolding words_at
returns c = rw c.place-at.ensures.value
