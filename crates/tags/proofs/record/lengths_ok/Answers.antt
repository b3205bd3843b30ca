-- `tags::record::lengths_ok` meets its contract. Assumes nothing.
use Rattle.tags.proofs.record.lengths_ok.Goals as goal

pub returns : goal.returns
returns c = rw (c.words_ok-answered.ensures, c.words_ok-asked.ensures)
