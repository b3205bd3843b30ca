-- `tags::record::write_at` meets its contract: the four lengths. Assumes nothing.
use Rattle.tags.specs.Record.{written}
use Rattle.tags.proofs.record.write_at.Goals as goal

pub returns : goal.returns
unfolding written
returns c = simp (c.one_at.ensures, c.one_at-2.ensures, c.one_at-3.ensures, c.one_at-4.ensures)
