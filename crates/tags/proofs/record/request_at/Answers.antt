-- `tags::record::request_at` meets its contract. Assumes nothing.
use Rattle.tags.specs.Record.{request_at}
use Rattle.tags.proofs.record.request_at.Goals as goal

pub returns : goal.returns
unfolding request_at
returns c = rw c.place-at.ensures.value
