-- `header::header_from` meets its contract: the sum of its fields. Assumes nothing.
use Rattle.header.specs.Header.{header_from}
use Rattle.header.proofs.Laws.Header.{bit-is}
use Rattle.header.proofs.header_from.Goals as goal

pub returns : goal.returns
unfolding header_from
returns c = rw (c.from.ensures, bit-is c.args.last)
