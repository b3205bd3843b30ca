-- `header::byte0_from` meets its contract: the sum of its fields. Assumes nothing.
use Rattle.header.specs.Header.{byte0_from}
use Rattle.header.proofs.Laws.Header.{bit-is}
use Rattle.header.proofs.byte0_from.Goals as goal

pub returns-clause-value : goal.returns-clause-value
unfolding byte0_from
returns-clause-value c = let a = c.args in rw (c.from.ensures.0, c.from-2.ensures, c.from-3.ensures, bit-is a.wide, bit-is a.discovery)
