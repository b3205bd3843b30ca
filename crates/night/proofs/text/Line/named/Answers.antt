-- `night::text::Line::named` meets its contract: two runs, one behind the other. Assumes nothing.
use Rattle.std.proofs.Common.{rules}
use Rattle.night.proofs.Inner.Written.{wrote_then}
use Rattle.night.proofs.text.Line.named.Goals as goal

pub returns-clause-wrote : goal.returns-clause-wrote
returns-clause-wrote c = wrote_then _ _ _ _ (search rules) c.put.ensures c.number.ensures.wrote
