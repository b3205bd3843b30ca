-- `night::text::Line::short` meets its contract: two runs, one behind the other. Assumes nothing.
use Rattle.std.proofs.Common.{rules}
use Rattle.night.specs.Text.{ascii, decimal, text_of}
use Rattle.night.proofs.Inner.Written.{wrote_then}
use Rattle.night.proofs.text.Line.short.Goals as goal

pub returns : goal.returns
unfolding text_of
returns c = wrote_then _ 0 (decimal c.args.k) (ascii " short\n") (search rules) c.begin.ensures.wrote c.put.ensures
