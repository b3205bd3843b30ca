-- `night::text::Line::sent` meets its contract: three runs, one behind the other. Assumes nothing.
use Rattle.std.proofs.Common.{rules}
use Rattle.night.specs.Text.{ascii, decimal, text_of}
use Rattle.night.proofs.Inner.Written.{wrote-three}
use Rattle.night.proofs.text.Line.sent.Goals as goal

pub returns : goal.returns
unfolding text_of
returns c =
    let a = c.args in
    wrote-three _ 0 (decimal a.k) (ascii " sent ") (decimal a.words) (ascii "\n") (search rules) c.begin.ensures.wrote c.named.ensures.wrote c.put.ensures
