-- `night::text::Line::refused` meets its contract: four runs, one behind the other. Assumes nothing.
use Rattle.std.proofs.Common.{◌++◌, append_assoc, rules}
use Rattle.night.specs.Text.{ascii, decimal, text_of}
use Rattle.night.proofs.Inner.Written.{wrote_then, wrote-three}
use Rattle.night.proofs.text.Line.refused.Goals as goal

pub returns : goal.returns
unfolding text_of
returns c =
    let a = c.args in
    let l = a.self.now.bytes in
    let r = a.refusal in
    let number = ascii " refused " ++ decimal r.number in
    let first = wrote_then l 0 (decimal a.k) number (search rules) c.begin.ensures.wrote (rw c.from.ensures at c.named.ensures.wrote) in
    let second = rw c.from-2.ensures at c.named-2.ensures.wrote in
    rw append_assoc at (wrote-three l 0 (decimal a.k ++ number) (ascii " at ") (decimal r.at) (ascii "\n") (search rules) first second c.put.ensures)
