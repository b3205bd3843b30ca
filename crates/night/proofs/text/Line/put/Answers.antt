-- `night::text::Line::put` meets its contract: the text stands behind what there was. Assumes nothing.
use Rattle.std.proofs.Common.{refl, arith}
use Rattle.word.proofs.Runs.{part-is}
use Rattle.night.proofs.text.Line.put.Goals as goal

pub returns : goal.returns
returns c =
    let a = c.args in
    record { ends = refl; text = part-is a.self.now.bytes a.self.now.length _ c.copy_from_slice.ensures.after (omega arith) }
