-- `night::Night::serve` meets its contract: by the length that the record starts with. Assumes nothing.
use Rattle.std.proofs.Common.{◌∙◌}
use Rattle.night.specs.Night.{controller_of}
use Rattle.night.proofs.Inner.Turns.{over-limit, within-limit}
use Rattle.night.proofs.Night.serve.Goals as goal

pub returns-then-n-gt-LIMIT_BYTES-clause-leaves : goal.returns-then-n-gt-LIMIT_BYTES-clause-leaves
returns-then-n-gt-LIMIT_BYTES-clause-leaves c =
    let a = c.args in
    over-limit (controller_of a.self.now) a.output.now a.got.now c.word_at-n.ensures c.if-n-gt-LIMIT_BYTES.true c.of.ensures

pub returns-clause-leaves : goal.returns-clause-leaves
returns-clause-leaves c =
    let a = c.args in
    c.serve.ensures.leaves ∙ within-limit (controller_of a.self.now) a.output.now a.got.now c.word_at-n.ensures c.if-n-gt-LIMIT_BYTES.false
