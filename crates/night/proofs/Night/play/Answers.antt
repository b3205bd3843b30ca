-- `night::Night::play` meets its contract: nothing, a tail or a whole record. Assumes nothing.
use Rattle.std.proofs.Common.{rules, tests}
use Rattle.night.specs.Night.{controller_of}
use Rattle.night.proofs.Inner.Turns.{nothing_left, short-left, whole-played}
use Rattle.night.proofs.Night.play.Goals as goal

pub returns-then-is_empty : goal.returns-then-is_empty
returns-then-is_empty c =
    let a = c.args in
    rw (c.clear.ensures.none, c.clear.ensures.bytes) (nothing_left (controller_of a.self.now) a.k a.got.now a.line.now.bytes (search (rules, tests)))

pub returns-then-got-lt-RECORD : goal.returns-then-got-lt-RECORD
returns-then-got-lt-RECORD c =
    let a = c.args in
    short-left (controller_of a.self.now) a.k a.got.now a.line.now.bytes (λ z. search (rules, tests)) c.if-got-lt-RECORD.true c.short.ensures

pub returns : goal.returns
returns c =
    let a = c.args in
    whole-played (controller_of a.self.now) a.k a.got.now a.line.now.bytes (λ z. search (rules, tests)) c.if-got-lt-RECORD.false c.whole.ensures
