-- `initiator::places::Checked::ending` meets its contract: each check is a line of `ending_of`. Assumes nothing.
use native.Mathlib.Omega.{arith}
use Rattle.word.proofs.Rules.{flag-on, flag_off}
use Rattle.initiator.specs.Places.{ending_of}
use Rattle.initiator.proofs.Laws.Places.{answered-waits}
use Rattle.initiator.proofs.places.Checked.ending.Goals as goal

pub returns-then-not-answered_at : goal.returns-then-not-answered_at
unfolding ending_of
returns-then-not-answered_at c = record { value = rw (flag_off c.answered_at.ensures c.if-not-answered_at.true); some = (omega (arith, c.requires), omega arith) }

pub returns-then-not-answered_at-2 : goal.returns-then-not-answered_at-2
unfolding ending_of
returns-then-not-answered_at-2 c =
    let one = flag-on c.answered_at.ensures c.if-not-answered_at.false in
    record { value = rw (one, flag_off c.answered_at-2.ensures c.if-not-answered_at-2.true); some = (omega (arith, answered-waits _ 1 one), omega arith) }

pub returns-then-not-answered_at-3 : goal.returns-then-not-answered_at-3
unfolding ending_of
returns-then-not-answered_at-3 c =
    let one = flag-on c.answered_at.ensures c.if-not-answered_at.false in
    let two = flag-on c.answered_at-2.ensures c.if-not-answered_at-2.false in
    record { value = rw (one, two, flag_off c.answered_at-3.ensures c.if-not-answered_at-3.true); some = (omega (arith, answered-waits _ 2 two), omega arith) }

pub returns : goal.returns
unfolding ending_of
returns c =
    let one = flag-on c.answered_at.ensures c.if-not-answered_at.false in
    let two = flag-on c.answered_at-2.ensures c.if-not-answered_at-2.false in
    let three = flag-on c.answered_at-3.ensures c.if-not-answered_at-3.false in
    record { value = rw (one, two, three); some = (omega (arith, answered-waits _ 3 three), omega arith) }
