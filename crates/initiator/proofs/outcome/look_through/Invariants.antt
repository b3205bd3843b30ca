-- `initiator::outcome::look_through` meets its contract. The loop's invariant: what was told and what is still to come make the whole. Assumes nothing.
use Prim.Native.Nat.{◌-◌}
use lib.ListN.{length}
use Rattle.word.specs.Words.{words_of}
use Rattle.header.specs.Header.{kind_of}
use Rattle.message.specs.Request.{given}
use Rattle.message.specs.Walk.{read}
use Rattle.initiator.specs.Outcome.{told_of}
use Rattle.initiator.specs.Telling.{answers_to}
use Rattle.initiator.proofs.Inner.Sides.{Sides}
use Rattle.initiator.proofs.outcome.look_through.Given as goal

abbrev pub invariant-loop-seen : goal.invariant-loop-seen
invariant-loop-seen l = Sides (words_of l.request) l.byte0 (words_of l.answer) l.at l.back l.k l.told (given (told_of (kind_of l.byte0) l.k) (answers_to (read l.request) (words_of l.answer)))

abbrev pub decreases-loop-seen : goal.decreases-loop-seen
decreases-loop-seen l = length (words_of l.request) - l.at
