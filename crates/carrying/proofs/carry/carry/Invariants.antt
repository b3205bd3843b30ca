-- `carrying::carry::carry` meets its contract. The loop's invariant: the message is under way, in the buffers that are lent. Assumes nothing.
use Prim.Native.Nat.{◌-◌}
use mathlib.Core.Path.{◌≡◌}
use lib.ListN.{length}
use Rattle.word.specs.Words.{words_of}
use Rattle.message.specs.Walk.{request_of}
use Rattle.carrying.proofs.Inner.Underway.{Underway}
use Rattle.carrying.proofs.carry.carry.Given as goal

abbrev pub invariant-loop-next : goal.invariant-loop-next
invariant-loop-next l =
    Underway l.task (request_of l.datagram) l.initial.memory l.initial.answer l.memory l.answer l.at
    × (l.answer.stored.ghost_name ≡ l.initial.answer.stored.ghost_name) × (l.answer.output.ghost_name ≡ l.initial.answer.output.ghost_name)
    × (length l.memory ≡ length l.initial.memory)

abbrev pub decreases-loop-next : goal.decreases-loop-next
decreases-loop-next l = length (words_of l.datagram) - l.at
