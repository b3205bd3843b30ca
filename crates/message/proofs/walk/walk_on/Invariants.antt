-- `message::walk::walk_on` meets its contract. The loop's invariant: what is left of the walk comes to the whole. Assumes nothing.
use Prim.Native.Nat.{◌-◌}
use lib.ListN.{length}
use Rattle.word.specs.Words.{words_of}
use Rattle.message.proofs.Laws.Going.{Going}
use Rattle.message.proofs.walk.walk_on.Given as goal

abbrev pub invariant-loop-head : goal.invariant-loop-head
invariant-loop-head l = Going l.byte0 (words_of l.datagram) l.at l.answer

abbrev pub decreases-loop-head : goal.decreases-loop-head
decreases-loop-head l = length (words_of l.datagram) - l.at
