-- `initiator::places::Checked::has_room` meets its contract: fewer than four. Assumes nothing.
use Rattle.word.proofs.Rules.{tests}
use Rattle.initiator.specs.Places.{has_room}
use Rattle.initiator.proofs.places.Checked.has_room.Goals as goal

pub returns : goal.returns
unfolding has_room
returns c = search tests
