-- `initiator::places::Checked::place_in` meets its contract: by arithmetic. Assumes nothing.
use mathlib.Core.Path.{refl}
use Rattle.initiator.specs.Places.{place_in}
use Rattle.initiator.proofs.places.Checked.place_in.Goals as goal

pub returns : goal.returns
unfolding place_in
returns c = refl
