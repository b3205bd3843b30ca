-- `initiator::places::Checked::new_tag` meets its contract: by arithmetic. Assumes nothing.
use mathlib.Core.Path.{refl}
use Rattle.initiator.specs.Places.{new_tag}
use Rattle.initiator.proofs.places.Checked.new_tag.Goals as goal

pub returns : goal.returns
unfolding new_tag
returns c = refl
