-- `loader::sending::charkhavo_offer` meets its contract: what the call gives back, as C has it. Assumes nothing.
use Rattle.initiator.proofs.Laws.Checked.{offer-moved}
use Rattle.loader.proofs.sending.charkhavo_offer.Goals as goal

pub returns : goal.returns
returns c = rw (c.of.ensures, c.offer.ensures) (offer-moved _ _)
