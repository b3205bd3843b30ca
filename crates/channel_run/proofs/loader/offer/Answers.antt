-- `channel_run::loader::offer` meets its contract: what the offer came to, and what is then sent. Assumes nothing.
use Rattle.initiator.proofs.Laws.Checked.{offer-moved}
use Rattle.channel_run.proofs.loader.offer.Goals as goal

pub returns : goal.returns
returns c = rw (c.send.ensures, c.of-moved.ensures, c.offer.ensures, c.as_slice.ensures, offer-moved)
