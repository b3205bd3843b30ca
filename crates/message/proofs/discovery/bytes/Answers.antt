-- `message::discovery::bytes` meets its contract: its bytes, computed. Assumes nothing.
use Rattle.message.specs.Discovery.{discovery_bytes}
use Rattle.word.specs.Words.{bytes_of}
use Rattle.message.proofs.discovery.bytes.Goals as goal

pub returns : goal.returns
unfolding discovery_bytes bytes_of
returns c = rw c.to_le_bytes.ensures
