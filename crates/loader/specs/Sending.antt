-- What sending comes to, and the fixed discovery, as C takes them. Assumes nothing.
use Rattle.std.specs.Prelude.{ℕ, List, length}
use Rattle.message.specs.Discovery.{discovery_bytes}
use Rattle.initiator.specs.declared.sender.Sender.{Sender}
use Rattle.initiator.specs.Sender.{send_fault, send_of}
use Rattle.loader.specs.declared.sending.Sending.{Sending}
use Rattle.loader.specs.declared.sending.Discovery.{Discovery}

-- "sending hands back that message's own bytes": the refusal, and the length of what is handed back
unfoldable pub sending_of : Sender → List ℕ → Sending
sending_of s message = record { refusal = send_fault s message; length = length (send_of s message) }

-- "the fixed discovery"
abbrev pub fixed_discovery : Discovery
fixed_discovery = record { bytes = discovery_bytes }
