-- The loader's end: what is sent of a message, and what the sender's calls came to, as the programs print it. Assumes
-- nothing.
use Rattle.std.specs.Prelude.{length}
use Rattle.initiator.specs.declared.sender.Sender.{Sender}
use Rattle.initiator.specs.declared.sender.Taken.{Taken}
use Rattle.initiator.specs.Sender.{offer_of, send_of}
use Rattle.channel_run.specs.declared.Bytes.{Bytes}
use Rattle.channel_run.specs.declared.loader.Offered.{Offered}
use Rattle.channel_run.specs.declared.loader.Took.{Took}
use Rattle.channel_run.specs.Bytes.{first_of, datagram_in}

-- nothing of a message that does not wait
abbrev pub sent_of : Sender → Bytes → Bytes
sent_of s message = first_of message.bytes (length (send_of s (datagram_in message)))

-- its refusal and the sender then, and what that sends of the message
abbrev pub offered : Sender → Bytes → Offered
offered s message =
    let moved = offer_of s (datagram_in message) in
    record { state = record { refusal = moved.refusal; sender = moved.sender }; sent = sent_of moved.sender message }

-- its refusal, the sender then, and how many messages ended
abbrev pub took : Taken → Took
took t = record { state = record { refusal = t.refusal; sender = t.sender }; ended = t.ended }
