-- The fixed discovery, computed: its byte 0, its bytes written and read. Both ends cite these. Assumes nothing.
use mathlib.Core.Path.{◌≡◌, refl}
use mathlib.Core.Bool.{Bool, true, false}
use lib.ListN.{length}
use Rattle.word.specs.Words.{words_of, bytes_of}
use Rattle.header.specs.declared.Kind.TheVariants.{Nop}
use Rattle.header.specs.Limits.{length_ok}
use Rattle.header.specs.Header.{kind_no, kind_of, discovery_of, byte0_from, header_from, head_of}
use Rattle.message.specs.Faults.{fault_of}
use Rattle.message.specs.Address.{address_from, address_in}
use Rattle.message.specs.Request.{Means, replies, command_words, request_words, written}
use Rattle.message.specs.Walk.{step_on, command_of, commands_from, ended, read}
use Rattle.message.specs.Discovery.{discovery_byte, discovery_command, discovery_request, discovery_bytes}

pub discovery-byte : byte0_from 0 Nop false true ≡ discovery_byte
unfolding discovery_byte
discovery-byte = refl

pub discovery-kind : kind_of discovery_byte ≡ Nop
unfolding discovery_byte byte0_from kind_no
discovery-kind = refl

pub discovery-bit : discovery_of discovery_byte ≡ true
unfolding discovery_byte byte0_from
discovery-bit = refl

-- the request's bytes, and what they are read as
pub same-discovery : written discovery_request ≡ discovery_bytes
unfolding written request_words command_words address_in header_from byte0_from kind_no discovery_byte discovery_bytes
same-discovery = refl

pub discovery-read : read discovery_bytes ≡ Means discovery_request
unfolding discovery_bytes words_of bytes_of kind_no byte0_from head_of fault_of step_on address_from command_of commands_from replies ended length_ok read discovery_byte
discovery-read = refl

-- its one command, LAST or not, has three words
pub discovery-long : (last : Bool) → length (command_words discovery_byte last discovery_command) ≡ 3
unfolding command_words address_in
discovery-long last = rw discovery-kind
