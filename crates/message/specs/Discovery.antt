-- The fixed discovery, which the loader sends and the controller answers: the contracts and theorems of both cite it.
-- Assumes nothing.
use Rattle.std.specs.Prelude.{ℕ, List, [], ◌∷◌, true, false}
use Rattle.word.specs.Words.{bytes_of}
use Rattle.header.specs.declared.Kind.TheVariants.{Nop}
use Rattle.header.specs.Limits.{limit_bytes}
use Rattle.header.specs.Header.{byte0_from}
use Rattle.message.specs.Request.{Command, Request}

-- "the fixed discovery": a NOP of two words, the most bytes of a message and 0
unfoldable pub discovery_byte : ℕ
discovery_byte = byte0_from 0 Nop false true

-- its data: the most bytes of a message, and 0
abbrev pub discovery_data : List ℕ
discovery_data = limit_bytes ∷ 0 ∷ []

abbrev pub discovery_command : Command
discovery_command = record { byte1 = 0; count = 2; address = 0; payload = discovery_data }

abbrev pub discovery_request : Request
discovery_request = record { byte0 = discovery_byte; commands = discovery_command ∷ [] }

-- "the fixed discovery 80020080", then its data; `LimitShown` of Examples has it in numbers
unfoldable pub discovery_bytes : List ℕ
discovery_bytes = bytes_of (0x80020080 ∷ discovery_data)
