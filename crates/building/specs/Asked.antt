-- The command that is asked for, and what can be wrong with it: 23 to 26. Assumes nothing.
use Rattle.std.specs.Prelude.{ℕ, ◌+◌, ◌*◌, Bool, true, ◌&&◌, ◌||◌, List, [], length, ltb, leb}
use Rattle.header.specs.declared.Kind.{Kind}
use Rattle.header.specs.declared.Kind.TheVariants.{Nop, Write, Read, Response}
use Rattle.header.specs.Limits.{limit}
use Rattle.header.specs.Header.{kind_of, wide_of, body_words, reply_words}
use Rattle.header.specs.Refusal.{unless}
use Rattle.message.specs.Faults.{count_ok, pattern_ok}
use Rattle.message.specs.Request.{Command}
use Rattle.building.specs.declared.asked.Asked.{Asked}

-- "The count of a write or NOP is the number of data words lent with it"
abbrev pub count_by : Kind → ℕ → ℕ → ℕ
count_by Nop asked lent = lent
count_by Write asked lent = lent
count_by Read asked lent = asked
count_by Response asked lent = lent

-- "Byte 1 of reads and NOPs .. Our initiator sends 0"
abbrev pub byte1_by : Kind → ℕ → ℕ → ℕ
byte1_by Nop first last = 0
byte1_by Write first last = first + 16 * last
byte1_by Read first last = 0
byte1_by Response first last = 0

-- "a NOP carries count words and no address"
abbrev pub address_sent : Kind → ℕ → ℕ
address_sent Nop address = 0
address_sent Write address = address
address_sent Read address = address
address_sent Response address = 0

-- "a read carries its address only"
abbrev pub data_sent : Kind → List ℕ → List ℕ
data_sent Nop payload = payload
data_sent Write payload = payload
data_sent Read payload = []
data_sent Response payload = payload

-- the command that is asked for in a message of this byte 0
unfoldable pub command_by : ℕ → Asked → List ℕ → Command
command_by byte0 asked payload =
    record {
      byte1 = byte1_by (kind_of byte0) asked.first asked.last;
      count = count_by (kind_of byte0) asked.count (length payload);
      address = address_sent (kind_of byte0) asked.address;
      payload = data_sent (kind_of byte0) payload;
    }

-- not "23 count": 12 bits hold no count over 4,095
unfoldable pub count_fits : Kind → ℕ → Bool
count_fits kind count = ltb count 4096 && count_ok kind count

-- not "24 enables": two fields of four bits each; "NOPs skip 24 and 25, reads skip 24"
unfoldable pub fields_ok : ℕ → Asked → Bool
fields_ok count asked = ltb asked.first 16 && ltb asked.last 16
    && pattern_ok count asked.address asked.first asked.last

abbrev pub enables_fit : Kind → ℕ → Asked → Bool
enables_fit Nop count asked = true
enables_fit Write count asked = fields_ok count asked
enables_fit Read count asked = true
enables_fit Response count asked = true

-- not "25 address of 2^32 or more in 32-bit mode"
unfoldable pub narrow_ok : Bool → ℕ → Bool
narrow_ok wide address = wide || ltb address 4294967296

abbrev pub address_fits : Kind → Bool → ℕ → Bool
address_fits Nop wide address = true
address_fits Write wide address = narrow_ok wide address
address_fits Read wide address = narrow_ok wide address
address_fits Response wide address = true

-- the words of a command in a message of this byte 0, and of its OK answer
unfoldable pub size_by : ℕ → ℕ → ℕ
size_by byte0 count = 1 + body_words byte0 count

unfoldable pub reply_by : ℕ → ℕ → ℕ
reply_by byte0 count = 1 + reply_words (kind_of byte0) count

-- not "26 request or all-OK answer would pass" the limit
unfoldable pub room_fits : ℕ → ℕ → ℕ → ℕ → Bool
room_fits byte0 words answer count = leb (words + size_by byte0 count) limit && leb (answer + reply_by byte0 count) limit

-- what is wrong with a command of this count, 23 to 26, "lowest number first"; 0 where nothing is
unfoldable pub command_fault : ℕ → ℕ → ℕ → Asked → ℕ → ℕ
command_fault byte0 words answer asked count =
    unless (count_fits (kind_of byte0) count) 23
    (unless (enables_fit (kind_of byte0) count asked) 24
    (unless (address_fits (kind_of byte0) (wide_of byte0) asked.address) 25
    (unless (room_fits byte0 words answer count) 26 0)))
