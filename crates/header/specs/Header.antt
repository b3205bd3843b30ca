-- The header word: its fields, and how long a command is. Assumes nothing.
use Rattle.std.specs.Prelude.{ℕ, zero, suc, ◌+◌, ◌*◌, ◌/◌, ◌%◌, Bool, true, false, not, cond, eqb}
use Rattle.header.specs.declared.Kind.{Kind}
use Rattle.header.specs.declared.Kind.TheVariants.{Nop, Write, Read, Response}
use Rattle.header.specs.declared.Head.{Head}
use Rattle.header.specs.Limits.{tag_count}

-- "bits 3:0 tag"
abbrev pub tag_of : ℕ → ℕ
tag_of h = h % 16

-- "The next tag, modulo 16"
abbrev pub next_tag : ℕ → ℕ
next_tag tag = (tag + 1) % tag_count

-- "0 NOP, 1 write, 2 read, 3 response"
abbrev pub number_of : Kind → ℕ
number_of Nop = 0
number_of Write = 1
number_of Read = 2
number_of Response = 3

unfoldable pub kind_no : ℕ → Kind
kind_no zero = Nop
kind_no (suc zero) = Write
kind_no (suc (suc zero)) = Read
kind_no (suc (suc (suc n))) = Response

-- "bits 5:4"
abbrev pub kind_of : ℕ → Kind
kind_of h = kind_no (h / 16 % 4)

-- "bit 6: 64-bit address (two words, low first); else one word"
abbrev pub wide_of : ℕ → Bool
wide_of h = not (eqb (h / 64 % 2) 0)

-- "bit 7: discovery"
abbrev pub discovery_of : ℕ → Bool
discovery_of h = not (eqb (h / 128 % 2) 0)

-- the four together
abbrev pub byte0_of : ℕ → ℕ
byte0_of h = h % 256

-- "request: first byte enables, last byte enables; response: status"
abbrev pub byte1_of : ℕ → ℕ
byte1_of h = h / 256 % 256

abbrev pub first_field : ℕ → ℕ
first_field byte1 = byte1 % 16

abbrev pub last_field : ℕ → ℕ
last_field byte1 = byte1 / 16

-- "bits 27:16: count of data words, 12 bits"
abbrev pub count_of : ℕ → ℕ
count_of h = h / 65536 % 4096

-- "bits 30:28: reserved, 0"
abbrev pub reserved_of : ℕ → ℕ
reserved_of h = h / 268435456 % 8

-- "bit 31: LAST"
abbrev pub last_of : ℕ → Bool
last_of h = not (eqb (h / 2147483648) 0)

abbrev pub bit : Bool → ℕ
bit true = 1
bit false = 0

-- byte 0 and a header, written from their fields; the reserved bits are 0
unfoldable pub byte0_from : ℕ → Kind → Bool → Bool → ℕ
byte0_from tag kind wide discovery = tag + 16 * number_of kind + 64 * bit wide + 128 * bit discovery

unfoldable pub header_from : ℕ → ℕ → ℕ → Bool → ℕ
header_from byte0 byte1 count last = byte0 + 256 * byte1 + 65536 * count + 2147483648 * bit last

-- "A write carries address and count words; a read carries its address only; a NOP carries count words and no address";
-- a response carries count words and no address
abbrev pub address_by : Kind → Bool → ℕ
address_by Nop wide = 0
address_by Write wide = 1 + bit wide
address_by Read wide = 1 + bit wide
address_by Response wide = 0

-- the words of an address in a message of this byte 0
abbrev pub address_words : ℕ → ℕ
address_words byte0 = address_by (kind_of byte0) (wide_of byte0)

abbrev pub data_words : Kind → ℕ → ℕ
data_words Nop count = count
data_words Write count = count
data_words Read count = 0
data_words Response count = count

-- the words of a command's body in a message of this byte 0: its address, then its data
abbrev pub body_words : ℕ → ℕ → ℕ
body_words byte0 count = address_words byte0 + data_words (kind_of byte0) count

-- the words of a command, its header's included, from its header alone
unfoldable pub size_of : ℕ → ℕ
size_of h = 1 + body_words h (count_of h)

-- "OK read: count and data as asked. OK write: count 0. OK NOP: the first count words of the advertisement": the data
-- words of an OK answer
abbrev pub reply_words : Kind → ℕ → ℕ
reply_words Nop count = count
reply_words Write count = 0
reply_words Read count = count
reply_words Response count = 0

-- a header as it is read in a message of this byte 0
unfoldable pub head_of : ℕ → ℕ → Head
head_of byte0 h = record { byte1 = byte1_of h; count = count_of h; body = body_words byte0 (count_of h); last = last_of h }

-- "LAST stands on the last header only": nothing follows the body of a LAST command
abbrev pub ends_ok : Bool → ℕ → ℕ → Bool
ends_ok last body left = cond last (eqb left body) true
