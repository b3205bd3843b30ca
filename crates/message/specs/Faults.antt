-- What can be wrong with a header: "at each header 3 (no word there), 4 to 8, 3 (body past the end), 9", but "where a
-- write's address words are missing, 3 comes before 8". Assumes nothing.
use Rattle.std.specs.Prelude.{ℕ, ◌%◌, Bool, true, false, not, cond, ◌&&◌, ◌||◌, leb, eqb}
use Rattle.header.specs.declared.Kind.{Kind}
use Rattle.header.specs.declared.Kind.TheVariants.{Nop, Write, Read as Reads, Response}
use Rattle.header.specs.Header.{kind_of, byte0_of, byte1_of, first_field, last_field, count_of, reserved_of, last_of}
use Rattle.header.specs.Header.{address_words, body_words, ends_ok}
use Rattle.header.specs.Refusal.{unless}

-- a request's kind: every one but "3 response"
abbrev pub asks : Kind → Bool
asks Nop = true
asks Write = true
asks Reads = true
asks Response = false

-- "1 write"
abbrev pub is_write : Kind → Bool
is_write Nop = false
is_write Write = true
is_write Reads = false
is_write Response = false

-- "Count is 1 to 4,095 for writes and reads, 0 to 2 for NOPs"
abbrev pub count_ok : Kind → ℕ → Bool
count_ok Nop count = leb count 2
count_ok Write count = leb 1 count
count_ok Reads count = leb 1 count
count_ok Response count = false

-- "with count 1 the last field is 0 and the first is anything; with count 2 or more both are nonzero"
abbrev pub zeros_ok : ℕ → ℕ → ℕ → Bool
zeros_ok count first last = cond (eqb count 1) (eqb last 0) (not (eqb first 0) && not (eqb last 0))

-- "Gaps inside the enables are allowed only for count 1, and for count 2 at an address that is a multiple of 8"
abbrev pub gaps_ok : ℕ → ℕ → Bool
gaps_ok count address = eqb count 1 || eqb count 2 && eqb (address % 8) 0

-- "Every other write must have a first field of F, E, C or 8 and a last field of F, 7, 3 or 1"
abbrev pub first_field_ok : ℕ → Bool
first_field_ok first = eqb first 0xF || eqb first 0xE || eqb first 0xC || eqb first 0x8

abbrev pub last_field_ok : ℕ → Bool
last_field_ok last = eqb last 0xF || eqb last 0x7 || eqb last 0x3 || eqb last 0x1

abbrev pub gapless : ℕ → ℕ → Bool
gapless first last = first_field_ok first && last_field_ok last

-- the enables that a write of this count at this address may have: both rules hold
unfoldable pub pattern_ok : ℕ → ℕ → ℕ → ℕ → Bool
pattern_ok count address first last = zeros_ok count first last && (gaps_ok count address || gapless first last)

-- "Byte enables, writes only"; "Byte 1 of reads and NOPs is not looked at"
abbrev pub enables_ok : Kind → ℕ → ℕ → ℕ → Bool
enables_ok Nop count address byte1 = true
enables_ok Write count address byte1 = pattern_ok count address (first_field byte1) (last_field byte1)
enables_ok Reads count address byte1 = true
enables_ok Response count address byte1 = true

-- the first fault, in the document's order, of a header h with `left` words after it and this address, in a message of
-- this byte 0; 0 where it has none
unfoldable pub fault_of : ℕ → ℕ → ℕ → ℕ → ℕ
fault_of byte0 h left address =
    unless (eqb (byte0_of h) byte0) 4
    (unless (asks (kind_of byte0)) 5
    (unless (eqb (reserved_of h) 0) 6
    (unless (count_ok (kind_of byte0) (count_of h)) 7
    (unless (leb (address_words byte0) left) 3
    (unless (enables_ok (kind_of byte0) (count_of h) address (byte1_of h)) 8
    (unless (leb (body_words byte0 (count_of h)) left) 3
    (unless (ends_ok (last_of h) (body_words byte0 (count_of h)) left) 9 0)))))))
