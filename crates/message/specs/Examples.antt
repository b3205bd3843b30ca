-- Worked and hostile examples, from bytes, with the refusal that each must get. `proofs/Laws/Worked.antt` computes
-- them. Assumes nothing.
use Rattle.std.specs.Prelude.{ℕ, zero, suc, ◌≡◌, Bool, true, false, cond, ◌&&◌, List, [], ◌∷◌, eqb, length}
use Rattle.word.specs.Words.{bytes_of}
use Rattle.header.specs.declared.Kind.TheVariants.{Nop, Write, Read as Reads}
use Rattle.header.specs.declared.refusal.Refusal.{Refusal}
use Rattle.header.specs.Refusal.{refused_at, refusal}
use Rattle.message.specs.Faults.{count_ok, enables_ok}
use Rattle.message.specs.Request.{refusal_in}
use Rattle.message.specs.Walk.{read}
use Rattle.message.specs.Discovery.{discovery_bytes}

-- two refusals of the same number and the same index
abbrev pub same_refusal : Refusal → Refusal → Bool
same_refusal q r = eqb q.number r.number && eqb q.at r.at

-- a datagram, and the refusal that it gets, number 0 for none: at word 0, or at a later one
pub record Example : Type 0 where
  pub datagram : List ℕ
  pub given : Refusal

abbrev pub words : List ℕ → ℕ → Example
words ws n = record { datagram = bytes_of ws; given = refusal n }

abbrev pub words_at : List ℕ → ℕ → ℕ → Example
words_at ws n at = record { datagram = bytes_of ws; given = refused_at n at }

abbrev pub bytes : List ℕ → ℕ → Example
bytes bs n = record { datagram = bs; given = refusal n }

-- a write of one word, and what follows it; four of them and a fifth whose tag is another, which is refused 4 at 12
abbrev pub open_write : List ℕ → List ℕ
open_write rest = 0x00010F10 ∷ 0x00000000 ∷ 0x11111111 ∷ rest

abbrev pub fifth_differs : List ℕ
fifth_differs = open_write (open_write (open_write (open_write (0x80010F11 ∷ 0x00000004 ∷ 0x22222222 ∷ []))))

-- a write of 2 words with gaps inside its enables, 5 and A: the bench lines of both ends have it at addresses 8 and 12
abbrev pub gapped_words : List ℕ
gapped_words = 0x11223344 ∷ 0x55667788 ∷ []

abbrev pub gapped : ℕ → List ℕ
gapped address = 0x8002A510 ∷ address ∷ gapped_words

unfoldable pub requests : List Example
requests =
    -- good ones: a write, a read whose byte 1 is not looked at, a NOP of no words, no byte enabled, two commands, 64
    -- bits
    words (0x80010F10 ∷ 0x00000004 ∷ 0xFEEDC0DE ∷ []) 0
    ∷ words (0x8001FF20 ∷ 0x00000010 ∷ []) 0
    ∷ words (0x80000000 ∷ []) 0
    ∷ words (0x80010010 ∷ 0x00000004 ∷ 0xFEEDC0DE ∷ []) 0
    ∷ words (open_write (0x80010F10 ∷ 0x00000020 ∷ 0x22222222 ∷ [])) 0
    ∷ words (0x80010F50 ∷ 0x00000004 ∷ 0x00000001 ∷ 0x00000000 ∷ []) 0
    -- in bytes: the low byte of a word comes first, and not the high one
    ∷ bytes (0x10 ∷ 0x0F ∷ 0x01 ∷ 0x80 ∷ 0x04 ∷ 0x00 ∷ 0x00 ∷ 0x00 ∷ 0xDE ∷ 0xC0 ∷ 0xED ∷ 0xFE ∷ []) 0
    ∷ bytes (0x80 ∷ 0x01 ∷ 0x0F ∷ 0x10 ∷ 0x00 ∷ 0x00 ∷ 0x00 ∷ 0x04 ∷ 0xFE ∷ 0xED ∷ 0xC0 ∷ 0xDE ∷ []) 6
    -- "a NOP carries count words and no address", also with bit 6, and byte 1 is not looked at: counts 1 and 2, a word
    -- too few, a word too many
    ∷ words (0x80010000 ∷ 0x11111111 ∷ []) 0
    ∷ words (0x80020000 ∷ 0x11111111 ∷ 0x22222222 ∷ []) 0
    ∷ words (0x80020000 ∷ 0x11111111 ∷ []) 3
    ∷ words (0x80010000 ∷ 0x11111111 ∷ 0x22222222 ∷ []) 9
    ∷ words (0x80000000 ∷ 0x11111111 ∷ []) 9
    ∷ words (0x80000040 ∷ []) 0
    ∷ words (0x80010040 ∷ 0x11111111 ∷ []) 0
    ∷ words (0x8001FFCF ∷ 0x11111111 ∷ []) 0
    -- "a read carries its address only", whatever its count and byte 1: in 32 and in 64 bits, a word too few, a word
    -- too many; two reads; a NOP of 2, one of 0 and one of 1
    ∷ words (0x80021F20 ∷ 0x0000000C ∷ []) 0
    ∷ words (0x80010020 ∷ []) 3
    ∷ words (0x80010020 ∷ 0x00000010 ∷ 0x00000000 ∷ []) 9
    ∷ words (0x80010060 ∷ 0x00000010 ∷ 0x00000000 ∷ []) 0
    ∷ words (0x80010060 ∷ 0x00000010 ∷ []) 3
    ∷ words (0x00020020 ∷ 0x00000010 ∷ 0x80010020 ∷ 0x00000010 ∷ []) 0
    ∷ words (0x00020000 ∷ 0x11111111 ∷ 0x22222222 ∷ 0x00000000 ∷ 0x80010000 ∷ 0x33333333 ∷ []) 0
    -- nothing, and three bytes; truncated in a header, in an address, in a second address word, in a body
    ∷ bytes [] 2
    ∷ bytes (16 ∷ 15 ∷ 1 ∷ []) 2
    ∷ bytes (16 ∷ 15 ∷ 1 ∷ 128 ∷ 4 ∷ []) 2
    ∷ words (0x80010F10 ∷ []) 3
    ∷ words (0x80010F50 ∷ 0x00000004 ∷ []) 3
    ∷ words (0x8002FF10 ∷ 0x00000004 ∷ 0x11111111 ∷ []) 3
    -- LAST missing; LAST early; extra words
    ∷ words_at (open_write []) 3 3
    ∷ words (0x80010F10 ∷ 0x00000004 ∷ 0x11111111 ∷ 0x80010F10 ∷ 0x00000008 ∷ 0x22222222 ∷ []) 9
    ∷ words (0x80010F10 ∷ 0x00000004 ∷ 0x11111111 ∷ 0x00000000 ∷ []) 9
    -- byte 0 changed midway: tag, kind, width, discovery
    ∷ words_at (open_write (0x80010F11 ∷ 0x00000004 ∷ 0x22222222 ∷ [])) 4 3
    ∷ words_at (open_write (0x80010020 ∷ 0x00000004 ∷ [])) 4 3
    ∷ words_at (open_write (0x80010F50 ∷ 0x00000004 ∷ 0x00000000 ∷ 0x22222222 ∷ [])) 4 3
    ∷ words_at (open_write (0x80010F90 ∷ 0x00000004 ∷ 0x22222222 ∷ [])) 4 3
    -- kind 3 first, and later
    ∷ words (0x80000030 ∷ []) 5
    ∷ words_at (open_write (0x80000030 ∷ [])) 4 3
    -- each reserved bit
    ∷ words (0x90010F10 ∷ 0x00000004 ∷ 0x00000000 ∷ []) 6
    ∷ words (0xA0010F10 ∷ 0x00000004 ∷ 0x00000000 ∷ []) 6
    ∷ words (0xC0010F10 ∷ 0x00000004 ∷ 0x00000000 ∷ []) 6
    ∷ words (0xC0010020 ∷ 0x00000010 ∷ []) 6
    ∷ words (0x90000000 ∷ []) 6
    -- count 0 of a write and of a read; 3 of a NOP; 4,095 of a NOP, of a write and of a read
    ∷ words (0x80000F10 ∷ 0x00000004 ∷ []) 7
    ∷ words (0x80000020 ∷ 0x00000004 ∷ []) 7
    ∷ words (0x80030000 ∷ 0x00000001 ∷ 0x00000002 ∷ 0x00000003 ∷ []) 7
    ∷ words (0x8FFF0000 ∷ []) 7
    ∷ words (0x8FFFFF10 ∷ 0x00000000 ∷ []) 3
    ∷ words (0x8FFF0020 ∷ 0x00000000 ∷ []) 10
    -- enables: a last field with count 1; a first or a last field of 0 with count 2
    ∷ words (0x80011F10 ∷ 0x00000004 ∷ 0x00000000 ∷ []) 8
    ∷ words (0x8002F010 ∷ 0x00000004 ∷ 0x00000000 ∷ 0x00000000 ∷ []) 8
    ∷ words (0x80020F10 ∷ 0x00000004 ∷ 0x00000000 ∷ 0x00000000 ∷ []) 8
    -- gaps: at 8, at 12, at an address that is no multiple of 4; in 64 bits, beyond 2^32, at 8 and at 12; with count 3
    -- at 8
    ∷ words (gapped 8) 0
    ∷ words (gapped 12) 8
    ∷ words (gapped 10) 8
    ∷ words (0x8002A550 ∷ 0x00000008 ∷ 0x00000001 ∷ gapped_words) 0
    ∷ words (0x8002A550 ∷ 0x0000000C ∷ 0x00000001 ∷ gapped_words) 8
    ∷ words (0x8003A510 ∷ 0x00000008 ∷ 0x11111111 ∷ 0x22222222 ∷ 0x33333333 ∷ []) 8
    -- a first or a last field of 0 at 8 all the same
    ∷ words (0x8002F010 ∷ 0x00000008 ∷ 0x11111111 ∷ 0x22222222 ∷ []) 8
    ∷ words (0x80020F10 ∷ 0x00000008 ∷ 0x11111111 ∷ 0x22222222 ∷ []) 8
    -- no gaps, at 12: F and F, E and 7, C and 3, 8 and 1; each field of the one list in the other's place
    ∷ words (0x8002FF10 ∷ 0x0000000C ∷ 0x11111111 ∷ 0x22222222 ∷ []) 0
    ∷ words (0x80027E10 ∷ 0x0000000C ∷ 0x11111111 ∷ 0x22222222 ∷ []) 0
    ∷ words (0x80023C10 ∷ 0x0000000C ∷ 0x11111111 ∷ 0x22222222 ∷ []) 0
    ∷ words (0x80021810 ∷ 0x0000000C ∷ 0x11111111 ∷ 0x22222222 ∷ []) 0
    ∷ words (0x8002F710 ∷ 0x0000000C ∷ 0x11111111 ∷ 0x22222222 ∷ []) 8
    ∷ words (0x8002EF10 ∷ 0x0000000C ∷ 0x11111111 ∷ 0x22222222 ∷ []) 8
    -- a read whose answer just fits, and one that is one too long; two reads that are one too long together
    ∷ words (0x88C20020 ∷ 0x00000000 ∷ []) 0
    ∷ words (0x88C30020 ∷ 0x00000000 ∷ []) 10
    ∷ words (0x04600020 ∷ 0x00000000 ∷ 0x84610020 ∷ 0x00000000 ∷ []) 0
    ∷ words (0x04610020 ∷ 0x00000000 ∷ 0x84610020 ∷ 0x00000000 ∷ []) 10
    -- two faults in one header: the lower place in the order decides
    ∷ words (0xF0000030 ∷ []) 5
    ∷ words (0xF0000F10 ∷ []) 6
    ∷ words (0x8000FF10 ∷ []) 7
    ∷ words (0x80011F10 ∷ []) 3
    ∷ words (0x80011F50 ∷ 0x00000004 ∷ []) 3
    ∷ words (0x80011F10 ∷ 0x00000004 ∷ []) 8
    -- each neighbouring pair of the order: 2 and the rest; 4 and 5, 6, 3; 5 and 6, 7, 3; 6 and 7
    ∷ bytes (0x30 ∷ 0x00 ∷ 0x00 ∷ 0x80 ∷ 0x00 ∷ []) 2
    ∷ words_at (open_write (0x80010F31 ∷ [])) 4 3
    ∷ words_at (open_write (0x90010F11 ∷ 0x00000004 ∷ 0x22222222 ∷ [])) 4 3
    ∷ words_at (open_write (0x80010F11 ∷ [])) 4 3
    ∷ words (0x90010030 ∷ []) 5
    ∷ words (0x80010030 ∷ []) 5
    ∷ words (0xF0030000 ∷ []) 6
    ∷ words (0x90000020 ∷ 0x00000010 ∷ []) 6
    -- 7 and 3, of an address and of data; 7 and 8; 7 and 9; 3 and 8, 8 and 3, by gaps too; 8 and 9
    ∷ words (0x80000020 ∷ []) 7
    ∷ words (0x80030000 ∷ []) 7
    ∷ words (0x80001F10 ∷ 0x00000004 ∷ []) 7
    ∷ words (0x80000F10 ∷ 0x00000004 ∷ 0x11111111 ∷ []) 7
    ∷ words (0x8002A510 ∷ []) 3
    ∷ words (0x8002A510 ∷ 0x0000000C ∷ []) 8
    ∷ words (0x8002A510 ∷ 0x00000008 ∷ []) 3
    ∷ words (0x80011F10 ∷ 0x00000004 ∷ 0x11111111 ∷ 0x22222222 ∷ []) 8
    -- 9 and 10; 3 and 10, no word there; 10 in 64 bits, and as a discovery
    ∷ words (0x88C30020 ∷ 0x00000000 ∷ 0x00000000 ∷ []) 9
    ∷ words_at (0x08C30020 ∷ 0x00000000 ∷ []) 3 2
    ∷ words (0x88C300E0 ∷ 0x00000000 ∷ 0x00000000 ∷ []) 10
    -- faults of two headers: the first decides, 6 or 8 before 4, and each before 10
    ∷ words (0x10010F10 ∷ 0x00000000 ∷ 0x11111111 ∷ 0x80010F11 ∷ 0x00000004 ∷ 0x22222222 ∷ []) 6
    ∷ words (0x00011F10 ∷ 0x00000000 ∷ 0x11111111 ∷ 0x80010F11 ∷ 0x00000004 ∷ 0x22222222 ∷ []) 8
    ∷ words_at (open_write (0x00000F10 ∷ 0x00000004 ∷ 0x90010F10 ∷ 0x00000008 ∷ 0x22222222 ∷ [])) 7 3
    ∷ words_at (0x08C30020 ∷ 0x00000000 ∷ 0x80000020 ∷ 0x00000000 ∷ []) 7 2
    ∷ words_at (0x00020000 ∷ 0x11111111 ∷ 0x22222222 ∷ 0x00000000 ∷ 0x80030000 ∷ []) 7 4
    -- at a later header: each of the others that one can get, 9 at LAST itself; 4 at the fifth; behind 64 bits; no word
    -- there behind two
    ∷ words_at (open_write (0x80010F10 ∷ [])) 3 3
    ∷ words_at (open_write (0x80010F10 ∷ 0x00000004 ∷ [])) 3 3
    ∷ words_at (open_write (0x90010F10 ∷ 0x00000004 ∷ 0x22222222 ∷ [])) 6 3
    ∷ words_at (open_write (0x80000F10 ∷ 0x00000004 ∷ [])) 7 3
    ∷ words_at (open_write (gapped 12)) 8 3
    ∷ words_at (open_write (0x80010F10 ∷ 0x00000004 ∷ 0x22222222 ∷ 0x00000000 ∷ [])) 9 3
    ∷ words_at fifth_differs 4 12
    ∷ words_at (0x00010F50 ∷ 0x00000004 ∷ 0x00000000 ∷ 0x11111111 ∷ 0x90010F50 ∷ []) 6 4
    ∷ words_at (0x00020060 ∷ 0x00000004 ∷ 0x00000000 ∷ 0x80000060 ∷ []) 7 3
    ∷ words_at (open_write (open_write [])) 3 6
    ∷ []

abbrev pub right : Example → Bool
right e = same_refusal (refusal_in (read e.datagram)) e.given

-- which of the first n patterns of byte 1, the highest first, a write of this count at this address may have, and how
-- many
unfoldable pub patterns : ℕ → ℕ → ℕ → List ℕ
patterns zero count address = []
patterns (suc n) count address = cond (enables_ok Write count address n) (n ∷ patterns n count address)
    (patterns n count address)

abbrev pub counted : ℕ → ℕ → ℕ
counted count address = length (patterns 256 count address)

-- the four of the last field's list, each with the four of the first's
abbrev pub gapless_patterns : List ℕ
gapless_patterns = 0xFF ∷ 0xFE ∷ 0xFC ∷ 0xF8 ∷ 0x7F ∷ 0x7E ∷ 0x7C ∷ 0x78 ∷ 0x3F ∷ 0x3E ∷ 0x3C ∷ 0x38 ∷ 0x1F ∷ 0x1E ∷ 0x1C
    ∷ 0x18
    ∷ []

-- of all 256: any first field; any two but 0; and, at 12 or with more words, the four of the one list with the four of
-- the other
abbrev pub PatternsCounted : Type 0
PatternsCounted = (counted 1 12 ≡ 16) × (counted 1 8 ≡ 16) × (counted 2 8 ≡ 225)
    × (patterns 256 2 12 ≡ gapless_patterns)
    × (patterns 256 3 8 ≡ gapless_patterns)
    × (patterns 256 4 8 ≡ gapless_patterns)

-- at which of the first n addresses, the highest first, a write of this count may have 5 and A: with gaps, both nonzero
unfoldable pub gaps_at : ℕ → ℕ → List ℕ
gaps_at zero count = []
gaps_at (suc n) count = cond (enables_ok Write count n 0xA5) (n ∷ gaps_at n count) (gaps_at n count)

-- "for count 2 at an address that is a multiple of 8", and for no count above
abbrev pub GapsShown : Type 0
GapsShown = (gaps_at 40 2 ≡ 32 ∷ 24 ∷ 16 ∷ 8 ∷ 0 ∷ []) × (gaps_at 40 1 ≡ []) × (gaps_at 40 3 ≡ []) × (gaps_at 40 4 ≡ [])
    × (gaps_at 40 8 ≡ [])
    × (gaps_at 40 4095 ≡ [])

-- "Count is 1 to 4,095 for writes and reads, 0 to 2 for NOPs"
abbrev pub CountsShown : Type 0
CountsShown = (count_ok Write 0 ≡ false) × (count_ok Write 1 ≡ true) × (count_ok Write 4095 ≡ true)
    × (count_ok Reads 0 ≡ false)
    × (count_ok Reads 1 ≡ true)
    × (count_ok Reads 4095 ≡ true)
    × (count_ok Nop 0 ≡ true)
    × (count_ok Nop 2 ≡ true)
    × (count_ok Nop 3 ≡ false)

-- [6] "the fixed discovery 80020080 0000230C 00000000"
abbrev pub DiscoveryShown : Type 0
DiscoveryShown = discovery_bytes ≡ bytes_of (0x80020080 ∷ 0x0000230C ∷ 0x00000000 ∷ [])

abbrev pub every : {A : Type 0} → (A → Bool) → List A → Bool
every f [] = true
every f (x ∷ xs) = f x && every f xs
