-- Whole calls besides the bench sheet's, from bytes, and what is lent in figures. `proofs/Benched.antt` computes
-- them. Assumes nothing.
use Rattle.std.specs.Prelude.{ℕ, ◌+◌, ◌-◌, ◌≡◌, true, List, [], ◌∷◌, ◌++◌, length, replicate}
use Rattle.word.specs.Words.{bytes_of}
use Rattle.header.specs.Refusal.{refusal}
use Rattle.tags.specs.declared.record.TagRecord.{TagRecord}
use Rattle.tags.specs.Record.{fresh_record}
use Rattle.tags.specs.Examples.{holding, all}
use Rattle.completer.specs.Controller.{lent, After, left}
use Rattle.figures.specs.BenchSheet.{bench_memory, none_sent, bench_start, bench_fresh, bench_one, memory_with}
use Rattle.figures.specs.BenchSheet.{holding_one, holding_feed, Line, line, plays, every}
use Rattle.figures.specs.BenchSheet.{write_feed, write_other, read_next}

-- memory with these four words at its front
abbrev pub memory_four : ℕ → ℕ → ℕ → ℕ → List ℕ
memory_four u v w x = u ∷ v ∷ w ∷ x ∷ 0xF00DFACE ∷ 0 ∷ 0 ∷ 0 ∷ []

-- after (a)
unfoldable pub bench_fed : After
bench_fed = plays bench_fresh (write_feed ∷ [])

-- a line from a fresh record, and one after (a): neither changes memory further
abbrev pub quiet : List ℕ → List ℕ → TagRecord → Line
quiet datagram words tags = line bench_fresh (datagram ∷ []) 0 words bench_memory tags

abbrev pub behind_feed : List (List ℕ) → ℕ → List ℕ → Line
behind_feed datagrams number words = line bench_fed datagrams number words (memory_with 0 0xFEEDC0DE) holding_feed

abbrev pub after_feed : List ℕ → ℕ → List ℕ → Line
after_feed datagram number words = behind_feed (datagram ∷ []) number words

-- a line of one datagram that is refused, from this record; and of one that has no byte, so 2, or 1 before it
abbrev pub refuses : TagRecord → List ℕ → ℕ → Line
refuses tags datagram number = line (bench_start tags) (datagram ∷ []) number [] bench_memory tags

abbrev pub nothing : TagRecord → ℕ → Line
nothing tags number = refuses tags [] number

-- a NOP of two words with this header, and what follows it
abbrev pub nop : ℕ → List ℕ → List ℕ
nop header rest = header ∷ 0x11111111 ∷ 0x22222222 ∷ rest

-- carrying out: one command after another, and each kind's answer
unfoldable pub carried_lines : List Line
carried_lines =
    -- two writes of one word, the second of two of its bytes
    line bench_fresh ((0x00010F10 ∷ 0x00000004 ∷ 0x11111111 ∷ 0x80010310 ∷ 0x00000004 ∷ 0x22222222 ∷ []) ∷ []) 0
    (0x00000030 ∷ 0x80000030 ∷ [])
    (memory_with 0 0x11112222)
    (holding_one 0 2 6)
    -- an Error, and a write behind it that is not done; the same behind one that is
    ∷ quiet (0x00010F10 ∷ 0x00000020 ∷ 0x11111111 ∷ 0x80010F10 ∷ 0x00000000 ∷ 0x22222222 ∷ []) (0x80000230 ∷ [])
    (holding_one 0 1 6)
    ∷ line bench_fresh
    ((0x00010F10 ∷ 0x00000000 ∷ 0x11111111 ∷ 0x00010F10 ∷ 0x00000020 ∷ 0x22222222 ∷ 0x80010F10 ∷ 0x00000004
    ∷ 0x33333333
    ∷ [])
    ∷ [])
    0
    (0x00000030 ∷ 0x80000230 ∷ [])
    (memory_with 0x11111111 0)
    (holding_one 0 2 9)
    -- no multiple of 4: a write at 6, a read at 18; a write of two words whose second lies past the end; the last word
    ∷ quiet (0x80010F10 ∷ 0x00000006 ∷ 0x11111111 ∷ []) (0x80000230 ∷ []) (holding_one 0 1 3)
    ∷ quiet (0x80010020 ∷ 0x00000012 ∷ []) (0x80000230 ∷ []) (holding_one 0 1 2)
    ∷ quiet (0x8002FF10 ∷ 0x0000001C ∷ 0x11111111 ∷ 0x22222222 ∷ []) (0x80000230 ∷ []) (holding_one 0 1 4)
    ∷ line bench_fresh ((0x80010F10 ∷ 0x0000001C ∷ 0x77777777 ∷ []) ∷ []) 0 (0x80000030 ∷ [])
    (0 ∷ 0 ∷ 0 ∷ 0 ∷ 0xF00DFACE ∷ 0 ∷ 0 ∷ 0x77777777 ∷ [])
    (holding_one 0 1 3)
    -- no byte enabled: inside memory OK, and past its end an Error all the same
    ∷ quiet (0x80010010 ∷ 0x00000004 ∷ 0x11111111 ∷ []) (0x80000030 ∷ []) (holding_one 0 1 3)
    ∷ quiet (0x80010010 ∷ 0x00000020 ∷ 0x11111111 ∷ []) (0x80000230 ∷ []) (holding_one 0 1 3)
    -- four words: the first under C, the last under 3, the middle ones whole
    ∷ line bench_fresh ((0x80043C10 ∷ 0x00000000 ∷ 0x11111111 ∷ 0x22222222 ∷ 0x33333333 ∷ 0x44444444 ∷ []) ∷ []) 0
    (0x80000030 ∷ [])
    (memory_four 0x11110000 0x22222222 0x33333333 0x00004444)
    (holding_one 0 1 6)
    -- a read of two words, whatever byte 1 says; two reads; one behind which the next fails
    ∷ quiet (0x80021120 ∷ 0x0000000C ∷ []) (0x80020030 ∷ 0x00000000 ∷ 0xF00DFACE ∷ []) (holding_one 0 3 2)
    ∷ quiet (0x00010020 ∷ 0x00000010 ∷ 0x80020020 ∷ 0x0000000C ∷ [])
    (0x00010030 ∷ 0xF00DFACE ∷ 0x80020030 ∷ 0x00000000 ∷ 0xF00DFACE ∷ [])
    (holding_one 0 5 4)
    ∷ quiet (0x00010020 ∷ 0x00000010 ∷ 0x80010020 ∷ 0x00000020 ∷ []) (0x00010030 ∷ 0xF00DFACE ∷ 0x80000230 ∷ [])
    (holding_one 0 3 4)
    -- byte 0 of the request: an Error keeps its tag and bits 6 and 7, an OK write its tag and bit 6
    ∷ quiet (0x80010FD5 ∷ 0x00000000 ∷ 0x00000001 ∷ 0x11111111 ∷ []) (0x800002F5 ∷ []) fresh_record
    ∷ line (bench_one 4 1 1) ((0x80010F55 ∷ 0x00000004 ∷ 0x00000000 ∷ 0x11111111 ∷ []) ∷ []) 0 (0x80000075 ∷ [])
    (memory_with 0 0x11111111)
    (holding 2 5 (1 ∷ 1 ∷ 0 ∷ 0 ∷ []) (1 ∷ 4 ∷ 0 ∷ 0 ∷ []))
    -- the advertisement: none of it; all of it, fresh, with tags 0 and 15 stored, and with the newest of four, 1
    ∷ quiet (0x80000000 ∷ []) (0x80000030 ∷ []) (holding_one 0 1 1)
    ∷ quiet (nop 0x80020080 []) (0x800200B0 ∷ 0x0000230C ∷ 0x00000000 ∷ []) fresh_record
    ∷ line (bench_one 0 1 1) (nop 0x80020080 [] ∷ []) 0 (0x800200B0 ∷ 0x0000230C ∷ 0x00000010 ∷ []) bench_memory
    (holding_one 0 1 1)
    ∷ line (bench_one 15 1 1) (nop 0x80020080 [] ∷ []) 0 (0x800200B0 ∷ 0x0000230C ∷ 0x0000001F ∷ []) bench_memory
    (holding_one 15 1 1)
    ∷ line (bench_start (holding 4 1 (all 1) (all 1))) (nop 0x80020080 [] ∷ []) 0
    (0x800200B0 ∷ 0x0000230C ∷ 0x00000011 ∷ [])
    bench_memory
    (holding 4 1 (all 1) (all 1))
    -- "the stored tag at entry", of a new message: none, 3, and 3 in both of two NOPs; then the tag stored by the last
    ∷ quiet (nop 0x80020000 []) (0x80020030 ∷ 0x0000230C ∷ 0x00000000 ∷ []) (holding_one 0 3 3)
    ∷ line (bench_one 3 1 1) (nop 0x80020004 [] ∷ []) 0 (0x80020034 ∷ 0x0000230C ∷ 0x00000013 ∷ []) bench_memory
    (holding 2 4 (3 ∷ 0 ∷ 0 ∷ 1 ∷ []) (3 ∷ 0 ∷ 0 ∷ 1 ∷ []))
    ∷ line (bench_one 3 1 1) (nop 0x00020004 (nop 0x80020004 []) ∷ []) 0
    (0x00020034 ∷ 0x0000230C ∷ 0x00000013 ∷ 0x80020034 ∷ 0x0000230C ∷ 0x00000013 ∷ [])
    bench_memory
    (holding 2 4 (6 ∷ 0 ∷ 0 ∷ 1 ∷ []) (6 ∷ 0 ∷ 0 ∷ 1 ∷ []))
    ∷ line (bench_one 3 1 1) (nop 0x80020004 [] ∷ nop 0x80020005 [] ∷ []) 0
    (0x80020035 ∷ 0x0000230C ∷ 0x00000014 ∷ [])
    bench_memory
    (holding 3 5 (3 ∷ 3 ∷ 0 ∷ 1 ∷ []) (3 ∷ 3 ∷ 0 ∷ 1 ∷ []))
    ∷ []

-- a read of words 3 and 4, by a new message and by a discovery
abbrev pub read_two : List ℕ
read_two = 0x80020020 ∷ 0x0000000C ∷ []

abbrev pub find_two : List ℕ
find_two = 0x800200A0 ∷ 0x0000000C ∷ []

-- a read of two words, tag 0, whose first lies at this address
abbrev pub past_end : ℕ → List ℕ
past_end address = 0x80020020 ∷ address ∷ []

-- a read of word 4 with this tag, and its answer
abbrev pub read_as : ℕ → List ℕ
read_as tag = (0x80010020 + tag) ∷ 0x00000010 ∷ []

abbrev pub answer_as : ℕ → List ℕ
answer_as tag = (0x80010030 + tag) ∷ 0xF00DFACE ∷ []

-- tags, and the order of 1, 2, 10, 11 and 12
unfoldable pub tagged_lines : List Line
tagged_lines =
    -- the stored tag with another body: a read, another write, one of two address words; byte 0, byte 1 and the last
    -- byte alone another; one that is shorter
    after_feed (0x80010020 ∷ 0x00000010 ∷ []) 12 []
    ∷ after_feed (0x80010F10 ∷ 0x00000000 ∷ 0x11111111 ∷ []) 12 []
    ∷ after_feed (0x80010F50 ∷ 0x00000004 ∷ 0x00000000 ∷ 0xFEEDC0DE ∷ []) 12 []
    ∷ after_feed (0x80010F60 ∷ 0x00000004 ∷ 0xFEEDC0DE ∷ []) 12 []
    ∷ after_feed (0x80010710 ∷ 0x00000004 ∷ 0xFEEDC0DE ∷ []) 12 []
    ∷ after_feed (0x80010F10 ∷ 0x00000004 ∷ 0x7EEDC0DE ∷ []) 12 []
    ∷ after_feed (0x80000000 ∷ []) 12 []
    -- 7 and 10 before 12, and 11 for another tag with another body
    ∷ after_feed (0x80000F10 ∷ 0x00000004 ∷ []) 7 []
    ∷ after_feed (0x88C30020 ∷ 0x00000000 ∷ []) 10 []
    ∷ after_feed (0x80010022 ∷ 0x00000010 ∷ []) 11 []
    -- a message that ends in Error is kept: again it is a repeat, with another body it is 12
    ∷ line bench_fresh (past_end 0x20 ∷ past_end 0x20 ∷ []) 0 (0x80000230 ∷ []) bench_memory (holding_one 0 1 2)
    ∷ line bench_fresh (past_end 0x20 ∷ past_end 0x10 ∷ []) 12 [] bench_memory (holding_one 0 1 2)
    -- a discovery, a refusal and a repeat are not kept: (a) is still the repeat behind each, and behind 12 itself
    ∷ behind_feed (find_two ∷ write_feed ∷ []) 0 (0x80000030 ∷ [])
    ∷ behind_feed ((0x80010F12 ∷ 0x00000004 ∷ 0x00000000 ∷ []) ∷ write_feed ∷ []) 0 (0x80000030 ∷ [])
    ∷ behind_feed (write_other ∷ write_feed ∷ []) 0 (0x80000030 ∷ [])
    ∷ behind_feed (write_other ∷ write_other ∷ []) 12 []
    -- the next message is kept at a place of its own: both are repeats then
    ∷ line bench_fed (read_next ∷ read_next ∷ []) 0 (0x80010031 ∷ 0xF00DFACE ∷ []) (memory_with 0 0xFEEDC0DE)
    (holding 2 1 (1 ∷ 2 ∷ 0 ∷ 0 ∷ []) (3 ∷ 2 ∷ 0 ∷ 0 ∷ []))
    ∷ line bench_fed (read_next ∷ write_feed ∷ []) 0 (0x80000030 ∷ []) (memory_with 0 0xFEEDC0DE)
    (holding 2 1 (1 ∷ 2 ∷ 0 ∷ 0 ∷ []) (3 ∷ 2 ∷ 0 ∷ 0 ∷ []))
    -- what the kept bytes are is not judged: a record that holds tag 0 and three words, over zeros
    ∷ refuses (holding_one 0 1 3) write_feed 12
    -- a repeat of a read is answered from the stored words, also when memory has changed since
    ∷ line bench_fresh
    ((0x80010020 ∷ 0x00000010 ∷ []) ∷ (0x80010F90 ∷ 0x00000010 ∷ 0x00000000 ∷ []) ∷ (0x80010020 ∷ 0x00000010 ∷ []) ∷ [])
    0
    (0x80010030 ∷ 0xF00DFACE ∷ [])
    (0 ∷ 0 ∷ 0 ∷ 0 ∷ 0 ∷ 0 ∷ 0 ∷ 0 ∷ [])
    (holding_one 0 2 2)
    -- out of step: the tag before, and 10 and 7 before 11
    ∷ after_feed (0x80010F1F ∷ 0x00000004 ∷ 0x11111111 ∷ []) 11 []
    ∷ after_feed (0x88C30022 ∷ 0x00000000 ∷ []) 10 []
    ∷ after_feed (0x80000F12 ∷ 0x00000004 ∷ []) 7 []
    -- a discovery's tag is not compared: the stored one, the next and another are carried out, and the record stays
    ∷ after_feed (0x800100A0 ∷ 0x00000010 ∷ []) 0 (0x800100B0 ∷ 0xF00DFACE ∷ [])
    ∷ after_feed (0x800100A1 ∷ 0x00000010 ∷ []) 0 (0x800100B1 ∷ 0xF00DFACE ∷ [])
    ∷ after_feed (0x800100A7 ∷ 0x00000010 ∷ []) 0 (0x800100B7 ∷ 0xF00DFACE ∷ [])
    -- a fresh record's tag and lengths are not looked at: 0 is new, and neither 7 nor 8 is a repeat or new
    ∷ line (bench_start (holding 0 7 (all 1) (all 2))) (write_feed ∷ []) 0 (0x80000030 ∷ []) (memory_with 0 0xFEEDC0DE)
    (holding 1 0 (all 1) (3 ∷ 2 ∷ 2 ∷ 2 ∷ []))
    ∷ refuses (holding 0 7 (all 1) (all 2)) (read_as 7) 11
    ∷ refuses (holding 0 7 (all 1) (all 2)) (read_as 8) 11
    -- 1 before 2, before 7, before 11 and of a discovery, by the record's tag and by its length
    ∷ nothing (holding_one 16 1 1) 1
    ∷ refuses (holding_one 0 0 1) (0x80000F10 ∷ 0x00000004 ∷ []) 1
    ∷ refuses (holding_one 16 1 1) (0x80010F15 ∷ 0x00000004 ∷ 0x11111111 ∷ []) 1
    ∷ refuses (holding_one 15 2244 1) (0x80010080 ∷ 0x00000004 ∷ []) 1
    -- 1 before 12, by the record's request length
    ∷ refuses (holding_one 0 1 0) write_feed 1
    ∷ refuses (holding_one 0 1 2244) write_feed 1
    ∷ []

-- [9] four held across 15 and 0, in figures: of tag 0 a read of word 4, of 1 a write of word 1, of 14 a NOP, of 15 a
-- read of words 3 and 4; at each place the answer and the request, and zeros behind them
unfoldable pub each_at : ℕ → List (List ℕ) → List ℕ
each_at size [] = []
each_at size (l ∷ ls) = (l ++ replicate (size - length l) 0) ++ each_at size ls

abbrev pub across_tags : TagRecord
across_tags = holding 4 1 (2 ∷ 1 ∷ 1 ∷ 3 ∷ []) (2 ∷ 3 ∷ 1 ∷ 2 ∷ [])

unfoldable pub bench_across : After
bench_across =
    left (refusal 0) 0
    (lent (memory_with 0 0x11111111)
    (each_at 2243 ((0x80010030 ∷ 0xF00DFACE ∷ []) ∷ (0x80000031 ∷ []) ∷ (0x8000003E ∷ [])
    ∷ (0x8002003F ∷ 0 ∷ 0xF00DFACE ∷ []) ∷ []))
    (each_at 8972 (bytes_of (0x80010020 ∷ 0x00000010 ∷ []) ∷ bytes_of (0x80010F11 ∷ 0x00000004 ∷ 0x11111111 ∷ [])
    ∷ bytes_of (0x8000000E ∷ []) ∷ bytes_of (0x8002002F ∷ 0x0000000C ∷ []) ∷ []))
    across_tags)
    none_sent

-- then this datagram, refused, a repeat or a discovery; or the next message, a read of word 4, and these behind it
abbrev pub across : List ℕ → ℕ → List ℕ → Line
across datagram number words = line bench_across (datagram ∷ []) number words (memory_with 0 0x11111111) across_tags

abbrev pub across_next : List (List ℕ) → ℕ → List ℕ → Line
across_next datagrams number words =
    line bench_across (read_as 2 ∷ datagrams) number words (memory_with 0 0x11111111)
    (holding 4 2 (2 ∷ 1 ∷ 2 ∷ 3 ∷ []) (2 ∷ 3 ∷ 2 ∷ 2 ∷ []))

-- four lengths of one word but one place's
abbrev pub but : ℕ → ℕ → List ℕ
but place n = replicate place 1 ++ (n ∷ replicate (3 - place) 1)

-- [9] four held: repeats, and the order of 1, 2, 7, 10, 11 and 12
unfoldable pub held_lines : List Line
held_lines =
    -- each of the four again; the one before them and the one after the next
    across (0x8000000E ∷ []) 0 (0x8000003E ∷ [])
    ∷ across (0x8002002F ∷ 0x0000000C ∷ []) 0 (0x8002003F ∷ 0 ∷ 0xF00DFACE ∷ [])
    ∷ across (0x80010020 ∷ 0x00000010 ∷ []) 0 (0x80010030 ∷ 0xF00DFACE ∷ [])
    ∷ across (0x80010F11 ∷ 0x00000004 ∷ 0x11111111 ∷ []) 0 (0x80000031 ∷ [])
    ∷ across (0x8000000D ∷ []) 11 []
    ∷ across (0x80000003 ∷ []) 11 []
    -- the next, at the place of the oldest, which is out of step then; the one behind it is a repeat still
    ∷ across_next [] 0 (answer_as 2)
    ∷ across_next ((0x8000000E ∷ []) ∷ []) 11 []
    ∷ across_next ((0x8002002F ∷ 0x0000000C ∷ []) ∷ []) 0 (0x8002003F ∷ 0 ∷ 0xF00DFACE ∷ [])
    -- 12 for each of the four: another body, another address, another byte 1, another last byte
    ∷ across (0x8001000E ∷ 0x11111111 ∷ []) 12 []
    ∷ across (0x8002002F ∷ 0x00000008 ∷ []) 12 []
    ∷ across (0x80010F20 ∷ 0x00000010 ∷ []) 12 []
    ∷ across (0x80010F11 ∷ 0x00000004 ∷ 0x12111111 ∷ []) 12 []
    -- and what is kept for another of them under this tag, of the same length and of another
    ∷ across (0x80020020 ∷ 0x0000000C ∷ []) 12 []
    ∷ across (0x80010F1F ∷ 0x00000004 ∷ 0x11111111 ∷ []) 12 []
    -- 7 and 10 before 12. 11 and 12 never meet: 12 is for a tag that is held, 11 for one that is not, also where its
    -- place is held for another, whatever the bytes are
    ∷ across (0x80000F1F ∷ 0x00000004 ∷ []) 7 []
    ∷ across (0x88C3002F ∷ 0x00000000 ∷ []) 10 []
    ∷ across (0x8002002B ∷ 0x0000000C ∷ []) 11 []
    ∷ across (0x80010F15 ∷ 0x00000008 ∷ 0xFEEDC0DE ∷ []) 11 []
    -- a discovery of an older tag is no repeat
    ∷ across (0x800100AF ∷ 0x00000010 ∷ []) 0 (0x800100BF ∷ 0xF00DFACE ∷ [])
    -- 1 before 2: five held, tag 16, and at each place that is held an answer or a request of no word, or of 2,244
    ∷ nothing (holding 5 3 (all 1) (all 1)) 1
    ∷ nothing (holding 4 16 (all 1) (all 1)) 1
    ∷ nothing (holding 4 3 (but 0 0) (all 1)) 1
    ∷ nothing (holding 4 3 (but 1 2244) (all 1)) 1
    ∷ nothing (holding 4 3 (but 2 0) (all 1)) 1
    ∷ nothing (holding 4 3 (but 3 2244) (all 1)) 1
    ∷ nothing (holding 4 3 (all 1) (but 0 2244)) 1
    ∷ nothing (holding 4 3 (all 1) (but 1 0)) 1
    ∷ nothing (holding 4 3 (all 1) (but 2 2244)) 1
    ∷ nothing (holding 4 3 (all 1) (but 3 0)) 1
    -- and 2: tags 1, 0 and 15 are held, so place 2 is not looked at; four held, the longest; none held
    ∷ nothing (holding 3 1 (but 2 0) (but 2 2244)) 2
    ∷ nothing (holding 4 3 (all 2243) (all 2243)) 2
    ∷ nothing (holding 0 16 (all 0) (all 2244)) 2
    ∷ []

abbrev pub CallsHold : Type 0
CallsHold = (every carried_lines ≡ true) × (every tagged_lines ≡ true) × (every held_lines ≡ true)
