-- The bench sheet: its marked lines as one statement over one list, from bytes. `proofs/Benched.antt` computes it.
-- Assumes nothing.
use Rattle.std.specs.Prelude.{ℕ, ◌-◌, ◌*◌, ◌%◌, ◌≡◌, Bool, true, ◌&&◌, List, [], ◌∷◌, ◌++◌, eqb, take, replicate}
use Rattle.word.specs.Words.{bytes_of, same}
use Rattle.header.specs.declared.refusal.Refusal.{Refusal}
use Rattle.header.specs.Limits.{limit, limit_bytes}
use Rattle.header.specs.Refusal.{refused_at, refusal}
use Rattle.message.specs.Examples.{same_refusal, gapped, fifth_differs}
use Rattle.tags.specs.declared.record.TagRecord.{TagRecord}
use Rattle.tags.specs.Record.{fresh_record}
use Rattle.tags.specs.Examples.{holding}
use Rattle.completer.specs.Controller.{lent, After, left}
use Rattle.completer.specs.Serving.{after}

-- "Memory of 8 zero words but word 4 = F00DFACE"
abbrev pub bench_memory : List ℕ
bench_memory = 0 ∷ 0 ∷ 0 ∷ 0 ∷ 0xF00DFACE ∷ 0 ∷ 0 ∷ 0 ∷ []

-- four lengths, of which only the place of this tag has one
abbrev pub alone : ℕ → ℕ → List ℕ
alone tag n = replicate (tag % 4) 0 ++ (n ∷ replicate (3 - tag % 4) 0)

-- a record that holds one message, of this tag, with an answer and a request of so many words
abbrev pub holding_one : ℕ → ℕ → ℕ → TagRecord
holding_one tag words request = holding 1 tag (alone tag words) (alone tag request)

-- nothing stored, nothing kept, nothing in the output
unfoldable pub none_stored : List ℕ
none_stored = replicate (4 * limit) 0

unfoldable pub none_kept : List ℕ
none_kept = replicate (4 * limit_bytes) 0

unfoldable pub none_sent : List ℕ
none_sent = replicate limit_bytes 0

-- what is there at first, with this record; "fresh unless said"; one held
unfoldable pub bench_start : TagRecord → After
bench_start tags = left (refusal 0) 0 (lent bench_memory none_stored none_kept tags) none_sent

unfoldable pub bench_fresh : After
bench_fresh = bench_start fresh_record

abbrev pub bench_one : ℕ → ℕ → ℕ → After
bench_one tag words request = bench_start (holding_one tag words request)

-- one call after another, each lent what the last one left
unfoldable pub plays : After → List (List ℕ) → After
plays a [] = a
plays a (d ∷ ds) = plays (after a.controller a.output (bytes_of d)) ds

-- a line of the sheet: what is there at first, the datagrams in turn, and after the last one the refusal (number 0:
-- none), all words sent, the whole memory and the record
pub record Line : Type 0 where
  pub start : After
  pub datagrams : List (List ℕ)
  pub given : Refusal
  pub words : List ℕ
  pub memory : List ℕ
  pub tags : TagRecord

abbrev pub line : After → List (List ℕ) → ℕ → List ℕ → List ℕ → TagRecord → Line
line start datagrams number words memory tags =
    record { start = start; datagrams = datagrams; given = refusal number; words = words; memory = memory; tags = tags }

unfoldable pub same_record : TagRecord → TagRecord → Bool
same_record a b =
    eqb a.held b.held && eqb a.tag b.tag && same a.words b.words && same a.request b.request

unfoldable pub right : Line → Bool
right l =
    let a = plays l.start l.datagrams in
    same_refusal a.refusal l.given && same (take a.sent a.output) (bytes_of l.words)
    && same a.controller.memory l.memory
    && same_record a.controller.tags l.tags

unfoldable pub every : List Line → Bool
every [] = true
every (l ∷ ls) = right l && every ls

-- (a) of the list, and a discovery write of 0 to word 1
abbrev pub write_feed : List ℕ
write_feed = 0x80010F10 ∷ 0x00000004 ∷ 0xFEEDC0DE ∷ []

-- the same with another data word, and with a second write behind it
abbrev pub write_other : List ℕ
write_other = 0x80010F10 ∷ 0x00000004 ∷ 0xFEEDC0DF ∷ []

abbrev pub write_longer : List ℕ
write_longer = 0x00010F10 ∷ 0x00000004 ∷ 0xFEEDC0DE ∷ 0x80010F10 ∷ 0x00000008 ∷ 0x22222222 ∷ []

abbrev pub discover_zero : List ℕ
discover_zero = 0x80010F90 ∷ 0x00000004 ∷ 0x00000000 ∷ []

-- memory with these two words at its front
abbrev pub memory_with : ℕ → ℕ → List ℕ
memory_with u v = u ∷ v ∷ 0 ∷ 0 ∷ 0xF00DFACE ∷ 0 ∷ 0 ∷ 0 ∷ []

-- [9] four messages, of tags 0 to 3: (a), a read of word 4, a write of words 2 and 3, a read of words 1 to 3; and a
-- fifth, of tag 4, writes of words 0 and 5
abbrev pub read_next : List ℕ
read_next = 0x80010021 ∷ 0x00000010 ∷ []

abbrev pub write_two : List ℕ
write_two = 0x8002FF12 ∷ 0x00000008 ∷ 0x11111111 ∷ 0x22222222 ∷ []

abbrev pub read_three : List ℕ
read_three = 0x80030023 ∷ 0x00000004 ∷ []

abbrev pub write_fifth : List ℕ
write_fifth = 0x00010F14 ∷ 0x00000000 ∷ 0x33333333 ∷ 0x80010F14 ∷ 0x00000014 ∷ 0x44444444 ∷ []

-- after the four; and after the fifth
unfoldable pub bench_four : After
bench_four = plays bench_fresh (write_feed ∷ read_next ∷ write_two ∷ read_three ∷ [])

unfoldable pub bench_five : After
bench_five = plays bench_four (write_fifth ∷ [])

-- then this datagram: refused, or a repeat, so that neither memory nor the record changes further
abbrev pub after_four : List ℕ → ℕ → List ℕ → Line
after_four datagram number words =
    line bench_four (datagram ∷ []) number words
    (0 ∷ 0xFEEDC0DE ∷ 0x11111111 ∷ 0x22222222 ∷ 0xF00DFACE ∷ 0 ∷ 0 ∷ 0 ∷ [])
    (holding 4 3 (1 ∷ 2 ∷ 1 ∷ 4 ∷ []) (3 ∷ 2 ∷ 4 ∷ 2 ∷ []))

abbrev pub after_five : List ℕ → ℕ → List ℕ → Line
after_five datagram number words =
    line bench_five (datagram ∷ []) number words
    (0x33333333 ∷ 0xFEEDC0DE ∷ 0x11111111 ∷ 0x22222222 ∷ 0xF00DFACE ∷ 0x44444444 ∷ 0 ∷ 0 ∷ [])
    (holding 4 4 (2 ∷ 2 ∷ 1 ∷ 4 ∷ []) (6 ∷ 2 ∷ 4 ∷ 2 ∷ []))

-- after (a); and after (a) behind tag 15, whose answer and request have so many words
abbrev pub holding_feed : TagRecord
holding_feed = holding_one 0 1 3

abbrev pub behind15 : ℕ → ℕ → TagRecord
behind15 words request = holding 2 0 (1 ∷ 0 ∷ 0 ∷ words ∷ []) (3 ∷ 0 ∷ 0 ∷ request ∷ [])

-- the marked lines, in order
unfoldable pub bench_sheet : List Line
bench_sheet =
    line bench_fresh ((0x80010080 ∷ 0x00000004 ∷ []) ∷ []) 0 (0x800100B0 ∷ 0x0000230C ∷ []) bench_memory fresh_record
    ∷ line bench_fresh ((0x800100A0 ∷ 0x00000010 ∷ []) ∷ []) 0 (0x800100B0 ∷ 0xF00DFACE ∷ []) bench_memory fresh_record
    ∷ line bench_fresh ((0x80010F90 ∷ 0x00000004 ∷ 0xFEEDC0DE ∷ []) ∷ []) 0 (0x800000B0
    ∷ []) (memory_with 0 0xFEEDC0DE) fresh_record
    ∷ line bench_fresh (write_feed ∷ []) 0 (0x80000030 ∷ []) (memory_with 0 0xFEEDC0DE) holding_feed
    ∷ line bench_fresh (write_feed ∷ discover_zero ∷ write_feed ∷ []) 0 (0x80000030 ∷ []) bench_memory holding_feed
    ∷ line bench_fresh (write_feed ∷ discover_zero ∷ write_feed ∷ (0x80010411 ∷ 0x00000004 ∷ 0xAABBCCDD ∷ [])
    ∷ []) 0 (0x80000031 ∷ [])
    (memory_with 0 0x00BB0000) (holding 2 1 (1 ∷ 1 ∷ 0 ∷ 0 ∷ []) (3 ∷ 3 ∷ 0 ∷ 0 ∷ []))
    ∷ line bench_fresh (write_feed ∷ (0x80010F12 ∷ 0x00000004 ∷ 0x00000000 ∷ [])
    ∷ []) 11 [] (memory_with 0 0xFEEDC0DE) holding_feed
    ∷ line (bench_one 15 1 1) (write_feed ∷ []) 0 (0x80000030 ∷ []) (memory_with 0 0xFEEDC0DE) (behind15 1 1)
    ∷ line bench_fresh ((0x80020020 ∷ 0x0000001C ∷ []) ∷ []) 0 (0x80000230 ∷ []) bench_memory (holding_one 0 1 2)
    ∷ line bench_fresh ((0x00010F10 ∷ 0x00000000 ∷ 0x11111111 ∷ 0x80010F10 ∷ 0x00000020 ∷ 0x22222222 ∷ [])
    ∷ []) 0 (0x00000030 ∷ 0x80000230 ∷ [])
    (memory_with 0x11111111 0) (holding_one 0 2 6)
    ∷ line bench_fresh ((0x80010F50 ∷ 0x00000004 ∷ 0x00000001 ∷ 0x00000000 ∷ []) ∷ []) 0 (0x80000270
    ∷ []) bench_memory (holding_one 0 1 4)
    -- [3] "Add a bench line for each side, at addresses 8 and 12": carried out, and 8
    ∷ line bench_fresh (gapped 8 ∷ []) 0 (0x80000030 ∷ []) (0 ∷ 0 ∷ 0x00220044 ∷ 0x55007700 ∷ 0xF00DFACE ∷ 0 ∷ 0 ∷ 0
    ∷ []) (holding_one 0 1 4)
    ∷ line bench_fresh (gapped 12 ∷ []) 8 [] bench_memory fresh_record
    -- [4] "refused 4 at 12": four writes stand before it, and none is carried out
    ∷ record {
      start = bench_fresh;
      datagrams = fifth_differs
          ∷ [];
      given = refused_at 4 12;
      words = [];
      memory = bench_memory;
      tags = fresh_record;
    }
    -- [6] 1, "length 1 to" 2,243: a stored answer of so many words, and of one more
    ∷ line (bench_one 15 2243 1) (write_feed ∷ []) 0 (0x80000030 ∷ []) (memory_with 0 0xFEEDC0DE) (behind15 2243 1)
    ∷ line (bench_one 15 2244 1) (write_feed ∷ []) 1 [] bench_memory (holding_one 15 2244 1)
    -- [7] "A repeat whose bytes differ from the kept request is refused as 12": (a) with another data word; (a) and a
    -- write behind it; (a) again, which is still a repeat, as (b) is above; a read whose byte 1 is another
    ∷ line bench_fresh (write_feed ∷ write_other ∷ []) 12 [] (memory_with 0 0xFEEDC0DE) holding_feed
    ∷ line bench_fresh (write_feed ∷ write_other ∷ write_longer ∷ []) 12 [] (memory_with 0 0xFEEDC0DE) holding_feed
    ∷ line bench_fresh (write_feed ∷ write_other ∷ write_longer ∷ write_feed ∷ []) 0 (0x80000030 ∷ [])
    (memory_with 0 0xFEEDC0DE) holding_feed
    ∷ line bench_fresh ((0x80010020 ∷ 0x00000010 ∷ []) ∷ (0x80011120 ∷ 0x00000010 ∷ []) ∷ []) 12 [] bench_memory
    (holding_one 0 2 2)
    -- [7] "Refusal 1 covers .. the record's request length": 2,243 words, and one more
    ∷ line (bench_one 15 1 2243) (write_feed ∷ []) 0 (0x80000030 ∷ []) (memory_with 0 0xFEEDC0DE) (behind15 1 2243)
    ∷ line (bench_one 15 1 2244) (write_feed ∷ []) 1 [] bench_memory (holding_one 15 1 2244)
    -- [9] "a fresh controller now takes only tag 0, else 11": 0 is (a); 1, and 15
    ∷ line bench_fresh (read_next ∷ []) 11 [] bench_memory fresh_record
    ∷ line bench_fresh ((0x80010F1F ∷ 0x00000004 ∷ 0xFEEDC0DE ∷ []) ∷ []) 11 [] bench_memory fresh_record
    -- [9] "keeps the last four answers with their tags to answer repeats of any"
    ∷ after_four write_feed 0 (0x80000030 ∷ [])
    ∷ after_four read_next 0 (0x80010031 ∷ 0xF00DFACE ∷ [])
    ∷ after_four write_two 0 (0x80000032 ∷ [])
    ∷ after_four read_three 0 (0x80030033 ∷ 0xFEEDC0DE ∷ 0x11111111 ∷ 0x22222222 ∷ [])
    -- [9] "Older and early ones are 11": 15, and 5; "takes only the next tag", 4: then 0 is an older one, and the other
    -- three are repeats still
    ∷ after_four (0x8001002F ∷ 0x00000010 ∷ []) 11 []
    ∷ after_four (0x80010025 ∷ 0x00000010 ∷ []) 11 []
    ∷ after_five write_feed 11 []
    ∷ after_five read_next 0 (0x80010031 ∷ 0xF00DFACE ∷ [])
    ∷ after_five write_two 0 (0x80000032 ∷ [])
    ∷ after_five read_three 0 (0x80030033 ∷ 0xFEEDC0DE ∷ 0x11111111 ∷ 0x22222222 ∷ [])
    ∷ after_five write_fifth 0 (0x00000034 ∷ 0x80000034 ∷ [])
    ∷ []

-- every marked line holds
abbrev pub BenchHolds : Type 0
BenchHolds = every bench_sheet ≡ true
