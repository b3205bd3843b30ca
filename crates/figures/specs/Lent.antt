-- What calls leave in what is lent, which lengths are let by, and where the places stand, in figures.
-- `proofs/Benched.antt` computes them. Assumes nothing.
use Rattle.std.specs.Prelude.{ℕ, zero, suc, ◌-◌, ◌*◌, ◌≡◌, Bool, true, false, ◌&&◌, List, [], ◌∷◌, ◌++◌, take, drop, replicate, Ok, Err}
use Rattle.word.specs.Words.{bytes_of, same}
use Rattle.header.specs.Refusal.{refusal}
use Rattle.tags.specs.declared.record.TagRecord.{TagRecord}
use Rattle.tags.specs.declared.rule.Verdict.TheVariants.{New, Repeat}
use Rattle.tags.specs.Record.{fresh_record}
use Rattle.tags.specs.Rule.{Ruling}
use Rattle.tags.specs.Examples.{holding, all}
use Rattle.completer.specs.Controller.{lent, After, left}
use Rattle.completer.specs.Verdict.{lent_ok, verdict_by}
use Rattle.figures.specs.BenchSheet.{bench_memory, bench_one, holding_one, plays, same_record}
use Rattle.figures.specs.BenchSheet.{write_feed, write_other, read_next, write_two, read_three}
use Rattle.figures.specs.Examples.{read_two, find_two, past_end, read_as, across_tags, bench_across}

-- datagrams in turn from a fresh record over EE everywhere, and after the last one the first four words of each place
-- of the stored answers and of the kept requests, and of the output
pub record LeftLine : Type 0 where
  pub datagrams : List (List ℕ)
  pub stored : List ℕ
  pub kept : List ℕ
  pub output : List ℕ

abbrev pub leaves : List (List ℕ) → List ℕ → List ℕ → List ℕ → LeftLine
leaves datagrams stored kept output =
    record { datagrams = datagrams; stored = stored; kept = kept; output = output }

-- the first n of each of some parts of this size
unfoldable pub fronts : ℕ → ℕ → ℕ → List ℕ → List ℕ
fronts zero n size l = []
fronts (suc parts) n size l = take n l ++ fronts parts n size (drop size l)

-- a word that no call has written
abbrev pub was : ℕ
was = 0xEEEEEEEE

-- stored answers and kept requests longer than they have to be: the places stand where they do in the least
unfoldable pub left_start : After
left_start =
    left (refusal 0) 0 (lent bench_memory (replicate 8980 was) (replicate 35900 0xEE) fresh_record) (replicate 8972 0xEE)

unfoldable pub right_left : LeftLine → Bool
right_left l =
    let a = plays left_start l.datagrams in
    same (fronts 4 4 2243 a.controller.stored) l.stored
    && same (fronts 4 16 8972 a.controller.kept) (bytes_of l.kept)
    && same (take 16 a.output) (bytes_of l.output)

unfoldable pub every_left : List LeftLine → Bool
every_left [] = true
every_left (l ∷ ls) = right_left l && every_left ls

-- places that no call has written
abbrev pub bare : ℕ → List ℕ
bare places = replicate (4 * places) was

-- (a) at its place, its answer and its request
abbrev pub fed_stored : List ℕ
fed_stored = 0x80000030 ∷ was ∷ was ∷ was ∷ bare 3

abbrev pub fed_kept : List ℕ
fed_kept = 0x80010F10 ∷ 0x00000004 ∷ 0xFEEDC0DE ∷ was ∷ bare 3

-- a fifth message of one word, whose answer has one word
abbrev pub nop_fifth : List ℕ
nop_fifth = 0x80000004 ∷ []

-- "later output bytes, and words of the stored answer past its new length, keep what they held"; so do bytes of the
-- kept request past its own, and [9] the other places
unfoldable pub left_lines : List LeftLine
left_lines =
    -- an answer of three words, and one of one word after it, each at its place
    leaves (read_two ∷ []) (0x80020030 ∷ 0 ∷ 0xF00DFACE ∷ was ∷ bare 3) (0x80020020 ∷ 0x0000000C ∷ was ∷ was ∷ bare 3)
    (0x80020030 ∷ 0 ∷ 0xF00DFACE ∷ was ∷ [])
    ∷ leaves (read_two ∷ (0x80010F11 ∷ 0x00000004 ∷ 0x11111111 ∷ []) ∷ [])
    (0x80020030 ∷ 0 ∷ 0xF00DFACE ∷ was ∷ 0x80000031 ∷ was ∷ was ∷ was ∷ bare 2)
    (0x80020020 ∷ 0x0000000C ∷ was ∷ was ∷ 0x80010F11 ∷ 0x00000004 ∷ 0x11111111 ∷ was ∷ bare 2)
    (0x80000031 ∷ 0 ∷ 0xF00DFACE ∷ was ∷ [])
    -- five messages: the fifth, of one word, takes the place of the first, of two, whose answer had three
    ∷ leaves (read_two ∷ read_next ∷ write_two ∷ read_three ∷ nop_fifth ∷ [])
    (0x80000034 ∷ 0 ∷ 0xF00DFACE ∷ was ∷ 0x80010031 ∷ 0xF00DFACE ∷ was ∷ was ∷ 0x80000032 ∷ was ∷ was ∷ was
    ∷ 0x80030033 ∷ 0 ∷ 0x11111111 ∷ 0x22222222 ∷ [])
    (0x80000004 ∷ 0x0000000C ∷ was ∷ was ∷ 0x80010021 ∷ 0x00000010 ∷ was ∷ was
    ∷ 0x8002FF12 ∷ 0x00000008 ∷ 0x11111111 ∷ 0x22222222 ∷ 0x80030023 ∷ 0x00000004 ∷ was ∷ was ∷ [])
    (0x80000034 ∷ 0 ∷ 0x11111111 ∷ 0x22222222 ∷ [])
    -- a discovery's answer is sent and not stored, nor is the discovery kept; then a repeat's, and refusals, 11 and 12,
    -- that leave all three
    ∷ leaves (write_feed ∷ find_two ∷ []) fed_stored fed_kept (0x800200B0 ∷ 0 ∷ 0xF00DFACE ∷ was ∷ [])
    ∷ leaves (write_feed ∷ find_two ∷ write_feed ∷ []) fed_stored fed_kept (0x80000030 ∷ 0 ∷ 0xF00DFACE ∷ was ∷ [])
    ∷ leaves (write_feed ∷ find_two ∷ (0x80010F12 ∷ 0x00000004 ∷ 0x11111111 ∷ []) ∷ []) fed_stored fed_kept
    (0x800200B0 ∷ 0 ∷ 0xF00DFACE ∷ was ∷ [])
    ∷ leaves (write_feed ∷ find_two ∷ write_other ∷ []) fed_stored fed_kept (0x800200B0 ∷ 0 ∷ 0xF00DFACE ∷ was ∷ [])
    -- a message that ends in Error is kept as any other
    ∷ leaves (past_end 0x20 ∷ []) (0x80000230 ∷ was ∷ was ∷ was ∷ bare 3) (0x80020020 ∷ 0x00000020 ∷ was ∷ was ∷ bare 3)
    (0x80000230 ∷ was ∷ was ∷ was ∷ [])
    ∷ []

abbrev pub LeftHolds : Type 0
LeftHolds = every_left left_lines ≡ true

-- what the four messages leave that `bench_across` has in figures, behind tag 13: the stored answers and the kept
-- requests, whole
unfoldable pub across_played : After
across_played =
    plays (bench_one 13 1 1)
    ((0x8000000E ∷ []) ∷ (0x8002002F ∷ 0x0000000C ∷ []) ∷ (0x80010020 ∷ 0x00000010 ∷ [])
    ∷ (0x80010F11 ∷ 0x00000004 ∷ 0x11111111 ∷ []) ∷ [])

abbrev pub AcrossShown : Type 0
AcrossShown =
    (same across_played.controller.stored bench_across.controller.stored
    && same across_played.controller.kept bench_across.controller.kept
    && same_record across_played.controller.tags across_tags) ≡ true

-- 1 by lengths, both sides of each: memory of 1 to 16,384 words, stored answers of at least four times 2,243, kept
-- requests of at least four times 8,972 bytes and an output of at least 8,972; and 1 before 2
abbrev pub judges : ℕ → ℕ → ℕ → ℕ → TagRecord → List ℕ → Ruling
judges memory stored kept output tags dg = verdict_by memory stored (replicate kept 0) output tags dg

pub record LentShown : Type 0 where
  pub no_memory : lent_ok 0 8972 ≡ false
  pub least : lent_ok 1 8972 ≡ true
  pub most : lent_ok 16384 8972 ≡ true
  pub over : lent_ok 16385 8972 ≡ false
  pub far_over : lent_ok 65536 8972 ≡ false
  pub short : lent_ok 8 8971 ≡ false
  pub longer : lent_ok 8 8973 ≡ true
  pub fine : judges 16384 8972 35888 8972 fresh_record (bytes_of write_feed) ≡ Ok New
  pub two : judges 16384 8972 35888 8972 fresh_record [] ≡ Err (refusal 2)
  pub memory : judges 16385 8972 35888 8972 fresh_record [] ≡ Err (refusal 1)
  pub stored : judges 16384 8971 35888 8972 fresh_record [] ≡ Err (refusal 1)
  pub kept : judges 16384 8972 35887 8972 fresh_record [] ≡ Err (refusal 1)
  pub output : judges 16384 8972 35888 8971 fresh_record [] ≡ Err (refusal 1)
  pub all : judges 0 0 0 0 (holding_one 16 0 0) [] ≡ Err (refusal 1)

-- (a) under the stored tag, where (a) and then zeros are kept and the record says so many words of it: its own length,
-- a word less, which (a) starts like, and a word more
abbrev pub held_words : ℕ → Ruling
held_words request =
    verdict_by 16384 8972 (bytes_of write_feed ++ replicate 35876 0) 8972 (holding_one 0 1 request) (bytes_of write_feed)

pub record LengthsShown : Type 0 where
  pub own : held_words 3 ≡ Ok (Repeat 0)
  pub shorter : held_words 2 ≡ Err (refusal 12)
  pub longer : held_words 4 ≡ Err (refusal 12)

-- [9] the read of this tag, where tags 14, 15, 0 and 1 are held and its bytes stand at this place of the kept requests,
-- with zeros around them, in a buffer that is longer than it has to be
abbrev pub held_at : ℕ → ℕ → Ruling
held_at tag place =
    verdict_by 16384 8972 (replicate (8972 * place) 0 ++ (bytes_of (read_as tag) ++ replicate (35892 - 8972 * place) 0))
    8972 (holding 4 1 (all 1) (all 2)) (bytes_of (read_as tag))

pub record PlacesShown : Type 0 where
  pub own : held_at 15 3 ≡ Ok (Repeat 15)
  pub before : held_at 15 2 ≡ Err (refusal 12)
  pub newest : held_at 15 1 ≡ Err (refusal 12)
  pub first : held_at 15 0 ≡ Err (refusal 12)
