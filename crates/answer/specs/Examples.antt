-- Worked and hostile answers, from bytes, with the refusal that each must get or what each means.
-- `proofs/Laws/Worked.antt` computes them. Assumes nothing.
use Rattle.std.specs.Prelude.{ℕ, ◌≡◌, Bool, List, [], ◌∷◌, replicate}
use Rattle.word.specs.Words.{bytes_of}
use Rattle.header.specs.declared.refusal.Refusal.{Refusal}
use Rattle.header.specs.Refusal.{refused_at, refusal}
use Rattle.message.specs.Request.{Request, Reading, Refused, Means, refusal_in}
use Rattle.message.specs.Walk.{read}
use Rattle.message.specs.Examples.{same_refusal}
use Rattle.answer.specs.declared.Status.{Status}
use Rattle.answer.specs.declared.Status.TheVariants.{Ok, Timeout, Error}
use Rattle.answer.specs.Answer.{Answered, head_fault, judge}

-- an answer to a request, and the refusal that it gets: at word 0, or at a later one
pub record AnswerExample : Type 0 where
  pub request : List ℕ
  pub answer : List ℕ
  pub given : Refusal

abbrev pub reply : List ℕ → List ℕ → ℕ → AnswerExample
reply ws vs n = record { request = bytes_of ws; answer = bytes_of vs; given = refusal n }

abbrev pub reply_at : List ℕ → List ℕ → ℕ → ℕ → AnswerExample
reply_at ws vs n at = record { request = bytes_of ws; answer = bytes_of vs; given = refused_at n at }

abbrev pub reply_bytes : List ℕ → List ℕ → ℕ → AnswerExample
reply_bytes ws bs n = record { request = bytes_of ws; answer = bs; given = refusal n }

-- a read of one word, a write of one word, two writes, and two reads
abbrev pub one_read : List ℕ
one_read = 0x80010023 ∷ 0x00000010 ∷ []

abbrev pub one_write : List ℕ
one_write = 0x80010F13 ∷ 0x00000004 ∷ 0xFEEDC0DE ∷ []

abbrev pub two_writes : List ℕ
two_writes = 0x00010F13 ∷ 0x00000000 ∷ 0x11111111 ∷ 0x80010F13 ∷ 0x00000004 ∷ 0x22222222 ∷ []

abbrev pub two_reads : List ℕ
two_reads = 0x00010023 ∷ 0x00000010 ∷ 0x80010023 ∷ 0x00000014 ∷ []

-- a write with a 64-bit address, a NOP of two words, and one of none
abbrev pub wide_write : List ℕ
wide_write = 0x80010F53 ∷ 0x00000004 ∷ 0x00000001 ∷ 0xFEEDC0DE ∷ []

abbrev pub two_nop_words : List ℕ
two_nop_words = 0x80020003 ∷ 0x00000001 ∷ 0x00000002 ∷ []

abbrev pub no_nop_words : List ℕ
no_nop_words = 0x80000003 ∷ []

unfoldable pub answers : List AnswerExample
answers =
    -- OK, Timeout and Error, each with LAST where it belongs
    reply one_read (0x80010033 ∷ 0xF00DFACE ∷ []) 0
    ∷ reply one_read (0x80000133 ∷ []) 0
    ∷ reply one_read (0x80000233 ∷ []) 0
    ∷ reply one_write (0x80000033 ∷ []) 0
    ∷ reply one_write (0x80000133 ∷ []) 0
    ∷ reply wide_write (0x80000073 ∷ []) 0
    ∷ reply no_nop_words (0x80000033 ∷ []) 0
    ∷ reply two_nop_words (0x80020033 ∷ 0x0000230C ∷ 0x00000000 ∷ []) 0
    ∷ reply two_nop_words (0x80000233 ∷ []) 0
    ∷ reply two_writes (0x00000033 ∷ 0x80000033 ∷ []) 0
    ∷ reply two_writes (0x80000233 ∷ []) 0
    ∷ reply two_writes (0x80000133 ∷ []) 0
    ∷ reply two_writes (0x00000033 ∷ 0x80000233 ∷ []) 0
    -- no bytes, three, five; with another tag as well 32 comes first
    ∷ reply one_read [] 32
    ∷ reply_bytes one_write (0x33 ∷ 0x00 ∷ 0x00 ∷ []) 32
    ∷ reply_bytes one_write (0x33 ∷ 0x00 ∷ 0x00 ∷ 0x80 ∷ 0x00 ∷ []) 32
    ∷ reply_bytes one_write (0x32 ∷ 0x00 ∷ 0x00 ∷ []) 32
    -- another tag, discovery, width; a request in its place, and its byte 0 of each kind but 3; with a reserved bit or
    -- LAST missing as well 33 comes first
    ∷ reply one_read (0x80010032 ∷ 0xF00DFACE ∷ []) 33
    ∷ reply one_read (0x800100B3 ∷ 0xF00DFACE ∷ []) 33
    ∷ reply one_read (0x80010073 ∷ 0xF00DFACE ∷ []) 33
    ∷ reply one_read one_read 33
    ∷ reply one_write (0x80000003 ∷ []) 33
    ∷ reply one_write (0x80000013 ∷ []) 33
    ∷ reply one_write (0x80000023 ∷ []) 33
    ∷ reply one_write (0x90000032 ∷ []) 33
    ∷ reply one_write (0x00000032 ∷ []) 33
    -- a later byte 0: another tag, kind, width, discovery
    ∷ reply_at two_writes (0x00000033 ∷ 0x80000032 ∷ []) 34 1
    ∷ reply_at two_writes (0x00000033 ∷ 0x80000013 ∷ []) 34 1
    ∷ reply_at two_writes (0x00000033 ∷ 0x80000073 ∷ []) 34 1
    ∷ reply_at two_writes (0x00000033 ∷ 0x800000B3 ∷ []) 34 1
    -- each reserved bit; each of bits 15:12; status 3, 4, 8 and 15
    ∷ reply one_write (0x90000033 ∷ []) 34
    ∷ reply one_write (0xA0000033 ∷ []) 34
    ∷ reply one_write (0xC0000033 ∷ []) 34
    ∷ reply one_write (0x80001033 ∷ []) 34
    ∷ reply one_write (0x80002033 ∷ []) 34
    ∷ reply one_write (0x80004033 ∷ []) 34
    ∷ reply one_write (0x80008033 ∷ []) 34
    ∷ reply one_write (0x80000333 ∷ []) 34
    ∷ reply one_write (0x80000433 ∷ []) 34
    ∷ reply one_write (0x80000833 ∷ []) 34
    ∷ reply one_write (0x80000F33 ∷ []) 34
    -- counts: a read's 0 and 2, a write's 1, a NOP's 0, 1 and 3; with data and a nonzero status
    ∷ reply one_read (0x80000033 ∷ []) 34
    ∷ reply one_read (0x80020033 ∷ 0xF00DFACE ∷ 0xF00DFACE ∷ []) 34
    ∷ reply one_write (0x80010033 ∷ 0x00000000 ∷ []) 34
    ∷ reply two_nop_words (0x80000033 ∷ []) 34
    ∷ reply two_nop_words (0x80010033 ∷ 0x0000230C ∷ []) 34
    ∷ reply two_nop_words (0x80030033 ∷ 0x0000230C ∷ 0x00000000 ∷ 0x00000000 ∷ []) 34
    ∷ reply one_read (0x80010133 ∷ 0xF00DFACE ∷ []) 34
    ∷ reply one_read (0x80010233 ∷ 0xF00DFACE ∷ []) 34
    ∷ reply two_nop_words (0x80020133 ∷ 0x0000230C ∷ 0x00000000 ∷ []) 34
    ∷ reply one_write (0x80010233 ∷ 0x00000000 ∷ []) 34
    -- 34 before 35: each of its causes with LAST missing, the body past the end, or words after it
    ∷ reply_at two_writes (0x00000033 ∷ 0x00000032 ∷ []) 34 1
    ∷ reply one_write (0x10000033 ∷ []) 34
    ∷ reply one_write (0x90000033 ∷ 0x00000000 ∷ []) 34
    ∷ reply one_write (0x00001033 ∷ []) 34
    ∷ reply one_write (0x00000333 ∷ []) 34
    ∷ reply one_read (0x80020033 ∷ 0xF00DFACE ∷ []) 34
    ∷ reply one_read (0x80010233 ∷ []) 34
    -- a body past the end; no word there; LAST missing, early, on no Error, on no Timeout; words after it
    ∷ reply one_read (0x80010033 ∷ []) 35
    ∷ reply two_nop_words (0x80020033 ∷ 0x0000230C ∷ []) 35
    ∷ reply_at two_writes (0x00000033 ∷ []) 35 1
    ∷ reply one_write (0x00000033 ∷ []) 35
    ∷ reply one_write (0x00000233 ∷ []) 35
    ∷ reply one_write (0x00000133 ∷ []) 35
    ∷ reply two_writes (0x80000033 ∷ []) 35
    ∷ reply two_writes (0x80000033 ∷ 0x80000033 ∷ []) 35
    ∷ reply two_writes (0x00000233 ∷ 0x80000033 ∷ []) 35
    ∷ reply two_writes (0x00000133 ∷ 0x80000033 ∷ []) 35
    ∷ reply one_write (0x80000033 ∷ 0x00000000 ∷ []) 35
    ∷ reply two_writes (0x80000233 ∷ 0x80000033 ∷ []) 35
    -- at a later header: status 3; no word there; a body past the end; LAST missing; words after it
    ∷ reply_at two_reads (0x00010033 ∷ 0xF00DFACE ∷ 0x80010333 ∷ 0xF00DFACE ∷ []) 34 2
    ∷ reply_at two_reads (0x00010033 ∷ 0xF00DFACE ∷ []) 35 2
    ∷ reply_at two_reads (0x00010033 ∷ 0xF00DFACE ∷ 0x80010033 ∷ []) 35 2
    ∷ reply_at two_reads (0x00010033 ∷ 0xF00DFACE ∷ 0x00010033 ∷ 0xF00DFACE ∷ []) 35 2
    ∷ reply_at two_reads (0x00010033 ∷ 0xF00DFACE ∷ 0x80010033 ∷ 0xF00DFACE ∷ 0x00000000 ∷ []) 35 2
    ∷ []

abbrev pub judged_as : Reading Request → List ℕ → Reading (List Answered)
judged_as (Refused r) dg = Refused (refused_at 31 r.at)
judged_as (Means r) dg = judge r dg

abbrev pub judged : List ℕ → List ℕ → Reading (List Answered)
judged request answer = judged_as (read request) answer

abbrev pub right_answer : AnswerExample → Bool
right_answer e = same_refusal (refusal_in (judged e.request e.answer)) e.given

-- what a command was answered
abbrev pub was : Status → List ℕ → Answered
was status payload = record { status = status; payload = payload }

-- "0 OK, 1 Timeout, 2 Error", and the data words of each
abbrev pub MeaningsShown : Type 0
MeaningsShown =
    (judged (bytes_of one_read) (bytes_of (0x80010033 ∷ 0xF00DFACE ∷ [])) ≡ Means (was Ok (0xF00DFACE ∷ []) ∷ []))
    × (judged (bytes_of one_read) (bytes_of (0x80000133 ∷ [])) ≡ Means (was Timeout [] ∷ []))
    × (judged (bytes_of two_reads) (bytes_of (0x00010033 ∷ 0xF00DFACE ∷ 0x80000233 ∷ []))
    ≡ Means (was Ok (0xF00DFACE ∷ []) ∷ was Error [] ∷ []))
    × (judged (bytes_of two_nop_words) (bytes_of (0x80020033 ∷ 0x0000230C ∷ 0x00000013 ∷ []))
    ≡ Means (was Ok (0x0000230C ∷ 0x00000013 ∷ []) ∷ []))

-- 32 in figures [6]: an answer of 8,972 bytes is let by, one of a word more is not, whatever its byte 0
abbrev pub LengthShown : Type 0
LengthShown =
    (head_fault 0x23 (replicate 8972 0x33) ≡ refusal 0) × (head_fault 0x23 (replicate 8976 0x33) ≡ refusal 32)
    × (head_fault 0x23 (replicate 8976 0x32) ≡ refusal 32)
    × (head_fault 0x23 (replicate 8972 0x32) ≡ refusal 33)
