-- Outcomes in figures, from bytes, and the messages that the sender's lines have too. `proofs/Laws/Benched.antt`
-- computes them. Assumes nothing.
use Rattle.std.specs.Prelude.{ℕ, ◌≡◌, List, [], ◌∷◌, get_or, Option, Some, None, Result, Err, Ok as Tells}
use Rattle.word.specs.Words.{bytes_of}
use Rattle.header.specs.Header.{kind_of}
use Rattle.header.specs.declared.refusal.Refusal.{Refusal}
use Rattle.header.specs.Refusal.{refused_at}
use Rattle.message.specs.Walk.{read}
use Rattle.answer.specs.declared.Status.{Status}
use Rattle.answer.specs.declared.Status.TheVariants.{Ok, Timeout, Error}
use Rattle.initiator.specs.declared.outcome.Outcome.{Outcome}
use Rattle.initiator.specs.Outcome.{judged_by, count_in, ending_in, part_in, cut, data_in, outcome_of}

-- a line: what a call gives, and what it must give
pub record Line (A : Type 0) : Type 0 where
  pub given : A
  pub is : A

abbrev pub Right : {A : Type 0} → Line A → Type 0
Right l = l.given ≡ l.is

-- the bench sheet's write (a), with this header; its read of 2 words; and its two writes of tag 0, with this second
-- header
abbrev pub write : ℕ → List ℕ
write h = bytes_of (h ∷ 0x00000004 ∷ 0xFEEDC0DE ∷ [])

abbrev pub write_a : List ℕ
write_a = write 0x80010F10

abbrev pub read_two : List ℕ
read_two = bytes_of (0x80020020 ∷ 0x0000001C ∷ [])

abbrev pub two_writes : ℕ → List ℕ
two_writes h = bytes_of (0x00010F10 ∷ 0x00000000 ∷ 0x11111111 ∷ h ∷ 0x00000020 ∷ 0x22222222 ∷ [])

-- what is told of an answer and of command k: the outcome, how many commands were answered and how this one ended, the
-- bytes of its part, and its data words
pub record Told : Type 0 where
  pub outcome : Result Outcome Refusal
  pub count : ℕ
  pub ending : Option Status
  pub part : List ℕ
  pub words : List ℕ

abbrev pub told : List ℕ → List ℕ → ℕ → Told
told request answer k =
    record {
      outcome = outcome_of request answer k;
      count = count_in (judged_by (read request) answer);
      ending = ending_in k (judged_by (read request) answer);
      part = cut (part_in (kind_of (get_or request 0 0)) k (judged_by (read request) answer)) answer;
      words = data_in (kind_of (get_or request 0 0)) k (judged_by (read request) answer);
    }

-- so many commands were answered, command k ended so, and these are its words, from this byte to that
abbrev pub tells : List ℕ → List ℕ → ℕ → ℕ → Option Status → ℕ → ℕ → List ℕ → Line Told
tells request answer k count ending start end words =
    record {
      given = told request answer k;
      is =
          record {
            outcome = Tells (record { count = count; ending = ending; part = record { start = start; end = end } });
            count = count;
            ending = ending;
            part = bytes_of words;
            words = words;
          };
    }

-- the same of a command with no read data
abbrev pub ends : List ℕ → List ℕ → ℕ → ℕ → Option Status → Line Told
ends request answer k count ending = tells request answer k count ending 0 0 []

-- refused: nothing is told
abbrev pub silent : List ℕ → List ℕ → ℕ → ℕ → Line Told
silent request answer n at =
    record {
      given = told request answer 0;
      is =
          record {
            outcome = Err (refused_at n at);
            count = 0;
            ending = None;
            part = [];
            words = [];
          };
    }

-- reads of 1, 2 and 1 words, all answered OK; the second failed; the first timed out; a NOP of two words
abbrev pub three_reads : List ℕ
three_reads =
    bytes_of (0x00010022 ∷ 0x00000000 ∷ 0x00020022 ∷ 0x00000020 ∷ 0x80010022 ∷ 0x00000004 ∷ [])

abbrev pub all_read : List ℕ
all_read =
    bytes_of
    (0x00010032 ∷ 0x11111111 ∷ 0x00020032 ∷ 0x22222222 ∷ 0x33333333 ∷ 0x80010032 ∷ 0x44444444 ∷ [])

abbrev pub second_failed : List ℕ
second_failed = bytes_of (0x00010032 ∷ 0x11111111 ∷ 0x80000232 ∷ [])

abbrev pub nop_two : List ℕ
nop_two = bytes_of (0x80020000 ∷ 0x00000001 ∷ 0x00000002 ∷ [])

unfoldable pub outcomes : List (Line Told)
outcomes =
    tells three_reads all_read 0 3 (Some Ok) 4 8 (0x11111111 ∷ [])
    ∷ tells three_reads all_read 1 3 (Some Ok) 12 20 (0x22222222 ∷ 0x33333333 ∷ [])
    ∷ tells three_reads all_read 2 3 (Some Ok) 24 28 (0x44444444 ∷ [])
    -- absent: one past the last, and far past it
    ∷ ends three_reads all_read 3 3 None
    ∷ ends three_reads all_read 4294967296 3 None
    -- an Error in the middle: what was read before it stands, what comes after it is absent; a Timeout
    ∷ tells three_reads second_failed 0 2 (Some Ok) 4 8 (0x11111111 ∷ [])
    ∷ ends three_reads second_failed 1 2 (Some Error)
    ∷ ends three_reads second_failed 2 2 None
    ∷ ends three_reads (bytes_of (0x80000132 ∷ [])) 0 1 (Some Timeout)
    ∷ ends three_reads (bytes_of (0x80000132 ∷ [])) 1 1 None
    -- no OK read: a write, two, and a NOP's words; a read of 64 bits, of tag 15
    ∷ ends write_a (bytes_of (0x80000030 ∷ [])) 0 1 (Some Ok)
    ∷ ends (two_writes 0x80010F10) (bytes_of (0x00000030 ∷ 0x80000230 ∷ [])) 0 2 (Some Ok)
    ∷ ends (two_writes 0x80010F10) (bytes_of (0x00000030 ∷ 0x80000230 ∷ [])) 1 2 (Some Error)
    ∷ ends nop_two (bytes_of (0x80020030 ∷ 0x0000230C ∷ 0x00000013 ∷ [])) 0 1 (Some Ok)
    ∷ tells (bytes_of (0x8001006F ∷ 0x00000010 ∷ 0x00000000 ∷ [])) (bytes_of (0x8001007F ∷ 0xF00DFACE ∷ [])) 0 1
    (Some Ok) 4 8 (0xF00DFACE ∷ [])
    -- 31 (its tag clause aside) to 35: no LAST, and no answer; the bench sheet's discovery read; three bytes; another
    -- tag; a second status 3; cut short
    ∷ silent (write 0x00010F10) [] 31 3
    ∷ silent (bytes_of (0x800100A0 ∷ 0x00000010 ∷ [])) (bytes_of (0x800100B0 ∷ 0xF00DFACE ∷ [])) 31 0
    ∷ silent three_reads (0x31 ∷ 0x00 ∷ 0x00 ∷ []) 32 0
    ∷ silent three_reads (bytes_of (0x10010031 ∷ 0x11111111 ∷ [])) 33 0
    ∷ silent three_reads (bytes_of (0x00010032 ∷ 0x11111111 ∷ 0x00000332 ∷ [])) 34 2
    ∷ silent three_reads (bytes_of (0x00010032 ∷ 0x11111111 ∷ [])) 35 2
    ∷ []
