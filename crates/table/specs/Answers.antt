-- Answers taken, in figures, from bytes. `proofs/Laws/Benched.antt` computes them. Assumes nothing.
use Rattle.std.specs.Prelude.{ℕ, zero, suc, ◌+◌, ◌*◌, List, [], ◌∷◌, ◌++◌, replicate}
use Rattle.word.specs.Words.{bytes_of}
use Rattle.header.specs.Refusal.{refusal}
use Rattle.message.specs.Request.{All}
use Rattle.initiator.specs.declared.sender.Sender.{Sender}
use Rattle.initiator.specs.Examples.{Line, Right}
use Rattle.initiator.specs.BenchSheet.{idle, waiting}
use Rattle.layout.specs.declared.Stage.TheVariants.{Clear, Rows, Back, Mark}
use Rattle.table.specs.declared.attempt.Next.{Next}
use Rattle.table.specs.declared.attempt.Next.TheVariants.{Send, Done, Ended}
use Rattle.table.specs.Calls.{Taken}
use Rattle.table.specs.Calls.{attempt_at, beginning, taken_of}
use Rattle.table.specs.Examples.{counted, rows, attempts}
use Rattle.table.specs.Messages.{clear, mark, all_writes, all_reads, beginnings, messages, faults}

-- refused, the attempt is as it was; accepted, this is it then
abbrev pub refused : Sender → Next → List ℕ → List ℕ → ℕ → Line Taken
refused sender next message answer number =
    record {
      given = taken_of (attempt_at sender next) (bytes_of message) answer rows;
      is = record { refusal = refusal number; attempt = attempt_at sender next };
    }

abbrev pub taken : ℕ → Next → List ℕ → List ℕ → ℕ → Next → Line Taken
taken tag next message answer after then =
    record {
      given = taken_of (attempt_at (waiting tag) next) (bytes_of message) (bytes_of answer) rows;
      is = record { refusal = refusal 0; attempt = attempt_at (idle after) then };
    }

-- the answers of n rows that came back as sent, from this one on
unfoldable pub back_from : ℕ → ℕ → List ℕ
back_from i zero = []
back_from i (suc n) = 0x00080032 ∷ (i + 1) ∷ counted (7 * i + 1) 7 ++ back_from (suc i) n

unfoldable pub takes : List (Line Taken)
takes =
    -- the clearing: OK, Error, Timeout
    taken 0 (Send Clear) (clear 0x80010F10 0x300) (0x80000030 ∷ []) 1 (Send Rows)
    ∷ taken 0 (Send Clear) (clear 0x80010F10 0x300) (0x80000230 ∷ []) 1 (Ended 25)
    ∷ taken 0 (Send Clear) (clear 0x80010F10 0x300) (0x80000130 ∷ []) 1 (Ended 25)
    -- the mark
    ∷ taken 15 (Send Mark) (mark 0x80010F1F 0x300) (0x8000003F ∷ []) 0 Done
    ∷ taken 15 (Send Mark) (mark 0x80010F1F 0x300) (0x8000023F ∷ []) 0 (Ended 25)
    -- an attempt that is done or has ended stays so
    ∷ taken 15 Done (mark 0x80010F1F 0x300) (0x8000023F ∷ []) 0 Done
    ∷ taken 15 (Ended 7) (mark 0x80010F1F 0x300) (0x8000003F ∷ []) 0 (Ended 7)
    -- an answer with another tag, and each other refusal of the sender: the attempt stays
    ∷ refused (waiting 0) (Send Clear) (clear 0x80010F10 0x300) (bytes_of (0x80000031 ∷ [])) 33
    ∷ refused (waiting 0) (Send Clear) (clear 0x80010F10 0x300) (bytes_of (0x80000231 ∷ [])) 33
    ∷ refused (waiting 16) (Send Clear) (clear 0x80010F10 0x300) (bytes_of (0x80000030 ∷ [])) 37
    ∷ refused (idle 0) (Send Clear) (clear 0x80010F10 0x300) (bytes_of (0x80000030 ∷ [])) 30
    ∷ refused (waiting 1) (Send Clear) (clear 0x80010F10 0x300) (bytes_of (0x80000030 ∷ [])) 31
    ∷ refused (waiting 0) (Send Clear) (clear 0x80010F10 0x300) (0x30 ∷ 0x00 ∷ 0x00 ∷ []) 32
    ∷ refused (waiting 0) (Send Clear) (clear 0x80010F10 0x300) (bytes_of (0x80000330 ∷ [])) 34
    ∷ refused (waiting 0) (Send Clear) (clear 0x80010F10 0x300) (bytes_of (0x00000030 ∷ [])) 35
    -- an attempt begun where one waits: 37, so that its answer is not taken for the clearing's
    ∷ record {
      given =
          taken_of (beginning (waiting 0)) (bytes_of (clear 0x80010F10 0x300)) (bytes_of (0x80000030 ∷ [])) rows;
      is = record { refusal = refusal 37; attempt = attempt_at (idle 16) (Send Clear) };
    }
    -- the rows written: all; not the second
    ∷ taken 1 (Send Rows) all_writes (replicate 23 0x00000031 ++ 0x80000031 ∷ []) 2 (Send Back)
    ∷ taken 1 (Send Rows) all_writes (0x00000031 ∷ 0x80000231 ∷ []) 2 (Ended 2)
    -- and read: all as sent; the last word of the last row is another
    ∷ taken 2 (Send Back) all_reads (back_from 0 23 ++ 0x80080032 ∷ 24 ∷ counted 162 7) 3 (Send Mark)
    ∷ taken 2 (Send Back) all_reads (back_from 0 23 ++ 0x80080032 ∷ 24 ∷ counted 162 6 ++ 0 ∷ []) 3 (Ended 24)
    ∷ []

-- every line holds
pub record BenchHolds : Type 0 where
  pub attempts : All Right attempts
  pub beginnings : All Right beginnings
  pub messages : All Right messages
  pub faults : All Right faults
  pub takes : All Right takes
