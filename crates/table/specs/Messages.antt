-- What an attempt begins with; which message is made, byte for byte, and which is refused, with which number.
-- `proofs/Laws/Benched.antt` computes it. Assumes nothing.
use Rattle.std.specs.Prelude.{ℕ, zero, suc, ◌+◌, ◌-◌, ◌*◌, false, List, [], ◌∷◌, ◌++◌, replicate}
use Rattle.word.specs.Words.{bytes_of}
use Rattle.initiator.specs.declared.sender.Sender.{Sender}
use Rattle.initiator.specs.Examples.{Line}
use Rattle.initiator.specs.BenchSheet.{waits, idle, waiting, all_marked}
use Rattle.layout.specs.declared.Stage.TheVariants.{Clear, Rows, Back, Mark}
use Rattle.table.specs.declared.attempt.Next.{Next}
use Rattle.table.specs.declared.attempt.Next.TheVariants.{Send, Done}
use Rattle.table.specs.declared.attempt.Next.TheVariants as next
use Rattle.table.specs.declared.attempt.Attempt.{Attempt}
use Rattle.table.specs.Calls.{Made}
use Rattle.table.specs.Calls.{attempt_at, beginning, message_fault, refused_with, made_of, made_to}
use Rattle.table.specs.Examples.{counted, rows}

-- an attempt begins with this sender
abbrev pub begun : Sender → Sender → Line Attempt
begun sender is = record { given = beginning sender; is = attempt_at is (Send Clear) }

unfoldable pub beginnings : List (Line Attempt)
beginnings =
    -- none waits, whatever was marked
    begun (idle 5) (idle 5)
    ∷ begun (all_marked 3 0) (all_marked 3 0)
    -- one waits, four do
    ∷ begun (waiting 0) (idle 16)
    ∷ begun (waits 15 4 false false false) (idle 16)
    ∷ []

-- what a message comes to: what the call gives back, and the output, so many bytes of 0 before
pub record Comes : Type 0 where
  pub made : Made
  pub out : List ℕ

abbrev pub called : Attempt → ℕ → ℕ → ℕ → Comes
called a start room long =
    record {
      made = made_of a start room rows (replicate long 0);
      out = made_to a start room rows (replicate long 0);
    }

-- refused: nothing changes
abbrev pub refused : Sender → Next → ℕ → ℕ → ℕ → ℕ → Line Comes
refused sender next start room long number =
    record {
      given = called (attempt_at sender next) start room long;
      is = record { made = refused_with number (attempt_at sender next); out = replicate long 0 };
    }

-- the number alone
abbrev pub faulty : Sender → Next → ℕ → ℕ → ℕ → ℕ → Line ℕ
faulty sender next start room long number =
    record { given = message_fault (attempt_at sender next) start room long; is = number }

-- made in an output of 8,972 bytes: so many bytes, these words, and one waits
abbrev pub made : Sender → Next → ℕ → ℕ → Sender → ℕ → List ℕ → Line Comes
made sender next start room after length words =
    record {
      given = called (attempt_at sender next) start room 8972;
      is =
          record {
            made = record { refusal = 0; length = length; attempt = attempt_at after next };
            out = bytes_of words ++ replicate (8972 - length) 0;
          };
    }

-- the words of the clearing and of the mark, with this header and address
abbrev pub clear : ℕ → ℕ → List ℕ
clear header address = header ∷ address ∷ 0x00000000 ∷ []

abbrev pub mark : ℕ → ℕ → List ℕ
mark header address = header ∷ address ∷ 0x00000018 ∷ []

-- the words of the writes of n rows from row i on, counted from 0, of a table at 0, and those of the reads; of all
-- rows, the last command with LAST
unfoldable pub writes_from : ℕ → ℕ → List ℕ
writes_from i zero = []
writes_from i (suc n) = 0x0008FF11 ∷ 32 * i ∷ (i + 1) ∷ counted (7 * i + 1) 7 ++ writes_from (suc i) n

unfoldable pub reads_from : ℕ → ℕ → List ℕ
reads_from i zero = []
reads_from i (suc n) = 0x00080022 ∷ 32 * i ∷ reads_from (suc i) n

abbrev pub all_writes : List ℕ
all_writes = writes_from 0 23 ++ 0x8008FF11 ∷ 0x000002E0 ∷ 24 ∷ counted 162 7

abbrev pub all_reads : List ℕ
all_reads = reads_from 0 23 ++ 0x80080022 ∷ 0x000002E0 ∷ []

unfoldable pub messages : List (Line Comes)
messages =
    -- the four messages
    made (idle 0) (Send Clear) 0 193 (waiting 0) 12 (clear 0x80010F10 0x00000300)
    ∷ made (idle 1) (Send Rows) 0 193 (waiting 1) 960 all_writes
    ∷ made (idle 2) (Send Back) 0 193 (waiting 2) 192 all_reads
    ∷ made (idle 15) (Send Mark) 4 193 (waiting 15) 12 (mark 0x80010F1F 0x00000304)
    -- the sender's old marks are nothing; a table that ends at 2^32
    ∷ made (all_marked 3 0) (Send Clear) 4294966524 193 (waiting 3) 12 (clear 0x80010F13 0xFFFFFFFC)
    -- refused
    ∷ refused (idle 0) (Send Clear) 0 192 8972 40
    ∷ refused (idle 0) (Send Clear) 0 193 8971 21
    ∷ []

unfoldable pub faults : List (Line ℕ)
faults =
    -- none
    faulty (idle 0) (Send Clear) 0 193 8972 0
    ∷ faulty (idle 15) (Send Mark) 4 193 8973 0
    -- 40: "room for fewer than 193 words, a start not a multiple of 4 or an end past 2^32", which it may reach
    ∷ faulty (idle 0) (Send Clear) 0 192 8972 40
    ∷ faulty (idle 0) (Send Clear) 1 193 8972 40
    ∷ faulty (idle 0) (Send Clear) 2 193 8972 40
    ∷ faulty (idle 0) (Send Clear) 3 193 8972 40
    ∷ faulty (idle 0) (Send Clear) 4294966524 193 8972 0
    ∷ faulty (idle 0) (Send Clear) 4294966524 194 8972 40
    ∷ faulty (idle 0) (Send Clear) 4294966528 193 8972 40
    ∷ faulty (idle 0) (Send Clear) 0 1073741824 8972 0
    ∷ faulty (idle 0) (Send Clear) 0 1073741825 8972 40
    -- 37: a next tag of 16, five that wait; an attempt begun where one waits
    ∷ faulty (idle 16) (Send Clear) 0 193 8972 37
    ∷ faulty (waits 0 5 false false false) (Send Clear) 0 193 8972 37
    ∷ record { given = message_fault (beginning (waiting 0)) 0 193 8972; is = 37 }
    -- 36: one waits, four do
    ∷ faulty (waiting 0) (Send Clear) 0 193 8972 36
    ∷ faulty (waits 15 4 false false false) (Send Rows) 0 193 8972 36
    -- 30: none is left
    ∷ faulty (idle 0) Done 0 193 8972 30
    ∷ faulty (idle 0) (next.Ended 7) 0 193 8972 30
    ∷ faulty (idle 0) (next.Ended 25) 0 193 8972 30
    -- 21
    ∷ faulty (idle 0) (Send Clear) 0 193 8971 21
    ∷ faulty (idle 0) (Send Back) 0 193 0 21
    -- one before another: 40, 37, 36, 30, 21
    ∷ faulty (idle 16) (Send Clear) 0 192 8972 40
    ∷ faulty (waiting 0) (Send Clear) 0 192 8972 40
    ∷ faulty (idle 0) Done 0 192 8972 40
    ∷ faulty (idle 0) (Send Clear) 0 192 8971 40
    ∷ faulty (waiting 16) (Send Clear) 0 193 8972 37
    ∷ faulty (idle 16) Done 0 193 8972 37
    ∷ faulty (idle 16) (Send Clear) 0 193 8971 37
    ∷ faulty (waiting 0) Done 0 193 8972 36
    ∷ faulty (waiting 0) (Send Clear) 0 193 8971 36
    ∷ faulty (idle 0) Done 0 193 8971 30
    ∷ []
