-- The forms for C in figures. `proofs/Laws/Benched.antt` computes them. Assumes nothing.
use Rattle.std.specs.Prelude.{ℕ, ◌≡◌, List, [], ◌∷◌, replicate}
use Rattle.word.specs.Words.{bytes_of}
use Rattle.header.specs.Refusal.{refusal}
use Rattle.initiator.specs.declared.sender.Sender.{Sender}
use Rattle.initiator.specs.Examples.{write_a, three_reads, all_read, second_failed}
use Rattle.initiator.specs.BenchSheet.{idle, waiting, all_marked, ok_as}
use Rattle.table.specs.Calls.{beginning}
use Rattle.loader.specs.declared.training.TableAttempt.{TableAttempt}
use Rattle.loader.specs.declared.training.TableMade.{TableMade}
use Rattle.loader.specs.declared.training.TableTaken.{TableTaken}
use Rattle.loader.specs.Outcome.{status_number, data_part}
use Rattle.loader.specs.Sending.{sending_of}
use Rattle.loader.specs.Training.{numbers_of, table_made_of, table_taken_of}

-- "0 OK, 1 Timeout, 2 Error", 3 where none was answered; where read data stand; how many bytes go out
pub record FormsShown : Type 0 where
  pub ok : status_number three_reads second_failed 0 ≡ 0
  pub timeout : status_number three_reads (bytes_of (0x80000132 ∷ [])) 0 ≡ 1
  pub error : status_number three_reads second_failed 1 ≡ 2
  pub absent : status_number three_reads second_failed 2 ≡ 3
  pub refused : status_number three_reads [] 0 ≡ 3
  pub part : data_part three_reads all_read 1 ≡ record { start = 12; length = 8 }
  pub none : data_part three_reads second_failed 1 ≡ record { start = 0; length = 0 }
  pub sends : sending_of (waiting 0) write_a ≡ record { refusal = refusal 0; length = 12 }
  pub stops : sending_of (idle 0) write_a ≡ record { refusal = refusal 30; length = 0 }

-- an attempt by its numbers; a refused message, and a refused or accepted answer
abbrev pub numbers : Sender → ℕ → ℕ → TableAttempt
numbers sender stage row = record { sender = sender; stage = stage; row = row }

abbrev pub not_made : ℕ → TableAttempt → TableMade
not_made number a = record { refusal = number; length = 0; attempt = a }

abbrev pub took : ℕ → TableAttempt → TableTaken
took number a = record { refusal = refusal number; attempt = a }

-- the clearing of a table at 40 (hexadecimal), tag 5
abbrev pub clear : List ℕ
clear = bytes_of (0x80010F15 ∷ 0x00000340 ∷ 0x00000000 ∷ [])

-- what an OK answer to it makes of an attempt of these numbers
abbrev pub onward : ℕ → ℕ → TableTaken
onward stage row = table_taken_of (numbers (waiting 5) stage row) clear (ok_as 5) []

-- 0 to 3 the message to be sent, 4 done, 5 and every other number ended, with the row's number, "(25 for the mark)"; a
-- refused call gives back what came, also what is not looked at
pub record TableShown : Type 0 where
  pub begins : numbers_of (beginning (idle 5)) ≡ numbers (idle 5) 0 0
  pub cleared : onward 0 9 ≡ took 0 (numbers (idle 6) 1 0)
  pub not_written : onward 1 0 ≡ took 0 (numbers (idle 6) 5 2)
  pub not-read : onward 2 0 ≡ took 0 (numbers (idle 6) 5 1)
  pub marked : onward 3 0 ≡ took 0 (numbers (idle 6) 4 0)
  pub done : onward 4 9 ≡ took 0 (numbers (idle 6) 4 0)
  pub ended : onward 5 7 ≡ took 0 (numbers (idle 6) 5 7)
  pub other : onward 200 7 ≡ took 0 (numbers (idle 6) 5 7)
  pub not-cleared :
      table_taken_of (numbers (waiting 5) 0 0) clear (bytes_of (0x80000235 ∷ [])) [] ≡ took 0 (numbers (idle 6) 5 25)
  pub refused :
      table_taken_of (numbers (all_marked 5 1) 200 7) clear [] [] ≡ took 32 (numbers (all_marked 5 1) 200 7)
  pub makes :
      table_made_of (numbers (all_marked 5 0) 3 9) 0x40 193 [] (replicate 8972 0)
      ≡ record { refusal = 0; length = 12; attempt = numbers (waiting 5) 3 0 }
  pub short : table_made_of (numbers (all_marked 5 0) 3 9) 0x40 193 [] [] ≡ not_made 21 (numbers (all_marked 5 0) 3 9)
  pub over : table_made_of (numbers (all_marked 5 0) 6 9) 0x40 193 [] [] ≡ not_made 30 (numbers (all_marked 5 0) 6 9)
  pub set-up : table_made_of (numbers (all_marked 5 0) 6 9) 0x40 192 [] [] ≡ not_made 40 (numbers (all_marked 5 0) 6 9)
