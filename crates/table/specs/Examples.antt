-- What outcomes lead to, in figures. `proofs/Laws/Benched.antt` computes it. Assumes nothing.
use Rattle.std.specs.Prelude.{ℕ, zero, suc, ◌+◌, ◌*◌, cond, List, [], ◌∷◌, eqb, ltb}
use Rattle.answer.specs.declared.Status.{Status}
use Rattle.answer.specs.declared.Status.TheVariants.{Ok, Timeout, Error}
use Rattle.std.specs.Prelude.{Option, Some, None}
use Rattle.initiator.specs.Examples.{Line}
use Rattle.initiator.specs.BenchSheet.{idle}
use Rattle.layout.specs.declared.Stage.TheVariants.{Clear, Rows, Back, Mark}
use Rattle.table.specs.declared.attempt.Next.{Next}
use Rattle.table.specs.declared.attempt.Next.TheVariants.{Send, Done}
use Rattle.table.specs.declared.attempt.Next.TheVariants as next
use Rattle.table.specs.Attempt.{Told}
use Rattle.table.specs.Calls.{beginning}
use Rattle.table.specs.Promises.{came_to}

-- n numbers from this one on; the caller's words are 1 to 168
unfoldable pub counted : ℕ → ℕ → List ℕ
counted i zero = []
counted i (suc n) = i ∷ counted (suc i) n

abbrev pub rows : List ℕ
rows = counted 1 168

-- an outcome of OK commands; the one of the rows as sent: number 1 and 1 to 7, number 2 and 8 to 14, and so on
abbrev pub ok : Told
ok = record { ending = λ k. Some Ok; words = λ k. [] }

abbrev pub sent : Told
sent = record { ending = λ k. Some Ok; words = λ k. (k + 1) ∷ counted (7 * k + 1) 7 }

-- the same, but that the command of this row ended so; that an answer ended with it; that these words came back
abbrev pub ends : ℕ → Option Status → Told → Told
ends row ending told =
    record { ending = λ k. cond (eqb (k + 1) row) ending (told.ending k); words = told.words }

abbrev pub stops : ℕ → Status → Told → Told
stops row status told =
    record {
      ending = λ k. cond (ltb (k + 1) row) (told.ending k) (cond (eqb (k + 1) row) (Some status) None);
      words = told.words;
    }

abbrev pub differs : ℕ → List ℕ → Told → Told
differs row words told =
    record { ending = told.ending; words = λ k. cond (eqb (k + 1) row) words (told.words k) }

-- what these outcomes lead to
abbrev pub comes : List Told → Next → Line Next
comes outcomes next = record { given = came_to rows (beginning (idle 0)).next outcomes; is = next }

-- a failed clearing, or a failed mark; a failed write; a failed read
abbrev pub clearing : Option Status → ℕ → Line Next
clearing ending number = comes (ends 1 ending ok ∷ []) (next.Ended number)

abbrev pub writing : Told → ℕ → Line Next
writing told number = comes (ok ∷ told ∷ []) (next.Ended number)

abbrev pub reading : Told → ℕ → Line Next
reading told number = comes (ok ∷ ok ∷ told ∷ []) (next.Ended number)

abbrev pub marking : Option Status → ℕ → Line Next
marking ending number = comes (ok ∷ ok ∷ sent ∷ ends 1 ending ok ∷ []) (next.Ended number)

unfoldable pub attempts : List (Line Next)
attempts =
    -- all OK, and whatever comes then
    comes [] (Send Clear)
    ∷ comes (ok ∷ []) (Send Rows)
    ∷ comes (ok ∷ ok ∷ []) (Send Back)
    ∷ comes (ok ∷ ok ∷ sent ∷ []) (Send Mark)
    ∷ comes (ok ∷ ok ∷ sent ∷ ok ∷ []) Done
    ∷ comes (ok ∷ ok ∷ sent ∷ ok ∷ ends 1 (Some Error) ok ∷ []) Done
    -- "(25 for the mark)": clearing it and setting it
    ∷ clearing (Some Error) 25
    ∷ clearing (Some Timeout) 25
    ∷ clearing None 25
    ∷ marking (Some Error) 25
    ∷ marking (Some Timeout) 25
    ∷ marking None 25
    -- "A failed command": the write of the first row, of the last, and what is absent behind an Error
    ∷ writing (ends 1 (Some Error) ok) 1
    ∷ writing (ends 1 (Some Timeout) ok) 1
    ∷ writing (ends 24 (Some Error) ok) 24
    ∷ writing (ends 24 (Some Timeout) ok) 24
    ∷ writing (ends 24 None ok) 24
    ∷ writing (stops 5 Error ok) 5
    ∷ writing (stops 0 Error ok) 1
    -- of two the lower
    ∷ writing (ends 9 (Some Error) (ends 5 (Some Timeout) ok)) 5
    ∷ writing (ends 2 (Some Timeout) (ends 24 (Some Error) ok)) 2
    -- the read of a row, also one whose words are as sent
    ∷ reading (ends 1 (Some Error) sent) 1
    ∷ reading (ends 24 (Some Timeout) sent) 24
    ∷ reading (stops 12 Error sent) 12
    -- "a row that differs": in its last word, in its number, in its first word; seven words, nine, none
    ∷ reading (differs 7 (7 ∷ 43 ∷ 44 ∷ 45 ∷ 46 ∷ 47 ∷ 48 ∷ 50 ∷ []) sent) 7
    ∷ reading (differs 7 (8 ∷ 43 ∷ 44 ∷ 45 ∷ 46 ∷ 47 ∷ 48 ∷ 49 ∷ []) sent) 7
    ∷ reading (differs 7 (7 ∷ 0 ∷ 44 ∷ 45 ∷ 46 ∷ 47 ∷ 48 ∷ 49 ∷ []) sent) 7
    ∷ reading (differs 7 (7 ∷ 43 ∷ 44 ∷ 45 ∷ 46 ∷ 47 ∷ 48 ∷ []) sent) 7
    ∷ reading (differs 7 (7 ∷ 43 ∷ 44 ∷ 45 ∷ 46 ∷ 47 ∷ 48 ∷ 49 ∷ 50 ∷ []) sent) 7
    ∷ reading (differs 7 [] sent) 7
    ∷ comes (ok ∷ ok ∷ differs 7 (7 ∷ 43 ∷ 44 ∷ 45 ∷ 46 ∷ 47 ∷ 48 ∷ 49 ∷ []) sent ∷ []) (Send Mark)
    ∷ reading (differs 1 (1 ∷ 1 ∷ 2 ∷ 3 ∷ 4 ∷ 5 ∷ 6 ∷ 8 ∷ []) sent) 1
    ∷ reading (differs 24 (24 ∷ 162 ∷ 163 ∷ 164 ∷ 165 ∷ 166 ∷ 167 ∷ 169 ∷ []) sent) 24
    -- the lower of one that differs and one that failed, and of one that failed and one that differs
    ∷ reading (differs 3 [] (ends 4 (Some Error) sent)) 3
    ∷ reading (ends 3 (Some Error) (differs 4 [] sent)) 3
    -- and it stays so
    ∷ comes (ends 1 None ok ∷ ok ∷ sent ∷ ok ∷ []) (next.Ended 25)
    ∷ comes (ok ∷ ends 24 None ok ∷ sent ∷ ok ∷ []) (next.Ended 24)
    ∷ []
