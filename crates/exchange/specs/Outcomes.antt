-- The outcome of a message: as the loader is told it, and as carrying the message out gives it. Assumes nothing.
use Rattle.std.specs.Prelude.{ℕ, zero, suc, List, [], ◌∷◌, get_or, Option, Some}
use Rattle.header.specs.declared.Kind.{Kind}
use Rattle.header.specs.Header.{kind_of}
use Rattle.message.specs.Request.{Reading}
use Rattle.message.specs.Walk.{read, request_of}
use Rattle.answer.specs.declared.Status.{Status}
use Rattle.answer.specs.Answer.{Answered}
use Rattle.carrying.specs.Answers.{answer_to}
use Rattle.initiator.specs.Outcome.{judged_by, count_in, ending_in, data_in, data_of}

-- "its outcome is the status and read data of each answered command"
pub record Result : Type 0 where
  pub ending : Option Status
  pub words : List ℕ

abbrev pub Outcome : Type 0
Outcome = List Result

-- f 0, f 1 and so on, n of them
unfoldable pub each : {A : Type 0} → ℕ → (ℕ → A) → List A
each zero f = []
each (suc n) f = f 0 ∷ each n (λ k. f (suc k))

-- What `ended` and `read_data` tell of command k, p being what the answer is to the message, and of as many as
-- `answered` counts.
abbrev pub told_at : List ℕ → Reading (List Answered) → ℕ → Result
told_at message p k = record { ending = ending_in k p; words = data_in (kind_of (get_or message 0 0)) k p }

unfoldable pub told : List ℕ → List ℕ → Outcome
told message answer = each (count_in (judged_by (read message) answer)) (told_at message (judged_by (read message) answer))

-- what an answer to a command of this kind says: its status, and the data of an OK read; and a list of them
abbrev pub result_of : Kind → Answered → Result
result_of kind a = record { ending = Some a.status; words = data_of kind a.status a.payload }

unfoldable pub results_in : Kind → List Answered → Outcome
results_in kind [] = []
results_in kind (a ∷ more) = result_of kind a ∷ results_in kind more

-- The outcome of carrying out a message over this memory. Word 1 of the advertisement is in no read's data: it may be
-- any, as 0.
unfoldable pub outcome_over : List ℕ → List ℕ → Outcome
outcome_over memory message = results_in (kind_of (request_of message).byte0) (answer_to (request_of message) 0 memory)
