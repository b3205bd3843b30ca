-- "its outcome is the status and read data of each answered command", as C takes them. Assumes nothing.
use Rattle.std.specs.Prelude.{ℕ, ◌-◌, List, get_or, Option, Some, None}
use Rattle.header.specs.Header.{kind_of}
use Rattle.message.specs.Walk.{read}
use Rattle.answer.specs.declared.Status.{Status}
use Rattle.answer.specs.Answer.{code_of}
use Rattle.initiator.specs.declared.outcome.Span.{Span}
use Rattle.initiator.specs.Outcome.{judged_by, ending_in, part_in}
use Rattle.loader.specs.declared.outcome.Part.{Part}

-- "0 OK, 1 Timeout, 2 Error"; 3 is no status, and stands for a command that was not answered
abbrev pub ending_no : Option Status → ℕ
ending_no None = 3
ending_no (Some status) = code_of status

unfoldable pub status_number : List ℕ → List ℕ → ℕ → ℕ
status_number request answer k = ending_no (ending_in k (judged_by (read request) answer))

-- a part by its start and its length
abbrev pub part_from : Span → Part
part_from span = record { start = span.start; length = span.end - span.start }

-- "Read data of a command comes back as a part of the caller's own answer datagram"
unfoldable pub data_part : List ℕ → List ℕ → ℕ → Part
data_part request answer k = part_from (part_in (kind_of (get_or request 0 0)) k (judged_by (read request) answer))
