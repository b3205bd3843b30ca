-- What an answer tells of its request. The contracts of `outcome` cite these. Assumes nothing.
use Rattle.std.specs.Prelude.{ℕ, zero, suc, ◌+◌, ◌-◌, ◌*◌, ◌≡◌, List, [], ◌∷◌, length, get_or, take, drop, Option, Some, None, Result}
use Rattle.word.specs.Words.{bytes_of}
use Rattle.header.specs.declared.Kind.{Kind}
use Rattle.header.specs.declared.Kind.TheVariants.{Nop, Write, Read, Response}
use Rattle.header.specs.declared.refusal.Refusal.{Refusal}
use Rattle.header.specs.Header.{kind_of}
use Rattle.message.specs.Request.{Request, Reading, Refused, Means, given}
use Rattle.message.specs.Walk.{read}
use Rattle.answer.specs.declared.Status.{Status}
use Rattle.answer.specs.declared.Status.TheVariants.{Ok, Timeout, Error}
use Rattle.answer.specs.Answer.{Answered, judge}
use Rattle.initiator.specs.declared.outcome.Outcome.{Outcome}
use Rattle.initiator.specs.declared.outcome.Span.{Span}
use Rattle.initiator.specs.Asking.{plainly}

-- 32 to 35, of a request that may be asked
abbrev pub judged_in : Reading Request → List ℕ → Reading (List Answered)
judged_in (Refused r) answer = Refused r
judged_in (Means q) answer = judge q answer

-- "31 (its tag clause aside) to 35"
unfoldable pub judged_by : Reading Request → List ℕ → Reading (List Answered)
judged_by p answer = judged_in (plainly p) answer

-- how command k ended, counted from 0; none: it was not answered
unfoldable pub ending_at : ℕ → List Answered → Option Status
ending_at k [] = None
ending_at zero (a ∷ more) = Some a.status
ending_at (suc k) (a ∷ more) = ending_at k more

-- a part of the answer's bytes, from a start to an end: an empty one, and that of `count` data words behind the header
-- at word `at`
abbrev pub empty : Span
empty = record { start = 0; end = 0 }

unfoldable pub span_of : ℕ → ℕ → Span
span_of at count = record { start = 4 * (at + 1); end = 4 * (at + 1 + count) }

-- of a command whose answer's header stands at word `at`; "The part is empty if that command .. is .. not an OK read"
abbrev pub part_of : Kind → Status → ℕ → ℕ → Span
part_of Read Ok at count = span_of at count
part_of Read Timeout at count = empty
part_of Read Error at count = empty
part_of Nop status at count = empty
part_of Write status at count = empty
part_of Response status at count = empty

-- "Read data of a command comes back as a part of the caller's own answer datagram": of command k, the first of these
-- standing at word `at`
unfoldable pub part_at : Kind → ℕ → ℕ → List Answered → Span
part_at kind k at [] = empty
part_at kind zero at (a ∷ more) = part_of kind a.status at (length a.payload)
part_at kind (suc k) at (a ∷ more) = part_at kind k (at + 1 + length a.payload) more

-- the bytes of a part
abbrev pub cut : Span → List ℕ → List ℕ
cut part answer = take (part.end - part.start) (drop part.start answer)

-- the data words of command k: those of an OK read
abbrev pub data_of : Kind → Status → List ℕ → List ℕ
data_of Read Ok payload = payload
data_of Read Timeout payload = []
data_of Read Error payload = []
data_of Nop status payload = []
data_of Write status payload = []
data_of Response status payload = []

unfoldable pub data_at : Kind → ℕ → List Answered → List ℕ
data_at kind k [] = []
data_at kind zero (a ∷ more) = data_of kind a.status a.payload
data_at kind (suc k) (a ∷ more) = data_at kind k more

-- the same of a refused answer: "how many commands were answered, the status of command k, and the k-th command's read
-- data" are none where it is refused
abbrev pub count_in : Reading (List Answered) → ℕ
count_in (Refused r) = 0
count_in (Means items) = length items

abbrev pub ending_in : ℕ → Reading (List Answered) → Option Status
ending_in k (Refused r) = None
ending_in k (Means items) = ending_at k items

abbrev pub part_in : Kind → ℕ → Reading (List Answered) → Span
part_in kind k (Refused r) = empty
part_in kind k (Means items) = part_at kind k 0 items

abbrev pub data_in : Kind → ℕ → Reading (List Answered) → List ℕ
data_in kind k (Refused r) = []
data_in kind k (Means items) = data_at kind k items

-- all of it together, of an answer that is not refused
unfoldable pub told_of : Kind → ℕ → List Answered → Outcome
told_of kind k items = record { count = length items; ending = ending_at k items; part = part_at kind k 0 items }

-- the bytes of the part that comes back for command k: those at its place in the answer, and that command's data words
pub record ReadData (request answer : List ℕ) (k : ℕ) (part : List ℕ) : Type 0 where
  pub place : part ≡ cut (part_in (kind_of (get_or request 0 0)) k (judged_by (read request) answer)) answer
  pub words : part ≡ bytes_of (data_in (kind_of (get_or request 0 0)) k (judged_by (read request) answer))

-- what an answer tells of its request and of command k
unfoldable pub outcome_of : List ℕ → List ℕ → ℕ → Result Outcome Refusal
outcome_of request answer k = given (told_of (kind_of (get_or request 0 0)) k) (judged_by (read request) answer)
