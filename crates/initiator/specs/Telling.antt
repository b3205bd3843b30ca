-- What the calls inside `told` go by; nobody else needs to read it. Assumes nothing.
use Rattle.std.specs.Prelude.{ℕ, ◌+◌, ◌≡◌, cond, List, get_or, eqb, Option, Some, Result}
use Rattle.word.specs.Words.{Bytes}
use Rattle.header.specs.declared.Kind.{Kind}
use Rattle.header.specs.declared.refusal.Refusal.{Refusal}
use Rattle.header.specs.Header.{count_of, last_of}
use Rattle.message.specs.Request.{Request, Reading, Refused, Means}
use Rattle.message.specs.Walk.{read}
use Rattle.answer.specs.declared.Status.{Status}
use Rattle.answer.specs.declared.Seen.{Seen}
use Rattle.answer.specs.Answer.{Answered, look_at, answers_from}
use Rattle.initiator.specs.declared.outcome.Span.{Span}
use Rattle.initiator.specs.declared.outcome.Outcome.{Outcome}
use Rattle.initiator.specs.Outcome.{part_of}

-- what was told so far, one answer more counted: with this ending and this part
abbrev pub counting : Outcome → Option Status → Span → Outcome
counting told ending part = record { count = told.count + 1; ending = ending; part = part }

-- what was told so far, with the answer whose header stands at word `at`
unfoldable pub with_item : Outcome → ℕ → Kind → ℕ → Status → ℕ → Outcome
with_item told k kind at status count =
    cond (eqb told.count k)
    (counting told (Some status) (part_of kind status at count))
    (counting told told.ending told.part)

-- what stands at word `back` of the answer, beside the command whose header stands at word `at` of the request
unfoldable pub look_beside : List ℕ → List ℕ → ℕ → ℕ → ℕ → Result Seen Refusal
look_beside asked ws byte0 at back = look_at byte0 (count_of (get_or asked at 0)) (last_of (get_or asked at 0)) ws back

-- a request that was accepted, and its byte 0
pub record Ready (request : List ℕ) (byte0 : ℕ) : Type 0 where
  pub bytes : Bytes request
  pub meaning : Request
  pub is : read request ≡ Means meaning
  pub first : byte0 ≡ meaning.byte0

-- the answers to an accepted request's commands
abbrev pub answers_to : Reading Request → List ℕ → Reading (List Answered)
answers_to (Refused r) ws = Refused r
answers_to (Means r) ws = answers_from r.byte0 0 r.commands ws
