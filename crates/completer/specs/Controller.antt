-- The controller's state, and what is there after a call. A buffer that is lent besides is a field more, here and in
-- the one definition of Serving that says what is kept. Assumes nothing.
use Rattle.std.specs.Prelude.{ℕ, ◌*◌, List, take, drop}
use Rattle.header.specs.Limits.{limit, limit_bytes}
use Rattle.header.specs.declared.refusal.Refusal.{Refusal}
use Rattle.tags.specs.declared.record.TagRecord.{TagRecord}
use Rattle.tags.specs.Record.{place_of, words_at, request_at}

-- "Besides memory the caller lends a stored answer", [7] the last request "in a further lent buffer", as bytes, [9]
-- four of each, and the record is handed on from call to call
pub record Controller : Type 0 where
  pub memory : List ℕ
  pub stored : List ℕ
  pub kept : List ℕ
  pub tags : TagRecord

-- what a call is lent, and what it leaves, as a controller
abbrev pub lent : List ℕ → List ℕ → List ℕ → TagRecord → Controller
lent memory stored kept tags = record { memory = memory; stored = stored; kept = kept; tags = tags }

-- the same controller over another memory
abbrev pub with_memory : Controller → List ℕ → Controller
with_memory c memory = lent memory c.stored c.kept c.tags

-- [7] "the kept request" of a tag: at its place, as many words as the record says, in bytes
abbrev pub request_in : List ℕ → TagRecord → ℕ → List ℕ
request_in kept tags tag = take (4 * request_at tags tag) (drop (limit_bytes * place_of tag) kept)

-- "the stored answer" of a tag: at its place, as many words as the record says
abbrev pub answer_in : List ℕ → TagRecord → ℕ → List ℕ
answer_in stored tags tag = take (words_at tags tag) (drop (limit * place_of tag) stored)

-- after a call: its refusal (number 0: none), the bytes sent, "the first n of the output, n being the returned length",
-- the controller and the whole output
pub record After : Type 0 where
  pub refusal : Refusal
  pub sent : ℕ
  pub controller : Controller
  pub output : List ℕ

abbrev pub left : Refusal → ℕ → Controller → List ℕ → After
left refusal sent controller output = record {
  refusal = refusal;
  sent = sent;
  controller = controller;
  output = output;
}
