-- What `serve` and `dispatch` leave by what they give (`gave`, `sent_by`, `follows`), and what the calls inside go by,
-- which nobody else needs to read. Assumes nothing.
use Rattle.std.specs.Prelude.{ℕ, ◌*◌, ◌≡◌, Bool, true, false, List, Result, Ok, Err, Option, Some, None}
use Rattle.word.specs.Words.{put, put_words}
use Rattle.header.specs.declared.refusal.Refusal.{Refusal}
use Rattle.header.specs.Limits.{limit_bytes}
use Rattle.header.specs.Refusal.{refusal}
use Rattle.tags.specs.declared.record.TagRecord.{TagRecord}
use Rattle.tags.specs.Record.{words_at, record_by}
use Rattle.completer.specs.declared.serving.Done.{Done}
use Rattle.completer.specs.declared.serving.Kept.{Kept}
use Rattle.completer.specs.Controller.{Controller, answer_in, After, left}

-- what a call leaves that gave this: a refusal, which sends nothing, or the bytes sent
abbrev pub gave : Result ℕ Refusal → Controller → List ℕ → After
gave (Ok n) c output = left (refusal 0) n c output
gave (Err r) c output = left r 0 c output

-- the bytes that are sent, of what `dispatch` gives
abbrev pub sent_by : Result Done Refusal → Result ℕ Refusal
sent_by (Ok d) = Ok d.sent
sent_by (Err r) = Err r

-- the record after a message that is kept, or none
abbrev pub record_with : TagRecord → Option Kept → TagRecord
record_with tags None = tags
record_with tags (Some k) = record_by true tags k.byte0 k.words k.request

-- the record that follows from what `dispatch` gives
abbrev pub follows : TagRecord → Result Done Refusal → TagRecord
follows tags (Ok d) = record_with tags d.kept
follows tags (Err r) = tags

-- a stored answer sent again: no message is kept
pub record SendsAgain (s o : List ℕ) (tags : TagRecord) (tag : ℕ) (d : Done) (o' : List ℕ) : Type 0 where
  pub sent : d.sent ≡ 4 * words_at tags tag
  pub kept : d.kept ≡ None
  pub output : o' ≡ put_words o 0 (answer_in s tags tag)

-- the bytes of a message, where it is kept, at a place
abbrev pub kept_by : Bool → List ℕ → ℕ → List ℕ → List ℕ
kept_by true kept place dg = put kept (limit_bytes * place) dg
kept_by false kept place dg = kept
