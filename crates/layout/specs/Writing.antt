-- The message of a stage, in a lent output. Assumes nothing.
use Rattle.std.specs.Prelude.{ℕ, ◌<◌, ◌≤◌, ◌≡◌, cond, ◌&&◌, List, length, ltb, eqb, Result}
use Rattle.word.specs.Words.{put, Words}
use Rattle.header.specs.Limits.{limit_bytes, tag_count}
use Rattle.header.specs.declared.refusal.Refusal.{Refusal}
use Rattle.header.specs.Refusal.{refusal, unless, result_of}
use Rattle.message.specs.Request.{Means, written}
use Rattle.message.specs.Walk.{read}
use Rattle.building.specs.Build.{long_ok}
use Rattle.layout.specs.declared.Stage.{Stage}
use Rattle.layout.specs.Layout.{set_up_ok, set_up_fault, request_at}

-- 40 "before anything is sent", then building's 21: a short output or a tag over 15. Nothing else is ever refused.
unfoldable pub make_fault : ℕ → ℕ → ℕ → ℕ → ℕ
make_fault start room long tag = unless (set_up_ok start room) 40 (unless (long_ok long && ltb tag tag_count) 21 0)

-- what the call comes to: its refusal (40, 21, or 0 for none), and the message's length in bytes
pub record Wrote : Type 0 where
  pub refusal : ℕ
  pub length : ℕ

-- as a function gives it back
abbrev pub length_of : Wrote → Result ℕ Refusal
length_of wrote = result_of (refusal wrote.refusal) wrote.length

-- what the call comes to, and the output: the message's bytes stand first, what lies behind is as it was; a refusal
-- changes nothing
unfoldable pub wrote_of : Stage → ℕ → ℕ → ℕ → List ℕ → List ℕ → Wrote
wrote_of stage tag start room rows out =
    record {
      refusal = make_fault start room (length out) tag;
      length =
          cond (eqb (make_fault start room (length out) tag) 0) (length (written (request_at stage tag start rows))) 0;
    }

unfoldable pub wrote_to : Stage → ℕ → ℕ → ℕ → List ℕ → List ℕ → List ℕ
wrote_to stage tag start room rows out =
    cond (eqb (make_fault start room (length out) tag) 0) (put out 0 (written (request_at stage tag start rows))) out

-- Such bytes are read as that message, and fit in every output that 21 lets by.
abbrev pub WrittenIsRead : Type 0
WrittenIsRead =
    (stage : Stage) (tag start room : ℕ) (rows : List ℕ) → set_up_fault start room ≡ 0 → tag < tag_count → Words rows
    → (read (written (request_at stage tag start rows)) ≡ Means (request_at stage tag start rows))
    × (length (written (request_at stage tag start rows)) ≤ limit_bytes)
