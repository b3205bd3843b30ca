-- The verdict on any datagram: whether it is turned away, and why. Assumes nothing.
use Rattle.std.specs.Prelude.{ℕ, Bool, false, cond, List, ltb, leb, length, Ok, Err}
use Rattle.word.specs.Words.{same}
use Rattle.header.specs.Limits.{limit_bytes}
use Rattle.header.specs.Refusal.{refusal}
use Rattle.message.specs.Request.{Request, Reading, Refused, Means}
use Rattle.message.specs.Walk.{read}
use Rattle.tags.specs.declared.record.TagRecord.{TagRecord}
use Rattle.tags.specs.declared.rule.Verdict.TheVariants.{New, Repeat, Discovery}
use Rattle.tags.specs.Record.{most_memory, kept_ok}
use Rattle.tags.specs.Rule.{Ruling, rule_of}
use Rattle.completer.specs.Controller.{Controller, request_in}

-- 1, memory and output: "memory .. or output has a forbidden length"
unfoldable pub lent_ok : ℕ → ℕ → Bool
lent_ok memory output = cond (ltb memory 1) false (cond (ltb most_memory memory) false (leb limit_bytes output))

-- "Then 10, then 11": a message that 2 to 10 let by is judged by its tag
abbrev pub judged : TagRecord → Reading Request → Ruling
judged tags (Refused r) = Err r
judged tags (Means r) = rule_of tags r.byte0

-- [7] whether a datagram is the kept request; its "bytes differ" by their number or by one of them
unfoldable pub as_kept : List ℕ → List ℕ → Bool
as_kept request dg = same request dg

-- [7] "A repeat whose bytes differ from the kept request is refused as 12, after 11": [9] from the one of its tag
abbrev pub held_to : List ℕ → TagRecord → List ℕ → Ruling → Ruling
held_to kept tags dg (Err r) = Err r
held_to kept tags dg (Ok New) = Ok New
held_to kept tags dg (Ok (Repeat tag)) =
    cond (as_kept (request_in kept tags tag) dg) (Ok (Repeat tag)) (Err (refusal 12))
held_to kept tags dg (Ok Discovery) = Ok Discovery

-- "Checks 1 and 2 come first. Then the commands are walked": by the lengths of memory, stored answers and output, and
-- by what is kept
unfoldable pub verdict_by : ℕ → ℕ → List ℕ → ℕ → TagRecord → List ℕ → Ruling
verdict_by memory stored kept output tags dg =
    cond (lent_ok memory output)
    (cond (kept_ok stored (length kept) tags) (held_to kept tags dg (judged tags (read dg))) (Err (refusal 1)))
    (Err (refusal 1))

-- the same of a controller that is lent this output
abbrev pub verdict_of : Controller → List ℕ → List ℕ → Ruling
verdict_of c output dg = verdict_by (length c.memory) (length c.stored) c.kept (length output) c.tags dg
