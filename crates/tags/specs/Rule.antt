-- The rule of tags: what a message's tag says against the record. Assumes nothing.
use Rattle.std.specs.Prelude.{ℕ, Bool, cond, eqb, Result, Ok, Err}
use Rattle.header.specs.declared.refusal.Refusal.{Refusal}
use Rattle.header.specs.Header.{tag_of, discovery_of, next_tag}
use Rattle.header.specs.Refusal.{refusal}
use Rattle.tags.specs.declared.record.TagRecord.{TagRecord}
use Rattle.tags.specs.declared.rule.Verdict.{Verdict}
use Rattle.tags.specs.declared.rule.Verdict.TheVariants.{New, Repeat, Discovery}
use Rattle.tags.specs.Record.{is_fresh, holds}

-- [9] "a fresh controller now takes only tag 0"; "The next tag, modulo 16, is new"
unfoldable pub expected : TagRecord → ℕ → Bool
expected tags tag = cond (is_fresh tags) (eqb tag 0) (eqb tag (next_tag tags.tag))

-- what is to be done about a message, or its refusal
abbrev pub Ruling : Type 0
Ruling = Result Verdict Refusal

-- "With the discovery bit the tag is not compared"; [9] a repeat "of any" that is held; new; "Older and early ones are
-- 11"
unfoldable pub rule_of : TagRecord → ℕ → Ruling
rule_of tags byte0 =
    cond (discovery_of byte0) (Ok Discovery)
    (cond (holds tags (tag_of byte0)) (Ok (Repeat (tag_of byte0)))
    (cond (expected tags (tag_of byte0)) (Ok New) (Err (refusal 11))))
