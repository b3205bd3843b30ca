-- Records and tags in figures. `proofs/Laws/Worked.antt` computes them. Assumes nothing.
use Rattle.std.specs.Prelude.{ℕ, zero, suc, ◌+◌, ◌≡◌, Bool, true, false, List, [], ◌∷◌, ◌++◌, replicate, Ok, Err}
use Rattle.header.specs.Refusal.{refusal}
use Rattle.tags.specs.declared.record.TagRecord.{TagRecord}
use Rattle.tags.specs.declared.rule.Verdict.TheVariants.{New, Repeat, Discovery}
use Rattle.tags.specs.Record.{fresh_record, mark_of, most_memory, record_ok, kept_ok, record_by}
use Rattle.tags.specs.Record.{holds, words_at, request_at}
use Rattle.tags.specs.Rule.{Ruling, rule_of}

-- a record that holds so many, the newest of this tag, with these answers and these requests at the four places
abbrev pub holding : ℕ → ℕ → List ℕ → List ℕ → TagRecord
holding held tag words request = record { held = held; tag = tag; words = words; request = request }

-- all four lengths alike
abbrev pub all : ℕ → List ℕ
all n = replicate 4 n

-- "any other holds one to four"; "not fresh and not (tag 0 to 15, length 1 to" 2,243); [7] "the record's request
-- length": the same; [9] "each length as before": of the held, the others are not looked at
pub record RecordsShown : Type 0 where
  pub least : record_ok (holding 1 0 (1 ∷ 0 ∷ 0 ∷ 0 ∷ []) (1 ∷ 0 ∷ 0 ∷ 0 ∷ [])) ≡ true
  pub most : record_ok (holding 4 15 (all 2243) (all 2243)) ≡ true
  pub five : record_ok (holding 5 15 (all 1) (all 1)) ≡ false
  pub tag : record_ok (holding 1 16 (all 1) (all 1)) ≡ false
  pub none : record_ok (holding 1 0 (0 ∷ 1 ∷ 1 ∷ 1 ∷ []) (all 1)) ≡ false
  pub over : record_ok (holding 1 15 (1 ∷ 1 ∷ 1 ∷ 2244 ∷ []) (all 1)) ≡ false
  pub no_request : record_ok (holding 1 0 (all 1) (0 ∷ 1 ∷ 1 ∷ 1 ∷ [])) ≡ false
  pub over_request : record_ok (holding 1 15 (all 1) (1 ∷ 1 ∷ 1 ∷ 2244 ∷ [])) ≡ false
  -- tags 1, 0 and 15 are held, at the places 1, 0 and 3: place 2 is not looked at, each other is
  pub free : record_ok (holding 3 1 (1 ∷ 1 ∷ 0 ∷ 1 ∷ []) (1 ∷ 1 ∷ 2244 ∷ 1 ∷ [])) ≡ true
  pub newest : record_ok (holding 3 1 (1 ∷ 0 ∷ 1 ∷ 1 ∷ []) (all 1)) ≡ false
  pub middle : record_ok (holding 3 1 (all 1) (2244 ∷ 1 ∷ 1 ∷ 1 ∷ [])) ≡ false
  pub oldest : record_ok (holding 3 1 (1 ∷ 1 ∷ 1 ∷ 0 ∷ []) (all 1)) ≡ false
  pub fourth : record_ok (holding 4 1 (1 ∷ 1 ∷ 0 ∷ 1 ∷ []) (all 1)) ≡ false
  pub fresh : record_ok (holding 0 16 (all 2244) (all 0)) ≡ true

-- "a stored answer of at least" 2,243 words, [7] "a further lent buffer of the same length", in bytes, [9] four of
-- each; and the record
pub record BuffersShown : Type 0 where
  pub least : kept_ok 8972 35888 fresh_record ≡ true
  pub short : kept_ok 8971 35888 fresh_record ≡ false
  pub short_request : kept_ok 8972 35887 fresh_record ≡ false
  pub words : kept_ok 8972 8972 fresh_record ≡ false
  pub longer : kept_ok 8973 35889 (holding 1 0 (all 1) (all 1)) ≡ true
  pub both : kept_ok 8972 35888 (holding 1 16 (all 1) (all 1)) ≡ false
  pub memory : most_memory ≡ 16384

-- "word 1 is the stored tag at entry plus 16, or 0 where none is stored": the newest
pub record MarksShown : Type 0 where
  pub none : mark_of fresh_record ≡ 0
  pub first : mark_of (holding 1 0 (all 1) (all 1)) ≡ 16
  pub last : mark_of (holding 4 15 (all 1) (all 1)) ≡ 31
  pub unlooked : mark_of (holding 0 7 (all 1) (all 1)) ≡ 0

-- five messages, of tags 14, 15, 0, 1 and 2: "store tag and answer", [7] "keep the last request as well", [9] "the last
-- four", each at its place; the fifth takes the place of the first
abbrev pub five_on : TagRecord → TagRecord
five_on tags = record_by true (record_by true (record_by true (record_by true (record_by true tags
    0x1E 5 50) 0x1F 6 60) 0x10 7 70) 0x11 8 80) 0x12 9 90

pub record KeepingShown : Type 0 where
  pub first : record_by true fresh_record 0x10 1 3 ≡ holding 1 0 (1 ∷ 0 ∷ 0 ∷ 0 ∷ []) (3 ∷ 0 ∷ 0 ∷ 0 ∷ [])
  pub second : record_by true (holding 1 0 (all 1) (all 3)) 0x51 2243 2
      ≡ holding 2 1 (1 ∷ 2243 ∷ 1 ∷ 1 ∷ []) (3 ∷ 2 ∷ 3 ∷ 3 ∷ [])
  pub five : five_on (holding 1 13 (all 1) (all 1)) ≡ holding 4 2 (7 ∷ 8 ∷ 9 ∷ 6 ∷ []) (70 ∷ 80 ∷ 90 ∷ 60 ∷ [])
  pub words : words_at (five_on fresh_record) 15 ≡ 6
  pub request : request_at (five_on fresh_record) 2 ≡ 90
  pub stays : record_by false (holding 3 2 (all 7) (all 8)) 0x93 5 6 ≡ holding 3 2 (all 7) (all 8)
  pub fresh : record_by false fresh_record 0x90 5 6 ≡ fresh_record

-- which of the 16 tags are held, the highest first
unfoldable pub held_of : TagRecord → ℕ → List Bool
held_of tags zero = []
held_of tags (suc n) = holds tags n ∷ held_of tags n

pub record HeldShown : Type 0 where
  pub none : held_of fresh_record 16 ≡ replicate 16 false
  pub one : held_of (holding 1 0 (all 1) (all 1)) 16 ≡ replicate 15 false ++ true ∷ []
  pub two : held_of (holding 2 0 (all 1) (all 1)) 16 ≡ true ∷ replicate 14 false ++ true ∷ []
  pub four : held_of (holding 4 7 (all 1) (all 1)) 16 ≡ replicate 8 false ++ replicate 4 true ++ replicate 4 false

-- a verdict's number: 0 new, 1 a repeat, 2 a discovery, or its refusal's
abbrev pub verdict_no : Ruling → ℕ
verdict_no (Err r) = r.number
verdict_no (Ok New) = 0
verdict_no (Ok (Repeat tag)) = 1
verdict_no (Ok Discovery) = 2

-- byte 0 of writes of tag 0, 1, 2, 14 and 15, and of a discovery of tag 2, against what is held: "Stored tag 15: tag 0
-- is new"; [9] "a fresh controller now takes only tag 0, else 11"
pub record RulesShown : Type 0 where
  pub fresh : rule_of fresh_record 0x10 ≡ Ok New
  pub fresh_else : rule_of fresh_record 0x12 ≡ Err (refusal 11)
  pub again : rule_of (holding 1 0 (all 1) (all 1)) 0x10 ≡ Ok (Repeat 0)
  pub next : rule_of (holding 1 0 (all 1) (all 1)) 0x11 ≡ Ok New
  pub early : rule_of (holding 1 0 (all 1) (all 1)) 0x12 ≡ Err (refusal 11)
  pub old : rule_of (holding 1 0 (all 1) (all 1)) 0x1F ≡ Err (refusal 11)
  pub older : rule_of (holding 2 0 (all 1) (all 1)) 0x1F ≡ Ok (Repeat 15)
  pub wrapped : rule_of (holding 1 15 (all 1) (all 1)) 0x10 ≡ Ok New
  pub late : rule_of (holding 1 15 (all 1) (all 1)) 0x1E ≡ Err (refusal 11)
  pub asked : rule_of (holding 1 0 (all 1) (all 1)) 0x92 ≡ Ok Discovery

-- the verdicts on the first n tags, the highest first, in a byte 0 that has this besides
unfoldable pub verdicts : TagRecord → ℕ → ℕ → List ℕ
verdicts tags byte0 zero = []
verdicts tags byte0 (suc n) = verdict_no (rule_of tags (byte0 + n)) ∷ verdicts tags byte0 n

-- all 16 tags: fresh, against the newest tags 0, 7 and 15 with one to four held, and as discoveries. The kind and bit 6
-- are not looked at.
pub record AllTagsShown : Type 0 where
  pub fresh : verdicts fresh_record 0x10 16 ≡ replicate 15 11 ++ 0 ∷ []
  pub one0 : verdicts (holding 1 0 (all 1) (all 1)) 0x10 16 ≡ replicate 14 11 ++ 0 ∷ 1 ∷ []
  pub four0 : verdicts (holding 4 0 (all 1) (all 1)) 0x10 16 ≡ 1 ∷ 1 ∷ 1 ∷ replicate 11 11 ++ 0 ∷ 1 ∷ []
  pub one7 : verdicts (holding 1 7 (all 1) (all 1)) 0x60 16 ≡ replicate 7 11 ++ 0 ∷ 1 ∷ replicate 7 11
  pub two7 : verdicts (holding 2 7 (all 1) (all 1)) 0x60 16 ≡ replicate 7 11 ++ 0 ∷ 1 ∷ 1 ∷ replicate 6 11
  pub three7 : verdicts (holding 3 7 (all 1) (all 1)) 0x10 16 ≡ replicate 7 11 ++ 0 ∷ 1 ∷ 1 ∷ 1 ∷ replicate 5 11
  pub four7 : verdicts (holding 4 7 (all 1) (all 1)) 0x10 16 ≡ replicate 7 11 ++ 0 ∷ 1 ∷ 1 ∷ 1 ∷ 1 ∷ replicate 4 11
  pub four15 : verdicts (holding 4 15 (all 1) (all 1)) 0x00 16 ≡ 1 ∷ 1 ∷ 1 ∷ 1 ∷ replicate 11 11 ++ 0 ∷ []
  pub asked : verdicts (holding 4 7 (all 1) (all 1)) 0x90 16 ≡ replicate 16 2
  pub asked_fresh : verdicts fresh_record 0x80 16 ≡ replicate 16 2
  pub unlooked : verdicts (holding 0 7 (all 1) (all 1)) 0x10 16 ≡ replicate 15 11 ++ 0 ∷ []
