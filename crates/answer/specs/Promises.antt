-- What is promised of answers, encoded and judged, in other words than the definitions of Answer: the proofs are in
-- proofs/Laws/Accepts.antt and Refuses.antt. Assumes nothing.
use Rattle.std.specs.Prelude.{ℕ, ◌≤◌, ◌≡◌, List}
use Rattle.word.specs.Words.{Bytes}
use Rattle.header.specs.declared.refusal.Refusal.{Refusal}
use Rattle.message.specs.Request.{Request, Refused, Means, Fits}
use Rattle.answer.specs.Answer.{Answered, judge, encode_answer, FitsAnswer}

-- the encoding of a list that fits a request is accepted, as that list
abbrev pub JudgeEncoded : Type 0
JudgeEncoded = (r : Request) (items : List Answered) → Fits r → FitsAnswer r items
    → judge r (encode_answer r items) ≡ Means items

-- and bytes that are accepted are the encoding of such a list
abbrev pub EncodeJudged : Type 0
EncodeJudged = (r : Request) (dg : List ℕ) (items : List Answered) → Bytes dg → judge r dg ≡ Means items
    → FitsAnswer r items × (dg ≡ encode_answer r items)

-- the refusals of an answer to a request are 32 to 35: none is 0
abbrev pub JudgeRange : Type 0
JudgeRange = (r : Request) (dg : List ℕ) → Fits r → Bytes dg → (q : Refusal) → judge r dg ≡ Refused q
    → (32 ≤ q.number) × (q.number ≤ 35)
