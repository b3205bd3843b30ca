-- The controller's answer to the fixed discovery, which a sender starts from. Assumes nothing.
use Rattle.std.specs.Prelude.{ℕ, List, [], ◌∷◌}
use Rattle.header.specs.Limits.{limit_bytes}
use Rattle.answer.specs.declared.Status.TheVariants.{Ok}
use Rattle.answer.specs.Answer.{Answered}

-- one OK command, whose data are the limit in bytes and `mark`, word 1 of the advertisement
abbrev pub discovery_answered : ℕ → List Answered
discovery_answered mark = record { status = Ok; payload = limit_bytes ∷ mark ∷ [] } ∷ []

-- its words
abbrev pub discovery_answer : ℕ → List ℕ
discovery_answer mark = 0x800200B0 ∷ limit_bytes ∷ mark ∷ []
