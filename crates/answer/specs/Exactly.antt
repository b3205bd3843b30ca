-- The refusals 32 to 35 in their own words, apart from `judge`: what `proofs/Laws/Accepts.antt` and
-- `proofs/Laws/Refuses.antt` show of it. Assumes nothing.
use Rattle.std.specs.Prelude.{ℕ, ◌≤◌, ◌≡◌, ◌↔◌, Bool, true, false, List, [], ◌∷◌, ◌++◌, length, get_or}
use Rattle.word.specs.Words.{words_of}
use Rattle.header.specs.Refusal.{refused_at}
use Rattle.header.specs.Limits.{length_ok}
use Rattle.message.specs.Request.{Command, Request, Refused, Means, none}
use Rattle.answer.specs.declared.Status.TheVariants.{Ok}
use Rattle.answer.specs.Answer.{Answered, answer_byte, answer_fault, judge, answered_words, encode_answer}
use Rattle.answer.specs.Answer.{FitsAnswered, FitsAnswer}

-- OK answers that others follow: none of them is LAST
unfoldable pub open_answers : ℕ → List Answered → List ℕ
open_answers byte [] = []
open_answers byte (a ∷ more) = answered_words byte false a ++ open_answers byte more

-- OK answers to some commands, one each
unfoldable pub AllOk : ℕ → List Command → List Answered → Type 0
AllOk byte0 [] [] = Unit {0}
AllOk byte0 [] (a ∷ more) = ⊥
AllOk byte0 (c ∷ cs) [] = ⊥
AllOk byte0 (c ∷ cs) (a ∷ more) = (a.status ≡ Ok) × FitsAnswered byte0 c a × AllOk byte0 cs more

-- the first fault where a command's answer should stand: "35 (no word)", else its header's own
unfoldable pub answer_fault_in : ℕ → Command → Bool → List ℕ → ℕ
answer_fault_in byte0 c last [] = 35
answer_fault_in byte0 c last (h ∷ rest) = answer_fault byte0 c.count last h (length rest)

-- OK answers to the first commands are followed by a header, at word `at`, whose first fault for the next command is n
pub record AnswerFaultAfter (byte0 n at : ℕ) (cs : List Command) (ws : List ℕ) : Type 0 where
  pub done : List Command
  pub next : Command
  pub behind : List Command
  pub asked : cs ≡ done ++ next ∷ behind
  pub good : List Answered
  pub fit : AllOk byte0 done good
  pub tail : List ℕ
  pub is : ws ≡ open_answers (answer_byte byte0) good ++ tail
  pub fault : answer_fault_in byte0 next (none behind) tail ≡ n
  pub place : length (open_answers (answer_byte byte0) good) ≡ at

-- the same for the answers to a request: each of 32 to 35 with its index
pub record RefusesExactly (r : Request) (dg : List ℕ) : Type 0 where
  pub long : (at : ℕ) → (judge r dg ≡ Refused (refused_at 32 at)) ↔ ((length_ok (length dg) ≡ false) × (at ≡ 0))
  pub other : (at : ℕ)
      → (judge r dg ≡ Refused (refused_at 33 at))
      ↔ ((length_ok (length dg) ≡ true) × (get_or dg 0 0 ≡ answer_byte r.byte0 → ⊥) × (at ≡ 0))
  pub faults : (n at : ℕ) → 34 ≤ n → n ≤ 35
      → (judge r dg ≡ Refused (refused_at n at))
      ↔ ((length_ok (length dg) ≡ true) × (get_or dg 0 0 ≡ answer_byte r.byte0)
      × AnswerFaultAfter r.byte0 n at r.commands (words_of dg))

-- an answer is accepted exactly if it is the encoding of a list that fits the request
unfoldable pub AcceptsExactly : Request → List ℕ → Type 0
AcceptsExactly r dg = (items : List Answered)
    → (judge r dg ≡ Means items) ↔ (FitsAnswer r items × (dg ≡ encode_answer r items))
