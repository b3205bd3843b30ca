-- What is promised of carrying out, in other words than its definitions: a definition that is wrong alone is refused.
-- The proofs are in proofs/Laws/Promises.antt. Assumes nothing.
use Rattle.std.specs.Prelude.{ℕ, ◌+◌, ◌/◌, ◌<◌, ◌≤◌, ◌≡◌, true, false, List, [], ◌∷◌, ◌++◌, map, length, get_or, take}
use Rattle.header.specs.declared.Kind.TheVariants.{Nop, Write, Read}
use Rattle.header.specs.Limits.{limit}
use Rattle.header.specs.Header.{kind_of}
use Rattle.message.specs.Request.{Command, Request}
use Rattle.answer.specs.declared.Status.TheVariants.{Ok, Timeout}
use Rattle.answer.specs.Answer.{Answered, FitsAnswer}
use Rattle.memory.specs.Moves.{fails, memory_after}
use Rattle.memory.specs.Promises.{carried, asking}
use Rattle.carrying.specs.Answers.{advertisement, failed, answer_to, words_to}

-- a failing command and all after it change nothing: "it touches nothing and no later command is done"
abbrev pub Stops : Request → ℕ → List ℕ → Type 0
Stops r mark memory =
    (before : List Command) (c : Command) (after : List Command) → r.commands ≡ before ++ (c ∷ after)
    → fails (kind_of r.byte0) (length memory) c ≡ true
    → (memory_after r memory ≡ memory_after (asking r before) memory)
    × (answer_to r mark memory ≡ answer_to (asking r (before ++ (c ∷ []))) mark memory)

-- a is the answer to the command c behind the OK commands `before`: a NOP's data are the first count words of the
-- advertisement, a read's the words of memory at that moment
pub record AnsweredThen (r : Request) (mark : ℕ) (memory : List ℕ) (before : List Command) (c : Command)
    (a : Answered) : Type 0 where
  pub error : fails (kind_of r.byte0) (length memory) c ≡ true → a ≡ failed
  pub fine : fails (kind_of r.byte0) (length memory) c ≡ false → a.status ≡ Ok
  pub nop : kind_of r.byte0 ≡ Nop → a.payload ≡ take c.count (advertisement mark)
  pub write : kind_of r.byte0 ≡ Write → a.payload ≡ []
  pub read : kind_of r.byte0 ≡ Read → fails Read (length memory) c ≡ false → length a.payload ≡ c.count
  pub words : kind_of r.byte0 ≡ Read → fails Read (length memory) c ≡ false → (j : ℕ) → j < c.count
      → get_or a.payload j 0 ≡ get_or (memory_after (asking r before) memory) (c.address / 4 + j) 0

-- each command up to the first that fails is answered so, in order
abbrev pub AnswersThen : Request → ℕ → List ℕ → Type 0
AnswersThen r mark memory =
    (before : List Command) (c : Command) (after : List Command) → r.commands ≡ before ++ (c ∷ after)
    → carried (kind_of r.byte0) (length memory) before ≡ before
    → AnsweredThen r mark memory before c (get_or (answer_to r mark memory) (length before) failed)

-- "Byte 1 of reads and NOPs is not looked at": with 0 in its place the answer is the same, and `Quiet` says that memory
-- stays
abbrev pub blank : Command → Command
blank c = record { byte1 = 0; count = c.count; address = c.address; payload = c.payload }

abbrev pub NotLookedAt : Request → ℕ → List ℕ → Type 0
NotLookedAt r mark memory = (kind_of r.byte0 ≡ Write → ⊥)
    → answer_to (asking r (map blank r.commands)) mark memory ≡ answer_to r mark memory

-- the answer list fits the request, so it is no longer than a message may be
pub record AnswerFits (r : Request) (mark : ℕ) (memory : List ℕ) : Type 0 where
  pub fits : FitsAnswer r (answer_to r mark memory)
  pub short : length (words_to r mark memory) ≤ limit

-- "The completer never sends Timeout"
abbrev pub NeverTimeout : Request → ℕ → List ℕ → Type 0
NeverTimeout r mark memory = (i : ℕ) → (get_or (answer_to r mark memory) i failed).status ≡ Timeout → ⊥
