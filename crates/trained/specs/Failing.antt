-- [13] An attempt that fails, with any controller whose outcomes are true: ours fails no command behind an OK clearing,
-- so that of it alone this would say little. Assumes nothing.
use Rattle.std.specs.Prelude.{ℕ, suc, ◌≡◌, Bool, true, false, cond, List, [], ◌∷◌, length, get_or}
use Rattle.header.specs.declared.Kind.{Kind}
use Rattle.header.specs.Header.{kind_of}
use Rattle.message.specs.Request.{Command}
use Rattle.message.specs.Walk.{request_of}
use Rattle.answer.specs.declared.Status.{Status}
use Rattle.answer.specs.declared.Status.TheVariants.{Ok, Timeout, Error}
use Rattle.memory.specs.Moves.{moves_of, after_moves, memory_after}
use Rattle.std.specs.Prelude.{Option, Some, None}
use Rattle.exchange.specs.Outcomes.{Outcome, outcome_over}
use Rattle.layout.specs.declared.Stage.TheVariants.{Clear}
use Rattle.layout.specs.Layout.{set_up_fault}
use Rattle.table.specs.declared.attempt.Next.TheVariants.{Send, Ended}
use Rattle.table.specs.Attempt.{Told, is_ok}
use Rattle.table.specs.Promises.{came_to}
use Rattle.trained.specs.Loading.{mark_in}
use Rattle.trained.specs.Attempts.{told_by, told_bys, Attempts}

-- whether a command was carried out, by a true outcome: only where it ended in OK, not in Timeout either
abbrev pub carried_out : Option Status → Bool
carried_out None = false
carried_out (Some Ok) = true
carried_out (Some Timeout) = false
carried_out (Some Error) = false

-- what commands did to memory, by a true outcome: those up to the first that was not carried out, and no other; the
-- first of these is command k
unfoldable pub did_from : Kind → ℕ → List Command → Told → List ℕ → List ℕ
did_from kind k [] told memory = memory
did_from kind k (c ∷ cs) told memory =
    cond (carried_out (told.ending k)) (did_from kind (suc k) cs told (after_moves memory (moves_of kind c))) memory

-- what messages did, each with its outcome
unfoldable pub did_all : List (List ℕ) → List Outcome → List ℕ → List ℕ
did_all [] os memory = memory
did_all (d ∷ ds) [] memory = memory
did_all (d ∷ ds) (o ∷ os) memory =
    did_all ds os (did_from (kind_of (request_of d).byte0) 0 (request_of d).commands (told_by o) memory)

-- "ends the attempt with the row's number (25 for the mark) and the mark left at 0, or untouched if clearing it
-- failed": whatever memory was, whatever the outcomes
abbrev pub FailedLeaves : Type 0
FailedLeaves =
    (start room : ℕ) (rows : List ℕ) (os : List Outcome) (ds : List (List ℕ)) (memory : List ℕ) (n : ℕ)
    → set_up_fault start room ≡ 0 → Attempts start rows (Send Clear) os ds → length os ≡ length ds
    → came_to rows (Send Clear) (told_bys os) ≡ Ended n
    → (is_ok ((told_by (get_or os 0 [])).ending 0) ≡ true → mark_in start (did_all ds os memory) ≡ 0)
    × (is_ok ((told_by (get_or os 0 [])).ending 0) ≡ false → did_all ds os memory ≡ memory)

-- our controller's outcomes are true: memory after a message is what its outcome says
abbrev pub OursIsTrue : Type 0
OursIsTrue =
    (message memory : List ℕ)
    → memory_after (request_of message) memory
    ≡ did_from (kind_of (request_of message).byte0) 0 (request_of message).commands (told_by (outcome_over memory message))
    memory
