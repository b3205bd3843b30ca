-- The messages of an attempt, by what they mean, with any controller. Assumes nothing.
use Rattle.std.specs.Prelude.{ℕ, ◌<◌, ◌≡◌, List, [], ◌∷◌, get_or}
use Rattle.header.specs.Limits.{tag_count}
use Rattle.message.specs.Request.{Means}
use Rattle.message.specs.Walk.{read}
use Rattle.std.specs.Prelude.{None}
use Rattle.exchange.specs.Outcomes.{Result, Outcome}
use Rattle.layout.specs.declared.Stage.{Stage}
use Rattle.layout.specs.Layout.{request_at}
use Rattle.table.specs.declared.attempt.Next.{Next}
use Rattle.table.specs.declared.attempt.Next.TheVariants.{Send, Done, Ended}
use Rattle.table.specs.Attempt.{Told, next_of}

-- what an outcome tells of command k: nothing of one that was not answered
abbrev pub unanswered : Result
unanswered = record { ending = None; words = [] }

abbrev pub told_by : Outcome → Told
told_by o = record { ending = λ k. (get_or o k unanswered).ending; words = λ k. (get_or o k unanswered).words }

abbrev pub told_bys : List Outcome → List Told
told_bys [] = []
told_bys (o ∷ os) = told_by o ∷ told_bys os

-- the bytes mean the message of that stage, under some tag
pub record Asks (start : ℕ) (rows : List ℕ) (stage : Stage) (message : List ℕ) : Type 0 where
  pub tag : ℕ
  pub small : tag < tag_count
  pub means : read message ≡ Means (request_at stage tag start rows)

-- The messages offered are those of an attempt: each is that of the stage that the outcomes so far lead to, one at a
-- time, and none is offered where it is done or has ended.
abbrev pub Attempts : ℕ → List ℕ → Next → List Outcome → List (List ℕ) → Type 0
Attempts start rows next os [] = Unit {0}
Attempts start rows (Send stage) (o ∷ os) (d ∷ ds) =
    Asks start rows stage d × Attempts start rows (next_of rows stage (told_by o)) os ds
Attempts start rows (Send stage) [] (d ∷ []) = Asks start rows stage d
Attempts start rows (Send stage) [] (d ∷ e ∷ ds) = ⊥
Attempts start rows Done os (d ∷ ds) = ⊥
Attempts start rows (Ended n) os (d ∷ ds) = ⊥
