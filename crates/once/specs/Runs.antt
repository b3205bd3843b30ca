-- Runs of events, whatever a state and an event are: what the promise of Promise.antt counts by.
-- Assumes nothing.
use Rattle.std.specs.Prelude.{ℕ, ◌+◌, ◌≤◌, ◌<◌, List, [], ◌∷◌, ◌++◌, ◌⊎◌, length, get_or, take}

module _ {X Y : Type 0} (step : X → Y → X) where
  -- the state after the events, one after another
  abbrev pub run : X → List Y → X
  run w [] = w
  run w (e ∷ es) = run (step w e) es

  -- each event is allowed where it happens
  abbrev pub Always : (X → Y → Type 0) → X → List Y → Type 0
  Always Allowed w [] = Unit {0}
  Always Allowed w (e ∷ es) = Allowed w e × Always Allowed (step w e) es

  -- A round is a send and what happens before the next one.
  abbrev pub rounds : Y → List (List Y) → List Y
  rounds send [] = []
  rounds send (r ∷ rs) = (send ∷ r) ++ rounds send rs

  -- the state before round j
  abbrev pub before : Y → X → List (List Y) → ℕ → X
  before send w rs j = run w (rounds send (take j rs))

  -- Of any L rounds in a row one is good, as long as it is not Over.
  abbrev pub Often : Y → (X → List Y → Type 0) → (X → Type 0) → ℕ → X → List (List Y) → Type 0
  Often send Good Over L w rs =
      (i : ℕ) → i + L ≤ length rs
      → ((j : ℕ) × (i ≤ j) × (j < i + L) × Good (before send w rs j) (get_or rs j [])) ⊎ Over (before send w rs (i + L))
