-- An event of a script. Assumes nothing.
use Rattle.std.specs.Prelude.{ℕ, ◌%◌, List, [], ◌∷◌, Option, Some, None}

-- a letter, and a digit, whose four low bits are its number; no event where there are fewer than two bytes
abbrev pub event_in : List ℕ → Option (ℕ × ℕ)
event_in (letter ∷ digit ∷ more) = Some (letter, digit % 16)
event_in (letter ∷ []) = None
event_in [] = None
