-- How a life ends in a night, and the discoveries of strangers. Assumes nothing.
use Rattle.std.specs.Prelude.{ℕ, cond, List, [], ◌∷◌, eqb}
use Rattle.channel_run.specs.declared.controller.Controller.{Controller}
use Rattle.channel_run.specs.declared.night.End.{End}
use Rattle.channel_run.specs.declared.night.End.TheVariants.{Restart, Reset, Over}
use Rattle.channel_run.specs.Controller.{fresh_with}

-- the end of a number in a script
abbrev pub end_of : ℕ → End
end_of number = cond (eqb number 0) Restart (cond (eqb number 1) Reset Over)

-- the controller after a life: a reset leaves a fresh record, and something else in the buffers
abbrev pub ended_by : End → Controller → Controller
ended_by Restart c = c
ended_by Reset c = fresh_with 7
ended_by Over c = c

-- a read of words 0 and 1, by a discovery with tag 1; 7 is one with tag 2
abbrev pub stranger_bytes : ℕ → List ℕ
stranger_bytes i = cond (eqb i 7) 162 161 ∷ 0 ∷ 2 ∷ 128 ∷ 0 ∷ 0 ∷ 0 ∷ 0 ∷ []
