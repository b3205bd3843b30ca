-- A refusal: its number and its index, and a chain of checks. Assumes nothing.
use Rattle.std.specs.Prelude.{ℕ, Bool, cond, eqb, Result, Ok, Err, ⊤}
use Rattle.header.specs.declared.refusal.Refusal.{Refusal}

-- "refusals .. give the index, from 0, of the header word being looked at": number n of the table, at word `at`
abbrev pub refused_at : ℕ → ℕ → Refusal
refused_at n at = record { number = n; at = at }

-- "All others .. give 0"
abbrev pub refusal : ℕ → Refusal
refusal n = refused_at n 0

-- the number or the refusal r, unless all is well so far: then what the next check says
abbrev pub unless : {A : Type 0} → Bool → A → A → A
unless ok r next = cond ok next r

-- a refusal as a function gives it back; number 0 is none
abbrev pub as_result : Refusal → Result ⊤ Refusal
as_result r = cond (eqb r.number 0) (Ok tt) (Err r)

-- a refusal with a value beside it, as a function gives them back: the value where nothing is refused
abbrev pub result_of : {A : Type 0} → Refusal → A → Result A Refusal
result_of r a = cond (eqb r.number 0) (Ok a) (Err r)
