-- The premises are sharp: with an age of one more, with an answer's age counted from the oldest that waits, or with a
-- window of nine, the promise breaks, by the runs of specs/Example.antt. Assumes nothing.
use Prim.Native.Nat.{ℕ}
use mathlib.Core.Path.{◌≡◌, refl, ◌∙◌, ap}
use mathlib.Core.List.{[], ◌∷◌}
use native.Mathlib.Omega.{arith}
use lib.ListN.{length, take}
use Rattle.once.specs.World.{World, finished}
use Rattle.once.specs.Promise.{usual, made, Safe}
use Rattle.once.specs.Example.{pair, about, end, Breaks, Aged, ByOldest, later_requests, late_request}
use Rattle.once.specs.Example.{later_answers, late_answer, behind_newest, nine}
use Rattle.once.proofs.Checked.{allowed?, allowed-so, by-oldest?, by-oldest-so, may-so}

-- Where all n offered are finished, memory that is not as long as all of them make it breaks the promise.
broken : (W : ℕ) (w : World (pair W)) (n : ℕ) → length w.offered ≡ n → finished (pair W) w ≡ n
    → (length w.controller.memory ≡ length (made (about W) [] (take n w.offered)) → ⊥)
    → Safe (pair W) (about W) W [] w → ⊥
broken W w n o f unlike s =
    let e : s.k ≡ n = omega (arith, s.finished-or, s.offered) in
    unlike (ap length s.memory ∙ ap (λ k. length (made (about W) [] (take k w.offered))) e)

-- 15 made 16: the first of sixteen messages is carried out again.
pub request-age : Breaks 4 (Aged 4 later_requests) late_request
request-age = (
  may-so 4 (Aged 4 later_requests) (allowed? 4 later_requests) (allowed-so 4 later_requests) late_request refl,
  broken 4 (end 4 late_request) 16 refl refl (λ e. omega arith),
)

pub request-end :
    (end 4 late_request).controller.memory
    ≡ 1 ∷ 2 ∷ 3 ∷ 4 ∷ 5 ∷ 6 ∷ 7 ∷ 8 ∷ 9 ∷ 10 ∷ 11 ∷ 12 ∷ 13 ∷ 14 ∷ 15 ∷ 16 ∷ 1 ∷ []
request-end = refl

-- 16 made 17: the seventeenth message is finished with the outcome of the first, and was never carried out.
pub answer-age : Breaks 4 (Aged 4 later_answers) late_answer
answer-age = (
  may-so 4 (Aged 4 later_answers) (allowed? 4 later_answers) (allowed-so 4 later_answers) late_answer refl,
  broken 4 (end 4 late_answer) 17 refl refl (λ e. omega arith),
)

pub answer-end :
    (end 4 late_answer).outcomes
    ≡ 0 ∷ 1 ∷ 2 ∷ 3 ∷ 4 ∷ 5 ∷ 6 ∷ 7 ∷ 8 ∷ 9 ∷ 10 ∷ 11 ∷ 12 ∷ 13 ∷ 14 ∷ 15 ∷ 0 ∷ []
answer-end = refl

-- 16 behind the oldest that waits, not behind any: so it is with the newest of four.
pub newest-age : Breaks 4 (ByOldest 4) behind_newest
newest-age = (
  may-so 4 (ByOldest 4) (by-oldest? 4) (by-oldest-so 4) behind_newest refl,
  broken 4 (end 4 behind_newest) 17 refl refl (λ e. omega arith),
)

pub newest-end :
    (end 4 behind_newest).outcomes
    ≡ 0 ∷ 1 ∷ 2 ∷ 3 ∷ 4 ∷ 5 ∷ 6 ∷ 7 ∷ 8 ∷ 9 ∷ 10 ∷ 11 ∷ 12 ∷ 13 ∷ 14 ∷ 15 ∷ 0 ∷ []
newest-end = refl

-- A window of nine, with the usual ages: the seventeenth message is finished with the outcome of the first.
pub too_wide : Breaks 9 (Aged 9 usual) nine
too_wide = (
  may-so 9 (Aged 9 usual) (allowed? 9 usual) (allowed-so 9 usual) nine refl,
  broken 9 (end 9 nine) 17 refl refl (λ e. omega arith),
)

pub wide-end :
    (end 9 nine).outcomes ≡ 0 ∷ 1 ∷ 2 ∷ 3 ∷ 4 ∷ 5 ∷ 6 ∷ 7 ∷ 8 ∷ 9 ∷ 10 ∷ 11 ∷ 12 ∷ 13 ∷ 14 ∷ 15 ∷ 0 ∷ []
wide-end = refl
