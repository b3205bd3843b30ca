-- The promise is not empty: the bad night of specs/Example.antt is allowed, of any two of its sends in a row one is
-- good until twenty messages are finished, and its end is what the promise says, all computed. Assumes nothing.
use Prim.Native.Nat.{ℕ, zero, suc, ◌+◌, ◌*◌, ◌≤◌, ◌<◌}
use mathlib.Core.Path.{◌≡◌, refl, subst}
use mathlib.Core.Bool.{Bool, true, ◌&&◌}
use mathlib.Core.Logic.{◌⊎◌, inl, inr}
use mathlib.Core.Option.{none, some}
use mathlib.Core.List.{List, [], ◌∷◌, ◌++◌}
use native.Mathlib.Omega.{arith}
use borrow.Author.Tests.{ltb-true, leb-true, eqb-true}
use lib.Dec.{eqb, ltb, leb}
use lib.ListN.{length, get_or, take, drop}
use Rattle.once.specs.Runs.{run, rounds, before, Often}
use Rattle.once.specs.World.{message, stranger, Event, send, back, World, finished, given, step}
use Rattle.once.specs.Promise.{usual, Good}
use Rattle.once.specs.Tags.{tags_in, Start}
use Rattle.once.specs.Pair.{answer, found, sight}
use Rattle.once.specs.Example.{numbers, controller, sender, pair, about, May, end, Aged, crossed}
use Rattle.once.specs.Example.{evening, first, second, rows, lost, all_rows, night}
use Rattle.once.proofs.Promise.{finished-up}
use Rattle.once.proofs.Checked.{both_true, allowed?, allowed-so, may-so}
use Rattle.once.proofs.Tagged.{tagged-progress}
use Rattle.once.proofs.Pair.{pair-tagged}

-- The answers to the fourth and the second of four messages end none; that to the first ends two, that to the third the
-- others.
pub crossed-none : (end 4 crossed).outcomes ≡ []
crossed-none = refl

pub crossed-two : (end 4 (crossed ++ back 0 ∷ [])).outcomes ≡ 0 ∷ 1 ∷ []
crossed-two = refl

pub crossed-all : (end 4 (crossed ++ back 0 ∷ back 2 ∷ [])).outcomes ≡ 0 ∷ 1 ∷ 2 ∷ 3 ∷ []
crossed-all = refl

-- A message waits before the second round of four, and that round begins with the arrival of its send; its answer is
-- back in it.
abbrev ready? : World (pair 4) → ℕ → Bool
ready? w g =
    ltb (finished (pair 4) w) (length w.offered)
    && (eqb (6 * g + 5) (length w.air) && eqb (13 * g + 4) (length w.answers))

-- Then it is good.
good-so : (w : World (pair 4)) (g : ℕ) → ready? w g ≡ true → Good (pair 4) 4 w (second g)
good-so w g e =
    let p = both_true (ltb (finished (pair 4) w) (length w.offered)) _ e in
    let q = both_true (eqb (6 * g + 5) (length w.air)) _ p.1 in
    let j = eqb-true (6 * g + 5) (length w.air) q.0 in
    let n = eqb-true (13 * g + 4) (length w.answers) q.1 in
    record {
      waits = ltb-true _ _ p.0;
      first = [];
      lent = 1;
      between = take 12 (drop 1 (second g));
      last = drop 14 (second g);
      is = cc;
    }

-- the world after a round
abbrev later : World (pair 4) → List (Event (pair 4)) → World (pair 4)
later w r = run (step (pair 4) 4) w (send 0 ∷ r)

-- every second round is good, and then twenty messages are finished
abbrev goods? : World (pair 4) → ℕ → ℕ → Bool
goods? w zero g = leb 20 (finished (pair 4) w)
goods? w (suc n) g = ready? (later w (first g)) g && goods? (later (later w (first g)) (second g)) n (suc g)

-- of the two rounds from k on one is good, or twenty are finished then
abbrev Two : World (pair 4) → List (List (Event (pair 4))) → ℕ → Type 0
Two w rs k =
    ((j : ℕ) × (k ≤ j) × (j < k + 2) × Good (pair 4) 4 (before (step (pair 4) 4) (send 0) w rs j) (get_or rs j []))
    ⊎ (20 ≤ finished (pair 4) (before (step (pair 4) 4) (send 0) w rs (k + 2)))

-- So of any two in a row one is.
one_of_two : (w : World (pair 4)) (n g : ℕ) → goods? w n g ≡ true → (k : ℕ) → Two w (rows n g ++ lost 30) k
one_of_two w zero g e k =
    let now = leb-true 20 (finished (pair 4) w) e in
    inr (omega (arith, finished-up 4 w (rounds (step (pair 4) 4) (send 0) (take (k + 2) (lost 30)))))
one_of_two w (suc n) g e zero =
    let r = (both_true (ready? (later w (first g)) g) _ e).0 in
    inl (1, omega arith, omega arith, good-so (later w (first g)) g r)
one_of_two w (suc n) g e (suc zero) =
    let r = (both_true (ready? (later w (first g)) g) _ e).0 in
    inl (1, omega arith, omega arith, good-so (later w (first g)) g r)
one_of_two w (suc n) g e (suc (suc k)) =
    let r = (both_true (ready? (later w (first g)) g) _ e).1 in
    by (one_of_two (later (later w (first g)) (second g)) n (suc g) r k)
  where
    by : Two (later (later w (first g)) (second g)) (rows n (suc g) ++ lost 30) k
        → Two w (rows (suc n) g ++ lost 30) (suc (suc k))
    by (inl q) = let l = q.1 in let m = q.2 in inl (suc (suc q.0), omega arith, omega arith, q.3)
    by (inr q) =
        let m : suc (suc (k + 2)) ≡ suc (suc k) + 2 = omega arith in
        let rs = rows (suc n) g ++ lost 30 in
        inr (subst (λ i. 20 ≤ finished (pair 4) (before (step (pair 4) 4) (send 0) w rs i)) m q)

-- The night is allowed.
pub night-allowed : May 4 (Aged 4 usual) night
night-allowed = may-so 4 (Aged 4 usual) (allowed? 4 usual) (allowed-so 4 usual) night refl

-- Of any two sends of the oldest in a row one is good, until twenty are finished.
pub night-often : Often (step (pair 4) 4) (send 0) (Good (pair 4) 4) (λ w. 20 ≤ finished (pair 4) w) 2 (end 4 evening)
    all_rows
night-often k h = one_of_two (end 4 evening) 5 0 refl k

-- The pair is fresh.
pub fresh : Start (pair 4) (about 4) (sight numbers 4) controller sender
fresh =
    record { sound = λ j u e. let z : ◌≡◌ {A = ℕ} 0 1 = cc in absurd (omega arith); nothing = refl; next = refl }

-- So by the promise twenty messages are finished by send 40,
pub night-done : 20 ≤ finished (pair 4) (end 4 night)
night-done =
    tagged-progress (pair-tagged numbers 4 (omega arith) (omega arith)) (omega arith) (omega arith) controller sender
    fresh evening all_rows 20 2 night-allowed night-often (omega arith)

-- and by computation memory is what they make of it, each once, in order,
pub night-memory :
    (end 4 night).controller.memory
    ≡ 1 ∷ 2 ∷ 3 ∷ 4 ∷ 5 ∷ 6 ∷ 7 ∷ 8 ∷ 9 ∷ 10 ∷ 11 ∷ 12 ∷ 13 ∷ 14 ∷ 15 ∷ 16 ∷ 17 ∷ 18 ∷ 19 ∷ 20 ∷ []
night-memory = refl

-- and the outcomes are from that.
pub night-outcomes :
    (end 4 night).outcomes
    ≡ 0 ∷ 1 ∷ 2 ∷ 3 ∷ 4 ∷ 5 ∷ 6 ∷ 7 ∷ 8 ∷ 9 ∷ 10 ∷ 11 ∷ 12 ∷ 13 ∷ 14 ∷ 15 ∷ 16 ∷ 17 ∷ 18 ∷ 19 ∷ []
night-outcomes = refl

-- The stored tags have gone past 15.
pub night-tags : tags_in (end 4 night).controller.stored ≡ 3 ∷ 2 ∷ 1 ∷ 0 ∷ []
night-tags = refl

-- What the controller gave for the first four: nothing to those that came early, and to each repeat the stored answer.
pub night-answers :
    take 12 (end 4 night).answers
    ≡ (message 3, none) ∷ (message 2, none) ∷ (message 1, none) ∷ (stranger, some (found 0))
    ∷ (message 0, some (answer 0 0)) ∷ (message 1, some (answer 1 1))
    ∷ (message 2, some (answer 2 2)) ∷ (message 3, some (answer 3 3))
    ∷ (message 0, some (answer 0 0)) ∷ (message 1, some (answer 1 1))
    ∷ (message 2, some (answer 2 2)) ∷ (message 3, some (answer 3 3)) ∷ []
night-answers = refl

-- And nothing to the message 14 behind the last accepted.
pub night-late : given (pair 4) (end 4 night) 51 ≡ (message 1, none)
night-late = refl
