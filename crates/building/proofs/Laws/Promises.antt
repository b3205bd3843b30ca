-- What a refused call leaves: `refused-add-stays`, `refused-close-stays`, `refused-begin-stops`; `no_place`. Assumes nothing.
use Prim.Native.Nat.{ℕ}
use mathlib.Core.Path.{◌≡◌, refl, sym, ◌∙◌}
use mathlib.Core.Bool.{Bool, true, false, not, cond, ◌&&◌, false≢true}
use native.Mathlib.Omega.{arith}
use mathlib.Core.List.{List}
use lib.Dec.{eqb}
use lib.ListN.{length}
use Rattle.header.specs.Refusal.{refusal, unless}
use Rattle.header.proofs.Laws.Refusal.{number_is}
use Rattle.building.specs.declared.record.Building.{Building}
use Rattle.building.specs.Record.{start_ok, reachable}
use Rattle.building.specs.Build.{Built, built_of, gives, long_ok, opened, no_building, begun, add_fault, close_fault, shut, added, added_to, closed, closed_to}
use Rattle.building.specs.Promises.{RefusedAddStays, RefusedCloseStays, Stopped, RefusedBeginStops, over, ResultTells, NoPlace}
use Rattle.building.proofs.Laws.Reach.{reached-exactly}

-- a call whose fault is tested: accepted it gives one record and one output, refused what was there
stays : (t : Bool) (new : Built) (n : ℕ) (b : Building) (out' out : List ℕ) → new.refusal ≡ refusal 0 → ((cond t new (gives n b)).refusal ≡ refusal 0 → ⊥)
    → ((cond t new (gives n b)).building ≡ b) × (cond t out' out ≡ out)
stays true new n b out' out a e = absurd (e a)
stays false new n b out' out a e = (refl, refl)

pub refused-add-stays : RefusedAddStays
unfolding added added_to
refused-add-stays out b asked payload e = stays (eqb (add_fault (length out) b asked (length payload)) 0) _ _ b _ out refl e

pub refused-close-stays : RefusedCloseStays
unfolding closed closed_to
refused-close-stays out b e = stays (eqb (close_fault (length out) b) 0) _ _ b _ out refl e

-- a record that 21's formula does not hold of
module _ (b : Building) (h : reachable b ≡ false) where
  unusable : (room : ℕ) → (long_ok room && reachable b) ≡ false
  unusable room = go (long_ok room)
    where
      go : (t : Bool) → (t && reachable b) ≡ false
      go true = h
      go false = refl

  stopped : Stopped b
  unfolding added added_to add_fault closed closed_to close_fault
  stopped =
      record {
        never = λ r. false≢true (sym h ∙ (reached-exactly b).0 r);
        add = λ out asked payload. (rw (unusable (length out)), rw (unusable (length out)));
        close = λ out. (rw (unusable (length out)), rw (unusable (length out)));
      }

refused-stopped : Stopped no_building
unfolding opened reachable start_ok
refused-stopped = stopped no_building refl

pub refused-begin-stops : RefusedBeginStops
unfolding begun
refused-begin-stops room kind tag wide discovery e = go (long_ok room && start_ok kind tag) e
  where
    go : (t : Bool) → ((cond t (gives 0 (opened kind tag wide discovery)) (gives 21 no_building)).refusal ≡ refusal 0 → ⊥)
        → Stopped (cond t (gives 0 (opened kind tag wide discovery)) (gives 21 no_building)).building
    go true e = absurd (e refl)
    go false e = refused-stopped

-- either way the index is 0
placeless : (t : Bool) (m n : ℕ) (a b : Building) → (cond t (gives m a) (gives n b)).refusal.at ≡ 0
placeless true m n a b = refl
placeless false m n a b = refl

pub no_place : NoPlace
unfolding begun added closed
no_place =
    record {
      begin = λ room kind tag wide discovery. placeless (long_ok room && start_ok kind tag) 0 21 _ no_building;
      add = λ out b asked payload. placeless (eqb (add_fault (length out) b asked (length payload)) 0) 0 _ _ b;
      close = λ out b. placeless (eqb (close_fault (length out) b) 0) 0 _ _ b;
    }

-- accepted it tells the new record; refused, the number, which is not 0
told : (n : ℕ) (new old : Building) → let call = cond (eqb n 0) (gives 0 new) (gives n old) in over old (built_of call) ≡ call
told n new old = go (eqb n 0) refl
  where
    go : (t : Bool) → eqb n 0 ≡ t → let call = cond t (gives 0 new) (gives n old) in over old (built_of call) ≡ call
    go true e = refl
    go false e = rw e refl

pub result-tells : ResultTells
unfolding begun added closed
result-tells =
    record {
      begin = λ old room kind tag wide discovery. begins old (long_ok room && start_ok kind tag) (opened kind tag wide discovery);
      add = λ out b asked payload. told (add_fault (length out) b asked (length payload)) _ b;
      close = λ out b. told (close_fault (length out) b) _ b;
    }
  where
    begins : (old : Building) (t : Bool) (new : Building) → let call = cond t (gives 0 new) (gives 21 no_building) in
        over old (built_of call) ≡ cond (eqb call.refusal.number 0) call (record { refusal = call.refusal; building = old })
    begins old true new = refl
    begins old false new = refl

-- begun, nothing is added; and with nothing added, closing changes nothing
pub begun-empty : (room kind tag : ℕ) (wide discovery : Bool) → (begun room kind tag wide discovery).building.words ≡ 0
unfolding begun opened
begun-empty room kind tag wide discovery = go (long_ok room && start_ok kind tag)
  where
    go : (t : Bool) → (cond t (gives 0 (opened kind tag wide discovery)) (gives 21 no_building)).building.words ≡ 0
    go true = refl
    go false = refl

pub empty-closed : (out : List ℕ) (b : Building) → b.words ≡ 0 → ((closed out b).building ≡ b) × (closed_to out b ≡ out)
unfolding closed close_fault
empty-closed out b e = refused-close-stays out b (go (long_ok (length out) && reachable b) b.closed)
  where
    go : (t u : Bool) → let n : ℕ = unless t 21 (unless (not u && not (eqb b.words 0)) 22 0) in
        (cond (eqb n 0) (gives 0 (shut b)) (gives n b)).refusal ≡ refusal 0 → ⊥
    go false u h = absurd (omega (arith, number_is h))
    go true true h = absurd (omega (arith, number_is h))
    go true false h = absurd (omega (arith, number_is (rw e at h)))
