-- Begin in place: `begin-in-place`. Assumes nothing.
use mathlib.Core.Path.{◌≡◌, refl}
use mathlib.Core.Bool.{Bool, true, false, cond}
use borrow.Author.Tests.{eq-eqb, ne_eqb}
use lib.Dec.{eqb}
use Rattle.building.specs.declared.record.Building.{Building}
use Rattle.building.specs.Build.{Built}
use Rattle.building.specs.Build.{begun}
use Rattle.loader.specs.Build.{leaves, begun_over, BeginInPlace}

same-refusal : (t : Bool) (new : Built) (old : Building) → (cond t new (leaves new.refusal old)).refusal ≡ new.refusal
same-refusal true new old = refl
same-refusal false new old = refl

pub begin-in-place : BeginInPlace
unfolding begun_over
begin-in-place room old kind tag wide discovery =
    let new = begun room kind tag wide discovery in
    (same-refusal (eqb new.refusal.number 0) new old, λ e. rw (eq-eqb _ 0 e), λ e. rw (ne_eqb _ 0 e))
