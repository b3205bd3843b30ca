-- What the calls of `build_one` gave, put together: refused by begin or by add, nothing was changed; and close is never
-- refused. Assumes nothing.
use Prim.Native.Nat.{ℕ, ◌*◌, ◌≤◌}
use mathlib.Core.Path.{◌≡◌, refl, ◌∙◌}
use mathlib.Core.Bool.{false}
use mathlib.Core.List.{List, [], ◌∷◌, ◌++◌}
use borrow.Author.Tests.{le-ltb}
use lib.ListN.{length}
use Rattle.std.proofs.Common.{Ok, Err}
use Rattle.header.specs.declared.refusal.Refusal.{Refusal}
use Rattle.header.specs.Limits.{limit}
use Rattle.header.specs.Refusal.{refusal}
use Rattle.header.proofs.Laws.Refusal.{ok_of, err_of, number_is}
use Rattle.building.specs.declared.record.Building.{Building}
use Rattle.building.specs.declared.asked.Asked.{Asked}
use Rattle.building.specs.Record.{byte0_by}
use Rattle.building.specs.Asked.{command_by}
use Rattle.building.specs.Build.{Built, built_of, begun, added, added_to, closed, closed_to}
use Rattle.building.specs.Reach.{Lent}
use Rattle.building.specs.Sequence.{Adding, begins, adds}
use Rattle.building.proofs.Laws.Promises.{refused-add-stays, refused-begin-stops, no_place, begun-empty, empty-closed}
use Rattle.building.proofs.Laws.Fitting.{closed-well, closed-few}
use Rattle.channel_run.specs.Bytes.{first_of, zeros, no_bytes, composed}

plain : (r : Refusal) → r.number ≡ 0 → r.at ≡ 0 → r ≡ refusal 0
plain r e f = λ i. record { number = e i; at = f i }

module _ (kind tag : ℕ) (asked : Asked) (word : ℕ) where
  abbrev begin : Built
  begin = begun (length zeros) kind tag false false

  abbrev add : Built
  add = added zeros begin.building asked (word ∷ [])

  abbrev out : List ℕ
  out = added_to zeros begin.building asked (word ∷ [])

  abbrev close : Built
  close = closed out add.building

  nothing : close.building.words ≡ 0 → closed_to out add.building ≡ zeros → no_bytes ≡ composed kind tag asked word
  unfolding composed
  nothing w o = rw (w, o) refl

  empty : begin.building.words ≡ 0
  empty = begun-empty (length zeros) kind tag false false

  module _ {o : List ℕ} (z : o ≡ zeros) where
    pub begin-stops : {r : Refusal} → Err r ≡ built_of (begun (length o) kind tag false false)
        → no_bytes ≡ composed kind tag asked word
    begin-stops e =
        let k = err_of begin.refusal begin.building (rw z at e) in
        let s = refused-begin-stops (length zeros) kind tag false false (λ y. k.1 (number_is y)) in
        let a = s.add zeros asked (word ∷ []) in
        let c = s.close zeros in
        nothing (rw (a.1, a.0, c.0) empty) (rw (a.1, a.0) c.1)

    module _ {b : Building} (p : Ok b ≡ built_of (begun (length o) kind tag false false)) where
      begun-is : (begin.refusal.number ≡ 0) × (b ≡ begin.building)
      begun-is = ok_of begin.refusal begin.building (rw z at p)

      begun-well : begin.refusal ≡ refusal 0
      begun-well = plain begin.refusal begun-is.0 (no_place.begin (length zeros) kind tag false false)

      pub add-stops : {r : Refusal} → Err r ≡ built_of (added o b asked (word ∷ []))
          → no_bytes ≡ composed kind tag asked word
      add-stops e =
          let k = err_of add.refusal add.building (rw (z, begun-is.1) at e) in
          let s = refused-add-stays zeros begin.building asked (word ∷ []) (λ y. k.1 (number_is y)) in
          let c = empty-closed zeros begin.building empty in
          nothing (rw (s.1, s.0, c.0) empty) (rw (s.1, s.0) c.1)

      module _ {a : Building} {out' : List ℕ} (l : Lent asked (word ∷ [])) (q : Ok a ≡ built_of (added o b asked (word ∷ [])))
          (w : out' ≡ added_to o b asked (word ∷ [])) where
        added_is : a ≡ add.building
        added_is = (ok_of add.refusal add.building (rw (z, begun-is.1) at q)).1

        added-well : add.refusal ≡ refusal 0
        added-well =
            plain add.refusal (ok_of add.refusal add.building (rw (z, begun-is.1) at q)).0
            (no_place.add zeros begin.building asked (word ∷ []))

        out-is : out' ≡ out
        out-is = w ∙ rw (z, begun-is.1) refl

        adding : Adding zeros ([] ++ command_by (byte0_by begin.building) asked (word ∷ []) ∷ []) add.building out
        adding = adds (begins kind tag false false begun-well) asked (word ∷ []) l added-well

        pub close-goes : {r : Refusal} → Err r ≡ built_of (closed out' a) → ⊥
        close-goes e =
            (err_of close.refusal close.building (rw (out-is, added_is) at e)).1 (number_is (closed-well adding refl))

        module _ {c : Building} (k : Ok c ≡ built_of (closed out' a)) where
          shut-is : c ≡ close.building
          shut-is = (ok_of close.refusal close.building (rw (out-is, added_is) at k)).1

          pub few : c.words ≤ limit
          few = rw shut-is (closed-few adding refl)

          pub built : {out'' : List ℕ} → out'' ≡ closed_to out' a → first_of out'' (4 * c.words) ≡ composed kind tag asked word
          unfolding composed
          built e = rw (e, out-is, added_is, shut-is, le-ltb limit close.building.words (closed-few adding refl)) refl
