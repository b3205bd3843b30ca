-- What the steps of `write` come to: the set-up, begin, the commands, close. Assumes nothing.
use Prim.Native.Nat.{ℕ, ◌*◌, ◌<◌, ◌≤◌}
use mathlib.Core.Path.{◌≡◌, refl, sym, ap, ◌∙◌}
use mathlib.Core.Bool.{Bool, true, false, ◌&&◌, and-eq-true_iff}
use mathlib.Core.List.{List, [], ◌++◌}
use native.Mathlib.Omega.{arith}
use borrow.Author.Tests.{ltb-true}
use lib.Dec.{ltb}
use lib.ListN.{length, take, drop, take-append-drop}
use Rattle.word.specs.Words.{put}
use Rattle.word.proofs.Runs.{put_front}
use Rattle.word.proofs.Parts.{put-behind}
use borrow.Author.Tests.{ne_eqb}
use Rattle.std.proofs.Common.{Result, Ok, Err}
use Rattle.header.specs.declared.refusal.Refusal.{Refusal}
use Rattle.header.specs.Refusal.{refusal, as_result}
use Rattle.header.specs.Limits.{limit_bytes, tag_count}
use Rattle.header.specs.Header.{number_of}
use Rattle.header.proofs.Laws.Refusal.{number_is, ok_of, err_of}
use Rattle.message.specs.Request.{none, written}
use Rattle.building.specs.declared.record.Building.{Building}
use Rattle.building.specs.Build.{Built, built_of, long_ok, begun, closed, closed_to}
use Rattle.building.proofs.Laws.Fitting.{begun-refused, begun-well, closed-well, closed-long}
use Rattle.building.proofs.Laws.Sequence.{built-is-read}
use Rattle.layout.specs.declared.Stage.{Stage}
use Rattle.layout.specs.declared.Stage.TheVariants.{Clear, Rows, Back, Mark}
use Rattle.layout.specs.Layout.{each_from, set_up_fault, kind_at, commands_at, request_at}
use Rattle.layout.specs.Writing.{length_of, make_fault, wrote_of, wrote_to}
use Rattle.layout.specs.Filling.{Going, StageAdded}
use Rattle.layout.proofs.Inner.Filling.{begins-well}
use Rattle.layout.proofs.Laws.Writing.{make-fine, make-refused, make-begun}
use Rattle.layout.proofs.Laws.Writing.{made-fine, made-to-fine, made-refused, made-to-refused, written-fits}

some-commands : (stage : Stage) (start : ℕ) (rows : List ℕ) → none (commands_at stage start rows) ≡ false
unfolding each_from
some-commands Clear start rows = refl
some-commands Rows start rows = refl
some-commands Back start rows = refl
some-commands Mark start rows = refl

kind-small : (stage : Stage) → number_of (kind_at stage) < 3
kind-small Clear = omega arith
kind-small Rows = omega arith
kind-small Back = omega arith
kind-small Mark = omega arith

-- bytes that stand first, before what was there
put_is : (l s t : List ℕ) → take (length s) t ≡ s → drop (length s) t ≡ drop (length s) l → t ≡ put l 0 s
put_is l s t e f =
    let p : List ℕ = put l 0 s in
    let q : take (length s) p ++ drop (length s) p ≡ s ++ drop (length s) l =
    rw (put_front l s, put-behind l 0 s (omega arith) (length s) (omega arith)) refl in
    sym (take-append-drop (length s) t) ∙ rw (e, f) (sym q) ∙ take-append-drop (length s) p

module _ (stage : Stage) (tag start room : ℕ) (rows out : List ℕ) where
  -- what `write` must give back, and the output then
  abbrev Meets : Result ℕ Refusal → List ℕ → Type 0
  Meets made out' =
      (made ≡ length_of (wrote_of stage tag start room rows out)) × (out' ≡ wrote_to stage tag start room rows out)

  refused-by : {number : ℕ} → make_fault start room (length out) tag ≡ number → (number ≡ 0 → ⊥)
      → Meets (Err (refusal number)) out
  refused-by {number} e h =
      let z : make_fault start room (length out) tag ≡ 0 → ⊥ = λ x. h (sym e ∙ x) in (
        rw (made-refused stage tag start room rows out z, e, ne_eqb number 0 h) refl,
        sym (made-to-refused stage tag start room rows out z),
      )

  pub set-up-stops : {r : Refusal} → Err r ≡ as_result (refusal (set_up_fault start room)) → Meets (Err r) out
  set-up-stops e =
      let k = err_of (refusal (set_up_fault start room)) tt e in
      rw k.0 (refused-by (make-refused start room (length out) tag k.1) k.1)

  -- what begin gives, behind a set-up that 40 lets by
  module _ (u : Ok tt ≡ as_result (refusal (set_up_fault start room))) {kind : ℕ} (k : kind ≡ number_of (kind_at stage)) where
    abbrev well : Bool
    well = long_ok (length out) && ltb tag tag_count

    abbrev begins : Built
    begins = begun (length out) kind tag false false

    fine : set_up_fault start room ≡ 0
    fine = (ok_of (refusal (set_up_fault start room)) tt u).0

    small-kind : kind < 3
    small-kind = rw k (kind-small stage)

    pub begin-stops : {r : Refusal} → Err r ≡ built_of begins → Meets (Err r) out
    begin-stops {r} p = go well refl
      where
        go : (t : Bool) → well ≡ t → Meets (Err r) out
        go true z = absurd ((err_of begins.refusal begins.building p).1 (number_is (begun-well (length out) kind tag false false small-kind z)))
        go false z =
            rw ((err_of begins.refusal begins.building p).0 ∙ begun-refused (length out) kind tag false false small-kind z)
            (refused-by (make-begun start room (length out) tag fine z) (λ e. omega arith))

    module _ {b : Building} (p : Ok b ≡ built_of begins) where
      abbrev begun' : (begins.refusal.number ≡ 0) × (b ≡ begins.building)
      begun' = ok_of begins.refusal begins.building p

      passes : well ≡ true
      passes = go well refl
        where
          go : (t : Bool) → well ≡ t → well ≡ true
          go true z = z
          go false z =
              absurd (omega (arith, begun'.0, number_is (begun-refused (length out) kind tag false false small-kind z)))

      both : (long_ok (length out) ≡ true) × (ltb tag tag_count ≡ true)
      both = (and-eq-true_iff (long_ok (length out)) (ltb tag tag_count)).0 passes

      begin-small : tag < tag_count
      begin-small = ltb-true tag tag_count both.1

      begin-makes : make_fault start room (length out) tag ≡ 0
      begin-makes = make-fine start room (length out) tag fine both.0 begin-small

      begin-goes : Going out (kind_at stage) tag [] b out
      begin-goes =
          begins-well out (kind_at stage) tag (kind-small stage) passes begin-small (begun'.1 ∙ rw k refl)

      -- no command is refused
      pub fill-goes : (r : Refusal) (out₁ : List ℕ) → StageAdded stage start rows b out (Err r) out₁ → ⊥
      fill-goes r out₁ f = f out tag begin-goes

      -- added to and closed, the message's bytes stand there
      module _ (b₁ : Building) (out₁ : List ℕ) (f : StageAdded stage start rows b out (Ok b₁) out₁) where
        filled : Going out (kind_at stage) tag (commands_at stage start rows) b₁ out₁
        filled = f out tag begin-goes

        well-closed : (closed out₁ b₁).refusal ≡ refusal 0
        well-closed = closed-well filled.adding (some-commands stage start rows)

        pub close-goes : {r : Refusal} → Err r ≡ built_of (closed out₁ b₁) → ⊥
        close-goes q =
            (err_of (closed out₁ b₁).refusal (closed out₁ b₁).building q).1 (number_is well-closed)

        module _ {shut : Building} (q : Ok shut ≡ built_of (closed out₁ b₁)) where
          is : shut ≡ (closed out₁ b₁).building
          is = (ok_of (closed out₁ b₁).refusal (closed out₁ b₁).building q).1

          closed-bytes : 4 * shut.words ≡ length (written (request_at stage tag start rows))
          unfolding request_at
          closed-bytes = rw (is, ← filled.byte0) (closed-long filled.adding (some-commands stage start rows))

          pub closed-few : 4 * shut.words ≤ limit_bytes
          closed-few = rw closed-bytes (written-fits stage tag start rows begin-small)

          pub made-well : {out₂ : List ℕ} → out₂ ≡ closed_to out₁ b₁ → Meets (Ok (4 * shut.words)) out₂
          unfolding request_at
          made-well {out₂} o =
              let m = built-is-read out _ b₁ out₁ filled.adding well-closed in
              let w : List ℕ = written (request_at stage tag start rows) in
              let n : length w ≡ 4 * (closed out₁ b₁).building.words =
              sym closed-bytes ∙ ap (λ (x : Building). 4 * x.words) is in
              let front : take (length w) out₂ ≡ w = rw (n, o) (m.bytes ∙ rw filled.byte0 refl) in
              let behind : drop (length w) out₂ ≡ drop (length w) out = rw (n, o) m.kept in (
                rw (closed-bytes, made-fine stage tag start room rows out begin-makes) refl,
                put_is out w out₂ front behind ∙ sym (made-to-fine stage tag start room rows out begin-makes),
              )
