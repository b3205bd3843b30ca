-- A stage's message being built, command by command: none of the table's is ever refused. Assumes nothing.
use Prim.Native.Nat.{ℕ, suc, ◌+◌, ◌*◌, ◌<◌, ◌≤◌}
use mathlib.Core.Path.{◌≡◌, sym, ap, ◌∙◌}
use mathlib.Core.Bool.{true, false, ◌&&◌}
use mathlib.Core.List.{List, [], ◌∷◌, ◌++◌}
use native.Mathlib.Omega.{arith}
use mathlib.Core.Logic.{◌⊎◌, inl, inr}
use lib.Dec.{ltb}
use lib.ListN.{length}
use Rattle.word.specs.Words.{Words}
use Rattle.std.proofs.Common.{Result}
use Rattle.std.specs.Prelude.{IsOkAnd}
use Rattle.header.specs.declared.refusal.Refusal.{Refusal}
use Rattle.header.specs.declared.Kind.{Kind}
use Rattle.header.specs.declared.Kind.TheVariants.{Write, Read}
use Rattle.header.specs.Limits.{limit, tag_count}
use Rattle.header.specs.Header.{number_of}
use Rattle.header.proofs.Laws.Header.{kind-number, kind-back}
use Rattle.message.specs.Request.{Command, replies, FitsCommand}
use Rattle.message.specs.Exactly.{open_words}
use Rattle.building.specs.declared.record.Building.{Building}
use Rattle.building.specs.declared.asked.Asked.{Asked}
use Rattle.building.specs.Record.{byte0_by}
use Rattle.building.specs.Asked.{command_by}
use Rattle.building.specs.Build.{built_of, long_ok, begun, added, added_to}
use Rattle.building.specs.Reach.{Lent}
use Rattle.building.specs.Sequence.{begins, adds}
use Rattle.building.proofs.Laws.Fitting.{begun-well, begun-byte, command-asked, added-well, added-byte}
use Rattle.layout.specs.declared.Stage.{Stage}
use Rattle.layout.specs.declared.Stage.TheVariants.{Rows, Back}
use Rattle.layout.specs.Layout.{each_from, row_count, row_of, mark_write}
use Rattle.layout.specs.Filling.{Going, Below, row_by, Rowed, writes, reads, Row, RowsAdded, StageAdded}
use Rattle.layout.proofs.Laws.Layout.{row-long, row-write-is, row-read-is, mark-write-is}
use Rattle.layout.proofs.Inner.Wanted.{row_asked, mark_asked}
use Rattle.layout.proofs.Inner.Commands.{byte_of, each-end, one_each, open-long, replies-long}
use Rattle.layout.proofs.Inner.Commands.{row_words, row_reply, row-shape, mark-shape, row_fits, mark-fits}

-- begun
pub begins-well : (o : List ℕ) (kind : Kind) (tag : ℕ) {b : Building} → number_of kind < 3
    → (long_ok (length o) && ltb tag tag_count) ≡ true → tag < tag_count
    → b ≡ (begun (length o) (number_of kind) tag false false).building → Going o kind tag [] b o
begins-well o kind tag k l small e =
    let n : ℕ = number_of kind in
    record {
      adding = rw e (begins n tag false false (begun-well (length o) n tag false false k l));
      small = small;
      byte0 =
          ap byte0_by e ∙ begun-byte (length o) n tag false false k l
          ∙ ap (λ (x : Kind). byte_of x tag) (kind-number kind);
    }

-- one command more
module _ {o : List ℕ} {kind : Kind} {tag : ℕ} {cs : List Command} {b : Building} {out : List ℕ}
    (g : Going o kind tag cs b out) (asked : Asked) (payload : List ℕ) (l : Lent asked payload)
    (first : asked.first < 16) (last : asked.last < 16) (c : Command)
    (e : command_by (byte_of kind tag) asked payload ≡ c) (f : FitsCommand (byte_of kind tag) c)
    (short : length (open_words (byte_of kind tag) (cs ++ c ∷ [])) ≤ limit)
    (few : replies (byte_of kind tag) (cs ++ c ∷ []) ≤ limit) where
  going_more : {result : Result Building Refusal} {out' : List ℕ} → result ≡ built_of (added out b asked payload)
      → out' ≡ added_to out b asked payload → IsOkAnd result (λ b'. Going o kind tag (cs ++ c ∷ []) b' out')
  going_more p q =
      let d : Command = command_by (byte0_by b) asked payload in
      let is : d ≡ c = rw g.byte0 e in
      let f' : FitsCommand (byte0_by b) d = rw (g.byte0, e) f in
      let short' : length (open_words (byte0_by b) (cs ++ d ∷ [])) ≤ limit = rw (g.byte0, e) short in
      let few' : replies (byte0_by b) (cs ++ d ∷ []) ≤ limit = rw (g.byte0, e) few in
      let well = added-well g.adding asked payload first last f' short' few' in
      rw (p, well)
      (record {
        adding = rw (q, ← is) (adds g.adding asked payload l well);
        small = g.small;
        byte0 = added-byte g.adding asked payload first last f' short' few' ∙ g.byte0;
      })

-- what is asked for is the row's command or the mark's, and the message stays within the limit
row-asked : {kind : Kind} → Rowed kind → (tag : ℕ) → tag < tag_count → (start : ℕ) (rows : List ℕ) (i : ℕ)
    → command_by (byte_of kind tag) (row_asked start i) (row_of rows i) ≡ row_by kind start rows i
row-asked writes tag small start rows i =
    command-asked _ _ _ ∙ rw (kind-back tag Write false false small, row-long rows i) (sym (row-write-is start rows i))
row-asked reads tag small start rows i =
    command-asked _ _ _ ∙ rw (kind-back tag Read false false small) (sym (row-read-is start i))

mark-asked : (tag : ℕ) → tag < tag_count → (start value : ℕ)
    → command_by (byte_of Write tag) (mark_asked start) (value ∷ []) ≡ mark_write start value
mark-asked tag small start value =
    command-asked _ _ _ ∙ rw (kind-back tag Write false false small) (sym (mark-write-is start value))

row_room : {kind : Kind} → Rowed kind → (i : ℕ) → i < row_count
    → (row_words kind * suc i ≤ limit) × (row_reply kind * suc i ≤ limit)
row_room writes i h = (omega arith, omega arith)
row_room reads i h = (omega arith, omega arith)

module _ {b : Building} {out payload : List ℕ} {result : Result Building Refusal} {out' : List ℕ} (w : Words payload) where
  pub row-added : {o : List ℕ} {kind : Kind} {tag : ℕ} (start : ℕ) (rows : List ℕ) (i : ℕ) → i < row_count → Below start
      → payload ≡ row_of rows i → result ≡ built_of (added out b (row_asked start i) payload)
      → out' ≡ added_to out b (row_asked start i) payload → Rowed kind → Row o kind tag start rows i b out
      → IsOkAnd result (λ b'. Row o kind tag start rows (i + 1) b' out')
  row-added {kind = kind} {tag = tag} start rows i h below z p q r g =
      let v : Words (row_of rows i) = rw z at w in
      let row : ℕ → Command = row_by kind start rows in
      let n : each_from row 0 i ++ row i ∷ [] ≡ each_from row 0 (suc i) = each-end row i in
      let j : i + 1 ≡ suc i = omega arith in
      let s = row-shape tag g.small r start rows in
      let room = row_room r i h in
      rw (j, ← n)
      (going_more g (row_asked start i) (row_of rows i) (record { address = omega arith; words = v })
      (omega arith) (omega arith) (row i) (row-asked r tag g.small start rows i)
      (row_fits tag g.small r start rows i below h v) (rw n (omega (arith, open-long s (suc i), room)))
      (rw n (omega (arith, replies-long s (suc i), room))) (rw z at p) (rw z at q))

  pub mark-added : {o : List ℕ} {tag : ℕ} (start value : ℕ) → Below start → payload ≡ value ∷ []
      → result ≡ built_of (added out b (mark_asked start) payload) → out' ≡ added_to out b (mark_asked start) payload
      → Going o Write tag [] b out → IsOkAnd result (λ b'. Going o Write tag (mark_write start value ∷ []) b' out')
  mark-added {tag = tag} start value below z p q g =
      let v : Words (value ∷ []) = rw z at w in
      let c : Command = mark_write start value in
      let s = mark-shape tag g.small start value in
      going_more g (mark_asked start) (value ∷ []) (record { address = omega arith; words = v })
      (omega arith) (omega arith) c (mark-asked tag g.small start value)
      (mark-fits tag g.small start value below v) (rw (one_each c) (omega (arith, open-long s 1)))
      (rw (one_each c) (omega (arith, replies-long s 1))) (rw z at p) (rw z at q)

-- a stage of rows, as the calls add them
pub fill-rows : (start : ℕ) (rows : List ℕ) {stage : Stage} (b : Building) (out : List ℕ) (result : Result Building Refusal)
    (out' : List ℕ) → (stage ≡ Rows) ⊎ (stage ≡ Back) → RowsAdded start rows row_count b out result out'
    → StageAdded stage start rows b out result out'
unfolding each_from
fill-rows start rows b out result out' (inl e) f = rw e (λ o tag g. f o Write tag writes g)
fill-rows start rows b out result out' (inr e) f = rw e (λ o tag g. f o Read tag reads g)
