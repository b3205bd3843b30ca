-- A stage's message is read as itself (`written-is-read`) and has this length (`written-long`); when it is made, and
-- when not. Assumes nothing.
use Prim.Native.Nat.{ℕ, suc, ◌*◌, ◌<◌, ◌≤◌}
use mathlib.Core.Path.{◌≡◌, refl, sym, ap, ◌∙◌}
use mathlib.Core.Bool.{true, false, ◌&&◌}
use mathlib.Core.List.{List, [], ◌∷◌}
use native.Mathlib.Omega.{arith}
use borrow.Author.Tests.{lt-ltb, ne_eqb}
use lib.Dec.{ltb}
use lib.ListN.{length}
use Rattle.word.specs.Words.{put, Words}
use Rattle.word.proofs.Runs.{length-bytes, below-cons, below-take}
use Rattle.header.specs.declared.Kind.{Kind}
use Rattle.header.specs.declared.Kind.TheVariants.{Write}
use Rattle.header.specs.Limits.{limit, limit_bytes, tag_count}
use Rattle.header.proofs.Laws.Header.{kind-back, byte0-lt}
use Rattle.message.specs.Faults.{asks}
use Rattle.message.specs.Request.{Command, written, Fits}
use Rattle.message.proofs.Laws.Pieces.{written_is}
use Rattle.message.proofs.Laws.Round.{read-written}
use Rattle.building.specs.Build.{long_ok}
use Rattle.layout.specs.declared.Stage.{Stage}
use Rattle.layout.specs.declared.Stage.TheVariants.{Clear, Rows, Back, Mark}
use Rattle.layout.specs.Layout.{each_from, row_count, complete, mark_write, set_up_ok, set_up_fault, request_at}
use Rattle.layout.specs.Writing.{make_fault, wrote_of, wrote_to, WrittenIsRead}
use Rattle.layout.specs.Filling.{Below, row_by, Rowed, writes, reads}
use Rattle.layout.proofs.Inner.Commands.{byte_of, Shape, request-long, each_fits, one_each}
use Rattle.layout.proofs.Inner.Commands.{row_words, row_reply, row-shape, mark-shape, row_fits, mark-fits}
use Rattle.layout.proofs.Laws.Layout.{placed, set-up-ok, set-up-refused, set-up-off, row_words_lem}

-- whether a message is made
module _ (start room long tag : ℕ) where
  pub make-fine : set_up_fault start room ≡ 0 → long_ok long ≡ true → tag < tag_count → make_fault start room long tag ≡ 0
  unfolding make_fault
  make-fine e l h = rw (set-up-ok start room e, l, lt-ltb tag tag_count h) refl

  pub make-set-up : set_up_ok start room ≡ false → make_fault start room long tag ≡ 40
  unfolding make_fault
  make-set-up e = rw e refl

  pub make-refused : (set_up_fault start room ≡ 0 → ⊥) → make_fault start room long tag ≡ set_up_fault start room
  make-refused h =
      let e = set-up-off start room h in
      make-set-up e ∙ sym (set-up-refused start room e)

  pub make-begun : set_up_fault start room ≡ 0 → (long_ok long && ltb tag tag_count) ≡ false
      → make_fault start room long tag ≡ 21
  unfolding make_fault
  make-begun e t = rw (set-up-ok start room e, t) refl

-- and what is there then
module _ (stage : Stage) (tag start room : ℕ) (rows out : List ℕ) where
  pub made-fine : make_fault start room (length out) tag ≡ 0
      → wrote_of stage tag start room rows out
      ≡ record { refusal = 0; length = length (written (request_at stage tag start rows)) }
  unfolding wrote_of
  made-fine e = rw e refl

  pub made-to-fine : make_fault start room (length out) tag ≡ 0
      → wrote_to stage tag start room rows out ≡ put out 0 (written (request_at stage tag start rows))
  unfolding wrote_to
  made-to-fine e = rw e refl

  pub made-refused : (make_fault start room (length out) tag ≡ 0 → ⊥)
      → wrote_of stage tag start room rows out ≡ record { refusal = make_fault start room (length out) tag; length = 0 }
  unfolding wrote_of
  made-refused e = rw (ne_eqb _ 0 e) refl

  pub made-to-refused : (make_fault start room (length out) tag ≡ 0 → ⊥) → wrote_to stage tag start room rows out ≡ out
  unfolding wrote_to
  made-to-refused e = rw (ne_eqb _ 0 e) refl

-- a message's length in bytes
abbrev pub bytes_at : Stage → ℕ
bytes_at Clear = 12
bytes_at Rows = 960
bytes_at Back = 192
bytes_at Mark = 12

each-written : {byte0 : ℕ} {f : ℕ → Command} {size answer : ℕ} → Shape byte0 f size answer → (n : ℕ)
    → length (written (record { byte0 = byte0; commands = each_from f 0 (suc n) })) ≡ 4 * (size * suc n)
each-written {byte0} {f} s n =
    ap length (sym (written_is byte0 (each_from f 0 (suc n)))) ∙ length-bytes _
    ∙ ap (λ (k : ℕ). 4 * k) (request-long s n)

pub written-long : (stage : Stage) (tag start : ℕ) (rows : List ℕ) → tag < tag_count
    → length (written (request_at stage tag start rows)) ≡ bytes_at stage
unfolding request_at
written-long Clear tag start rows small =
    rw (one_each (mark_write start 0)) (each-written (mark-shape tag small start 0) 0)
written-long Rows tag start rows small = each-written (row-shape tag small writes start rows) 23
written-long Back tag start rows small = each-written (row-shape tag small reads start rows) 23
written-long Mark tag start rows small =
    rw (one_each (mark_write start complete)) (each-written (mark-shape tag small start complete) 0)

-- it fits in every output that 21 lets by
bytes_fit : (stage : Stage) → bytes_at stage ≤ limit_bytes
bytes_fit Clear = omega arith
bytes_fit Rows = omega arith
bytes_fit Back = omega arith
bytes_fit Mark = omega arith

pub written-fits : (stage : Stage) (tag start : ℕ) (rows : List ℕ) → tag < tag_count
    → length (written (request_at stage tag start rows)) ≤ limit_bytes
written-fits stage tag start rows small = rw (written-long stage tag start rows small) (bytes_fit stage)

-- it may be sent
module _ (tag start : ℕ) (rows : List ℕ) (small : tag < tag_count) (below : Below start) (w : Words rows) where
  rows_fit : {kind : Kind} → Rowed kind → asks kind ≡ true → row_words kind * row_count ≤ limit
      → row_reply kind * row_count ≤ limit
      → Fits (record { byte0 = byte_of kind tag; commands = each_from (row_by kind start rows) 0 row_count })
  rows_fit {kind} r a h k =
      each_fits (row-shape tag small r start rows) (byte0-lt tag kind false false small)
      (rw (kind-back tag kind false false small) a) 23
      (λ i j. row_fits tag small r start rows i below (omega arith) (row_words_lem rows i (omega arith) w)) h k

  mark-fit : (value : ℕ) → value < 4294967296
      → Fits (record { byte0 = byte_of Write tag; commands = mark_write start value ∷ [] })
  mark-fit value h =
      rw (one_each (mark_write start value))
      (each_fits (mark-shape tag small start value) (byte0-lt tag Write false false small)
      (rw (kind-back tag Write false false small) refl) 0
      (λ i k. mark-fits tag small start value below (below-cons 4294967296 value [] h (below-take 4294967296 0 rows w)))
      (omega arith) (omega arith))

  request-fits : (stage : Stage) → Fits (request_at stage tag start rows)
  unfolding request_at
  request-fits Clear = mark-fit 0 (omega arith)
  request-fits Rows = rows_fit writes refl (omega arith) (omega arith)
  request-fits Back = rows_fit reads refl (omega arith) (omega arith)
  request-fits Mark = mark-fit complete (omega arith)

pub written-is-read : WrittenIsRead
written-is-read stage tag start room rows e small w = (
  read-written _ (request-fits tag start rows small (placed start room e).below w stage),
  written-fits stage tag start rows small,
)
