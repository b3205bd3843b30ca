-- What the four messages make of memory: `cleared`, `rowed`, `backed`, `marked`. Assumes nothing.
use Prim.Native.Nat.{ℕ, zero, suc, ◌+◌, ◌*◌, ◌/◌, ◌%◌, ◌≤◌, ◌<◌}
use mathlib.Core.Path.{◌≡◌, refl, sym, ap, ◌∙◌}
use mathlib.Core.Bool.{Bool, true, false, cond}
use mathlib.Core.List.{List, [], ◌∷◌, ◌++◌}
use native.Mathlib.Omega.{arith}
use lib.ListN.{length, get_or, set, take, drop, length-append, length-drop}
use lib.Seq.{get_or-drop, get_or-set_same, drop-set-add, take-set-le, take-add, take-suc, take-length, length-take-le}
use Rattle.word.specs.Words.{Words, put}
use Rattle.word.specs.Enables.{merged}
use Rattle.word.proofs.Runs.{put-none, put-put, length-put, set_next, below-nth, put_one}
use Rattle.word.proofs.Parts.{put-read, put-behind}
use Rattle.word.proofs.Places.{merge-whole}
use Rattle.header.specs.declared.Kind.{Kind}
use Rattle.header.specs.declared.Kind.TheVariants.{Write, Read}
use Rattle.header.specs.Header.{number_of, kind_of}
use Rattle.message.specs.Request.{Command, Request}
use Rattle.message.specs.Walk.{request_of}
use Rattle.message.proofs.Laws.Back.{asked_is}
use Rattle.memory.specs.Moves.{fails, stores, moves_of, moves, after_moves, memory_after}
use Rattle.memory.proofs.Laws.Moving.{after_none, after-append, inside-fits, write-made, write-one}
use Rattle.memory.proofs.Laws.Promises.{moves-none, moves_more, memory-by, quiet}
use Rattle.layout.specs.declared.Stage.{Stage}
use Rattle.layout.specs.declared.Stage.TheVariants.{Clear, Rows, Back, Mark}
use Rattle.layout.specs.Layout.{each_from, row_of, joined, table_of, complete, row_write, row_read, mark_write}
use Rattle.layout.specs.Layout.{kind_at, commands_at}
use Rattle.layout.specs.Layout.{request_at}
use Rattle.layout.proofs.Laws.Layout.{each_none, each_more, joined-none, joined-more, row-long, row_words_lem}
use Rattle.layout.proofs.Laws.Layout.{row-write-is, row-read-is, mark-write-is, request-kind, request-commands}
use Rattle.trained.specs.Loading.{mark_in, rows_in}
use Rattle.trained.specs.Attempts.{Asks}

-- eight words written whole
row_made : (m ws : List ℕ) (at : ℕ) → Words ws → length ws ≡ 8 → at + 8 ≤ length m
    → after_moves m (stores at 15 15 ws) ≡ put m at ws
row_made m ws at h n l =
    let whole : (old i : ℕ) → merged old (get_or ws i 0) 15 ≡ get_or ws i 0 =
    λ old i. merge-whole old (get_or ws i 0) (below-nth 4294967296 ws i h (omega arith)) in
    let m₁ : List ℕ = set m at (merged (get_or m at 0) (get_or ws 0 0) 15) in
    let m₂ : List ℕ = put m₁ (at + 1) (take 6 (drop 1 ws)) in
    let e : set m₂ (at + 1 + 6) (merged (get_or m₂ (at + 1 + 6) 0) (get_or ws 7 0) 15)
    ≡ after_moves m (stores at 15 15 (take 8 ws)) =
    write-made m ws at 0 8 15 15 refl refl refl refl refl refl refl h (omega arith) (omega arith) (omega arith) in
    let all : take 8 ws ≡ ws = ap (λ (k : ℕ). take k ws) (sym n) ∙ take-length ws in
    let one : length (take 1 ws) ≡ 1 = length-take-le 1 ws (omega arith) in
    let six : length (take 6 (drop 1 ws)) ≡ 6 = length-take-le 6 (drop 1 ws) (simp length-drop (omega arith)) in
    let first : m₁ ≡ put m at (take 1 ws) =
    ap (set m at) (whole _ 0) ∙ put_one m at (get_or ws 0 0) (omega arith)
    ∙ ap (put m at) (sym (take-suc ws 0 0 (omega arith))) in
    let between : put (put m at (take 1 ws)) (at + 1) (take 6 (drop 1 ws)) ≡ put m at (take 7 ws) =
    ap (λ (k : ℕ). put (put m at (take 1 ws)) (at + k) (take 6 (drop 1 ws))) (sym one)
    ∙ put-put m at (take 1 ws) (take 6 (drop 1 ws)) (omega arith) ∙ ap (put m at) (sym (take-add 1 6 ws)) in
    let i : at + 1 + 6 ≡ at + 7 = omega arith in
    ap (λ (x : List ℕ). after_moves m (stores at 15 15 x)) (sym all) ∙ sym e
    ∙ ap (set m₂ (at + 1 + 6)) (whole _ 7)
    ∙ ap (λ (x : List ℕ). set x (at + 1 + 6) (get_or ws 7 0))
    (ap (λ (x : List ℕ). put x (at + 1) (take 6 (drop 1 ws))) first ∙ between)
    ∙ ap (λ (k : ℕ). set (put m at (take 7 ws)) k (get_or ws 7 0)) i
    ∙ set_next m at ws 7 (omega arith) (omega arith) ∙ ap (put m at) all

-- a word written whole
word_made : (m : List ℕ) (at v last : ℕ) → v < 4294967296 → after_moves m (stores at 15 last (v ∷ [])) ≡ set m at v
word_made m at v last h =
    sym (write-one m (v ∷ []) at 0 1 15 last refl refl refl refl (omega arith))
    ∙ ap (set m at) (merge-whole (get_or m at 0) v h)

-- n rows of the table, from row i on
abbrev pub rows_from : List ℕ → ℕ → ℕ → List ℕ
rows_from rows i n = joined (each_from (row_of rows) i n)

module _ (rows : List ℕ) where
  pub rows_none : (i : ℕ) → rows_from rows i 0 ≡ []
  rows_none i = ap joined (each_none (row_of rows) i) ∙ joined-none

  pub rows_more : (i n : ℕ) → rows_from rows i (suc n) ≡ row_of rows i ++ rows_from rows (suc i) n
  rows_more i n = ap joined (each_more (row_of rows) i n) ∙ joined-more (row_of rows i) (each_from (row_of rows) (suc i) n)

  pub rows_long : (i n : ℕ) → length (rows_from rows i n) ≡ 8 * n
  rows_long i zero = ap length (rows_none i)
  rows_long i (suc n) =
      ap length (rows_more i n) ∙ length-append (row_of rows i) (rows_from rows (suc i) n)
      ∙ omega (arith, row-long rows i, rows_long (suc i) n)

-- the commands of the table: where they fit, none fails
module _ (start : ℕ) (z : start % 4 ≡ 0) (size : ℕ) where
  pub write-fits : (rows : List ℕ) (i : ℕ) → start / 4 + 8 * i + 8 ≤ size
      → fails Write size (row_write start rows i) ≡ false
  write-fits rows i l =
      ap (fails Write size) (row-write-is start rows i)
      ∙ inside-fits size (start + 32 * i) 8 (omega arith) (omega arith)

  pub read_fits : (i : ℕ) → start / 4 + 8 * i + 8 ≤ size → fails Read size (row_read start i) ≡ false
  read_fits i l =
      ap (fails Read size) (row-read-is start i) ∙ inside-fits size (start + 32 * i) 8 (omega arith) (omega arith)

  pub mark-fits : (v : ℕ) → start / 4 + 193 ≤ size → fails Write size (mark_write start v) ≡ false
  mark-fits v l =
      ap (fails Write size) (mark-write-is start v) ∙ inside-fits size (start + 768) 1 (omega arith) (omega arith)

-- a row written, and a word written to the mark
pub mark-moved : (start v : ℕ) (m : List ℕ) → start % 4 ≡ 0 → v < 4294967296
    → after_moves m (moves_of Write (mark_write start v)) ≡ set m (start / 4 + 192) v
mark-moved start v m z h =
    let a : (start + 768) / 4 ≡ start / 4 + 192 = omega arith in
    ap (λ (c : Command). after_moves m (moves_of Write c)) (mark-write-is start v)
    ∙ ap (λ (i : ℕ). after_moves m (stores i 15 0 (v ∷ []))) a ∙ word_made m (start / 4 + 192) v 0 h

row_moved : (start : ℕ) (rows : List ℕ) (i : ℕ) (m : List ℕ) → start % 4 ≡ 0 → Words rows → i < 24
    → start / 4 + 8 * i + 8 ≤ length m
    → after_moves m (moves_of Write (row_write start rows i)) ≡ put m (start / 4 + 8 * i) (row_of rows i)
row_moved start rows i m z t h l =
    let a : (start + 32 * i) / 4 ≡ start / 4 + 8 * i = omega arith in
    ap (λ (c : Command). after_moves m (moves_of Write c)) (row-write-is start rows i)
    ∙ ap (λ (k : ℕ). after_moves m (stores k 15 15 (row_of rows i))) a
    ∙ row_made m (row_of rows i) (start / 4 + 8 * i) (row_words_lem rows i h t) (row-long rows i) l

-- the moves of a command that does not fail, and of those behind it; one that fails stops all
module _ (kind : Kind) (m : List ℕ) (size : ℕ) (c : Command) (cs : List Command) where
  moves-are : {b : Bool} → fails kind size c ≡ b
      → moves kind size (c ∷ cs) ≡ cond b [] (moves_of kind c ++ moves kind size cs)
  moves-are e = moves_more kind size c cs ∙ ap (λ (b : Bool). cond b [] (moves_of kind c ++ moves kind size cs)) e

  pub moved_on : fails kind size c ≡ false
      → after_moves m (moves kind size (c ∷ cs)) ≡ after_moves (after_moves m (moves_of kind c)) (moves kind size cs)
  moved_on e = ap (after_moves m) (moves-are e) ∙ after-append m (moves_of kind c) (moves kind size cs)

  pub stopped : fails kind size c ≡ true → after_moves m (moves kind size (c ∷ cs)) ≡ m
  stopped e = ap (after_moves m) (moves-are e) ∙ after_none m

-- the writes of n rows
rows_made : (start size : ℕ) (rows : List ℕ) → start % 4 ≡ 0 → Words rows → (i n : ℕ) (m : List ℕ) → length m ≡ size
    → i + n ≤ 24
    → start / 4 + 8 * (i + n) ≤ size
    → after_moves m (moves Write size (each_from (row_write start rows) i n))
    ≡ put m (start / 4 + 8 * i) (rows_from rows i n)
rows_made start size rows z t i zero m e h l =
    ap (λ (cs : List Command). after_moves m (moves Write size cs)) (each_none (row_write start rows) i)
    ∙ ap (after_moves m) (moves-none Write size) ∙ after_none m ∙ sym (put-none m (start / 4 + 8 * i))
    ∙ ap (put m (start / 4 + 8 * i)) (sym (rows_none rows i))
rows_made start size rows z t i (suc n) m e h l =
    let at : ℕ = start / 4 + 8 * i in
    let r = row-long rows i in
    let m' : List ℕ = put m at (row_of rows i) in
    let long : length m' ≡ size = length-put m at (row_of rows i) (omega arith) ∙ e in
    let b : start / 4 + 8 * suc i ≡ at + length (row_of rows i) = omega arith in
    ap (λ (cs : List Command). after_moves m (moves Write size cs)) (each_more (row_write start rows) i n)
    ∙ moved_on Write m size (row_write start rows i) _ (write-fits start z size rows i (omega arith))
    ∙ ap (λ (x : List ℕ). after_moves x (moves Write size (each_from (row_write start rows) (suc i) n)))
    (row_moved start rows i m z t (omega arith) (omega arith))
    ∙ rows_made start size rows z t (suc i) n m' long (omega arith) (omega arith)
    ∙ ap (λ (k : ℕ). put m' k (rows_from rows (suc i) n)) b
    ∙ put-put m at (row_of rows i) (rows_from rows (suc i) n) (omega (arith, rows_long rows (suc i) n))
    ∙ ap (put m at) (sym (rows_more rows i n))

-- a message of a stage asks for that stage's request
module _ {start : ℕ} {rows : List ℕ} {stage : Stage} {d : List ℕ} (a : Asks start rows stage d) where
  abbrev request : Request
  request = request_at stage a.tag start rows

  pub asks-kind : kind_of (request_of d).byte0 ≡ kind_at stage
  asks-kind =
      ap (λ (r : Request). kind_of r.byte0) (asked_is d request a.means)
      ∙ request-kind stage a.tag start rows a.small

  pub asks-commands : (request_of d).commands ≡ commands_at stage start rows
  asks-commands =
      ap (λ (r : Request). r.commands) (asked_is d request a.means) ∙ request-commands stage a.tag start rows

  -- what it makes of memory
  pub carry-is : (m : List ℕ)
      → memory_after (request_of d) m ≡ after_moves m (moves (kind_at stage) (length m) (commands_at stage start rows))
  carry-is m =
      memory-by (request_of d) m
      ∙ ap (λ (k : Kind). after_moves m (moves k (length m) (request_of d).commands)) asks-kind
      ∙ ap (λ (cs : List Command). after_moves m (moves (kind_at stage) (length m) cs)) asks-commands

-- a word written to the mark
mark_made : (start v : ℕ) (m : List ℕ) → start % 4 ≡ 0 → v < 4294967296 → start / 4 + 193 ≤ length m
    → after_moves m (moves Write (length m) (mark_write start v ∷ [])) ≡ set m (start / 4 + 192) v
mark_made start v m z h l =
    moved_on Write m (length m) (mark_write start v) [] (mark-fits start z (length m) v l)
    ∙ ap (after_moves (after_moves m (moves_of Write (mark_write start v)))) (moves-none Write (length m))
    ∙ after_none (after_moves m (moves_of Write (mark_write start v))) ∙ mark-moved start v m z h

module _ {start : ℕ} {rows : List ℕ} (z : start % 4 ≡ 0) (t : Words rows) {d : List ℕ} (m : List ℕ)
    (l : start / 4 + 193 ≤ length m) where
  pub cleared : Asks start rows Clear d → memory_after (request_of d) m ≡ set m (start / 4 + 192) 0
  cleared a = carry-is a m ∙ mark_made start 0 m z (omega arith) l

  pub marked : Asks start rows Mark d → memory_after (request_of d) m ≡ set m (start / 4 + 192) complete
  marked a = carry-is a m ∙ mark_made start complete m z (omega arith) l

  pub rowed : Asks start rows Rows d → memory_after (request_of d) m ≡ put m (start / 4) (table_of rows)
  rowed a =
      let e : start / 4 + 8 * 0 ≡ start / 4 = omega arith in
      carry-is a m ∙ rows_made start (length m) rows z t 0 24 m refl (omega arith) (omega arith)
      ∙ ap (λ (k : ℕ). put m k (table_of rows)) e

pub backed : {start : ℕ} {rows d : List ℕ} (m : List ℕ) → Asks start rows Back d → memory_after (request_of d) m ≡ m
backed {start} {rows} {d} m a = quiet (request_of d) m (λ e. read_no (sym (asks-kind a) ∙ e))
  where
    read_no : Read ≡ Write → ⊥
    read_no e = absurd (omega (arith, ap number_of e))

-- and the table in it
module _ (start : ℕ) (m : List ℕ) where
  pub mark_set : (v : ℕ) → start / 4 + 193 ≤ length m → mark_in start (set m (start / 4 + 192) v) ≡ v
  mark_set v l = get_or-set_same m (start / 4 + 192) v 0 (omega arith)

  pub rows-set : (v : ℕ) → rows_in start (set m (start / 4 + 192) v) ≡ rows_in start m
  rows-set v = rw (drop-set-add (start / 4) m 192 v) (take-set-le 192 (drop (start / 4) m) 192 v (omega arith))

  module _ (rows : List ℕ) (l : start / 4 + 193 ≤ length m) where
    table-long : length (table_of rows) ≡ 192
    table-long = rows_long rows 0 24

    pub mark-put : mark_in start (put m (start / 4) (table_of rows)) ≡ mark_in start m
    mark-put =
        let b : ℕ = start / 4 + 192 in
        let i : b + 0 ≡ b = omega arith in
        let at : (x : List ℕ) → get_or x b 0 ≡ get_or (drop b x) 0 0 =
        λ x. ap (λ (k : ℕ). get_or x k 0) (sym i) ∙ sym (get_or-drop b x 0 0) in
        at (put m (start / 4) (table_of rows))
        ∙ ap (λ (x : List ℕ). get_or x 0 0)
        (put-behind m (start / 4) (table_of rows) (omega arith) b (omega (arith, table-long)))
        ∙ sym (at m)

    pub rows-put : rows_in start (put m (start / 4) (table_of rows)) ≡ table_of rows
    rows-put =
        ap (λ (k : ℕ). take k (drop (start / 4) (put m (start / 4) (table_of rows)))) (sym table-long)
        ∙ put-read m (start / 4) (table_of rows) (omega arith)
