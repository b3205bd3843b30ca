-- Where memory has room for the table, no command fails and no row differs: `well-next`. Assumes nothing.
use Prim.Native.Nat.{ℕ, zero, suc, ◌+◌, ◌*◌, ◌/◌, ◌%◌, ◌≤◌, ◌<◌}
use mathlib.Core.Path.{◌≡◌, refl, sym, ap, subst, ◌∙◌}
use mathlib.Core.List.{List, [], ◌∷◌, ◌++◌}
use native.Mathlib.Omega.{arith}
use lib.ListN.{length, get_or, take, drop, length-drop, take-append-drop}
use lib.Seq.{drop-drop, take_at, drop-append-add, drop-append-le, take-append-le}
use Rattle.header.specs.declared.Kind.TheVariants.{Write, Read}
use Rattle.header.specs.Header.{number_of}
use Rattle.message.specs.Request.{Command}
use Rattle.answer.specs.declared.Status.TheVariants.{Ok}
use Rattle.memory.specs.Moves.{moves_of, after_moves}
use Rattle.memory.proofs.Laws.Moving.{length-after, command-quiet}
use Rattle.std.specs.Prelude.{Some}
use Rattle.exchange.specs.Outcomes.{Result, Outcome, outcome_over}
use Rattle.layout.specs.declared.Stage.{Stage}
use Rattle.layout.specs.declared.Stage.TheVariants.{Clear, Rows, Back, Mark}
use Rattle.layout.specs.Layout.{each_from, row_of, table_of, complete, row_write, row_read, mark_write}
use Rattle.layout.proofs.Laws.Layout.{each_more, row-long, row-read-is}
use Rattle.table.specs.declared.attempt.Next.TheVariants.{Send}
use Rattle.table.specs.Attempt.{next_of}
use Rattle.table.specs.Promises.{Well, AsSent}
use Rattle.table.proofs.Laws.Came.{after-clear, after-rows, after-back, after-mark}
use Rattle.trained.specs.Loading.{rows_in}
use Rattle.trained.specs.Attempts.{unanswered, told_by, Asks}
use Rattle.trained.proofs.Writing.{rows_from, rows_more, rows_long, write-fits, read_fits, mark-fits}
use Rattle.trained.proofs.Stages.{following, Inside, Stands}
use Rattle.trained.proofs.Telling.{outcome_from, outcome-is, first_done}

-- the rows of the table are its rows
row_in : (rows : List ℕ) (n i j : ℕ) → j < n → take 8 (drop (8 * j) (rows_from rows i n)) ≡ row_of rows (i + j)
row_in rows zero i j h = absurd (omega arith)
row_in rows (suc n) i zero h =
    let e : i ≡ i + 0 = omega arith in
    ap (take 8) (rows_more rows i n) ∙ take_at (row_of rows i) (rows_from rows (suc i) n) 8 (row-long rows i)
    ∙ ap (row_of rows) e
row_in rows (suc n) i (suc j) h =
    let e : 8 * suc j ≡ length (row_of rows i) + 8 * j = omega (arith, row-long rows i) in
    let f : suc i + j ≡ i + suc j = omega arith in
    ap (λ (l : List ℕ). take 8 (drop (8 * suc j) l)) (rows_more rows i n)
    ∙ ap (λ (k : ℕ). take 8 (drop k (row_of rows i ++ rows_from rows (suc i) n))) e
    ∙ ap (take 8) (drop-append-add (row_of rows i) (rows_from rows (suc i) n) (8 * j))
    ∙ row_in rows n (suc i) j (omega arith) ∙ ap (row_of rows) f

module _ (start : ℕ) (rows : List ℕ) (z : start % 4 ≡ 0) where
  -- a write to the mark
  mark-well : (v : ℕ) (m : List ℕ) → Inside start rows m
      → Well (told_by (outcome_from Write m (mark_write start v ∷ []))) 0
  mark-well v m l =
      ap (λ (o : Outcome). (told_by o).ending 0)
      (first_done Write m (mark_write start v) [] (mark-fits start z (length m) v l))

  -- the writes of rows
  writes-well : (n i k : ℕ) (m : List ℕ) → Inside start rows m → i + n ≤ 24 → k < n
      → Well (told_by (outcome_from Write m (each_from (row_write start rows) i n))) k
  writes-well zero i k m l h q = absurd (omega arith)
  writes-well (suc n) i k m l h q =
      ap (λ (o : Outcome). (told_by o).ending k) first
      ∙ go k q (λ j. writes-well n (suc i) j m' (omega (arith, long)) (omega arith))
    where
      m' : List ℕ
      m' = after_moves m (moves_of Write (row_write start rows i))

      long : length m' ≡ length m
      long = length-after m (moves_of Write (row_write start rows i))

      later : Outcome
      later = outcome_from Write m' (each_from (row_write start rows) (suc i) n)

      is : Result
      is = record { ending = Some Ok; words = [] }

      first : outcome_from Write m (each_from (row_write start rows) i (suc n)) ≡ is ∷ later
      first =
          ap (outcome_from Write m) (each_more (row_write start rows) i n)
          ∙ first_done Write m (row_write start rows i) _ (write-fits start z (length m) rows i (omega arith))

      go : (k : ℕ) → k < suc n → ((j : ℕ) → j < n → Well (told_by later) j) → Well (told_by (is ∷ later)) k
      go zero q r = refl
      go (suc k) q r = r k (omega arith)

  -- the reads of rows
  abbrev told : List ℕ → Result
  told words = record { ending = Some Ok; words = words }

  abbrev read : List ℕ → ℕ → Result
  read m k = told (take 8 (drop (start / 4 + 8 * k) m))

  reads-well : (n i k : ℕ) (m : List ℕ) → Inside start rows m → i + n ≤ 24 → k < n
      → get_or (outcome_from Read m (each_from (row_read start) i n)) k unanswered ≡ read m (i + k)
  reads-well zero i k m l h q = absurd (omega arith)
  reads-well (suc n) i k m l h q =
      ap (λ (o : Outcome). get_or o k unanswered) first ∙ go k q (λ j. reads-well n (suc i) j m l (omega arith))
    where
      later : Outcome
      later = outcome_from Read m (each_from (row_read start) (suc i) n)

      same : after_moves m (moves_of Read (row_read start i)) ≡ m
      same = command-quiet Read m (row_read start i) (λ e. absurd (omega (arith, ap number_of e)))

      at : (start + 32 * i) / 4 ≡ start / 4 + 8 * i
      at = omega arith

      given : Command → Result
      given c = told (take c.count (drop (c.address / 4) m))

      first : outcome_from Read m (each_from (row_read start) i (suc n)) ≡ read m i ∷ later
      first =
          ap (outcome_from Read m) (each_more (row_read start) i n)
          ∙ first_done Read m (row_read start i) _ (read_fits start z (length m) i (omega arith))
          ∙ ap (λ (x : List ℕ). given (row_read start i) ∷ outcome_from Read x (each_from (row_read start) (suc i) n)) same
          ∙ ap (λ (r : Result). r ∷ later)
          (ap given (row-read-is start i) ∙ ap (λ (k : ℕ). told (take 8 (drop k m))) at)

      go : (k : ℕ) → k < suc n → ((j : ℕ) → j < n → get_or later j unanswered ≡ read m (suc i + j))
          → get_or (read m i ∷ later) k unanswered ≡ read m (i + k)
      go zero q r = let e : i ≡ i + 0 = omega arith in ap (read m) e
      go (suc k) q r = let e : suc i + k ≡ i + suc k = omega arith in r k (omega arith) ∙ ap (read m) e

  -- the rows that stand in memory, each
  row-stands : (m : List ℕ) (j : ℕ) → j < 24 → rows_in start m ≡ table_of rows
      → take 8 (drop (start / 4 + 8 * j) m) ≡ row_of rows j
  row-stands m j h e =
      let x : List ℕ = drop (start / 4) m in
      let y : List ℕ = drop 192 x in
      let l : length (table_of rows) ≡ 192 = rows_long rows 0 24 in
      let s : x ≡ table_of rows ++ y = sym (take-append-drop 192 x) ∙ ap (λ (u : List ℕ). u ++ y) e in
      let i : 0 + j ≡ j = omega arith in
      ap (take 8) (sym (drop-drop (8 * j) (start / 4) m)) ∙ ap (λ (u : List ℕ). take 8 (drop (8 * j) u)) s
      ∙ ap (take 8) (drop-append-le (8 * j) (table_of rows) y (omega (arith, l)))
      ∙ take-append-le 8 (drop (8 * j) (table_of rows)) y (simp length-drop (omega (arith, l)))
      ∙ row_in rows 24 0 j h ∙ ap (row_of rows) i

  pub well-clear : (m d : List ℕ) → Asks start rows Clear d → Inside start rows m
      → next_of rows Clear (told_by (outcome_over m d)) ≡ Send Rows
  well-clear m d a l =
      after-clear rows _ (subst (λ (o : Outcome). Well (told_by o) 0) (sym (outcome-is a m)) (mark-well 0 m l))

  pub well-next : (stage : Stage) (m d : List ℕ) → Asks start rows stage d → Inside start rows m
      → Stands start rows (Send stage) m → next_of rows stage (told_by (outcome_over m d)) ≡ following stage
  well-next Clear m d a l h = well-clear m d a l
  well-next Mark m d a l h =
      after-mark rows _ (subst (λ (o : Outcome). Well (told_by o) 0) (sym (outcome-is a m)) (mark-well complete m l))
  well-next Rows m d a l h =
      after-rows rows _
      (λ k q.
      subst (λ (o : Outcome). Well (told_by o) k) (sym (outcome-is a m))
      (writes-well 24 0 k m l (omega arith) (omega arith)))
  well-next Back m d a l h =
      after-back rows _ (λ k q. subst (λ (o : Outcome). AsSent rows (told_by o) k) (sym (outcome-is a m)) (back k q))
    where
      back : (k : ℕ) → k < 24 → AsSent rows (told_by (outcome_from Read m (each_from (row_read start) 0 24))) k
      back k q =
          let e = reads-well 24 0 k m l (omega arith) (omega arith) in
          let i : 0 + k ≡ k = omega arith in (
            ap (λ (x : Result). x.ending) e,
            ap (λ (x : Result). x.words) e ∙ ap (λ (j : ℕ). take 8 (drop (start / 4 + 8 * j) m)) i
                ∙ row-stands m k (omega arith) h.1,
          )
