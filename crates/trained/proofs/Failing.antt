-- The theorems of specs/Failing.antt. Assumes nothing.
use Prim.Native.Nat.{ℕ, zero, suc, ◌+◌, ◌*◌, ◌/◌, ◌%◌, ◌≤◌, ◌<◌}
use mathlib.Core.Path.{◌≡◌, refl, sym, ap, subst, ◌∙◌}
use mathlib.Core.Bool.{Bool, true, false, cond, false≢true}
use mathlib.Core.List.{List, [], ◌∷◌}
use native.Mathlib.Omega.{arith}
use native.Mathlib.Nat.{add-zero, zero-add}
use borrow.Author.Tests.{ltb-true, ltb-false}
use lib.Dec.{ltb}
use lib.ListN.{length, get_or, set, length-set, get_or-eq_default}
use lib.Seq.{get_or-set_same}
use Rattle.header.specs.declared.Kind.{Kind}
use Rattle.header.specs.declared.Kind.TheVariants.{Write, Read}
use Rattle.header.specs.Header.{number_of, kind_of}
use Rattle.message.specs.Request.{Command}
use Rattle.message.specs.Walk.{request_of}
use Rattle.answer.specs.declared.Status.{Status}
use Rattle.answer.specs.declared.Status.TheVariants.{Ok, Timeout, Error}
use Rattle.memory.specs.Moves.{fails, moves_of, moves, after_moves}
use Rattle.memory.proofs.Laws.Moving.{after_none, length-after, command-quiet}
use Rattle.memory.proofs.Laws.LastWrite.{stores-other}
use Rattle.memory.proofs.Laws.Promises.{moves-none, memory-by}
use Rattle.std.specs.Prelude.{Option, Some, None}
use Rattle.exchange.specs.Outcomes.{Outcome, outcome_over}
use Rattle.layout.specs.declared.Stage.{Stage}
use Rattle.layout.specs.declared.Stage.TheVariants.{Clear, Rows, Back, Mark}
use Rattle.layout.specs.Layout.{each_from, row_of, complete, row_write, row_read, mark_write, kind_at, commands_at}
use Rattle.layout.proofs.Laws.Layout.{placed, each_none, each_more, row-long, row-write-is}
use Rattle.table.specs.declared.attempt.Next.{Next}
use Rattle.table.specs.declared.attempt.Next.TheVariants.{Send, Done, Ended}
use Rattle.table.specs.Attempt.{Told, is_ok, next_of}
use Rattle.table.specs.Promises.{came_to}
use Rattle.table.proofs.Laws.Came.{well-on, on-well, not-clear, after-mark}
use Rattle.trained.specs.Loading.{mark_in}
use Rattle.trained.specs.Attempts.{unanswered, told_by, told_bys, Asks, Attempts}
use Rattle.trained.specs.Failing.{carried_out, did_from, did_all, FailedLeaves, OursIsTrue}
use Rattle.trained.proofs.Carried.{ok-carried}
use Rattle.trained.proofs.Writing.{asks-kind, asks-commands, moved_on, stopped, mark-moved}
use Rattle.trained.proofs.Stages.{place, done-stays}
use Rattle.trained.proofs.Telling.{outcome_from, outcome-asked, first-fails, first_done}

-- a word set is that word, and 0 where it has no place
set-zero : (m : List ℕ) (i : ℕ) → get_or (set m i 0) i 0 ≡ 0
set-zero m i = go (ltb i (length m)) refl
  where
    go : (b : Bool) → ltb i (length m) ≡ b → get_or (set m i 0) i 0 ≡ 0
    go true e = get_or-set_same m i 0 0 (ltb-true _ _ e)
    go false e = get_or-eq_default (set m i 0) 0 (simp length-set (ltb-false _ _ e))

-- what a message of a stage did
did-is : {start : ℕ} {rows : List ℕ} {stage : Stage} {d : List ℕ} (a : Asks start rows stage d) (told : Told)
    (m : List ℕ)
    → did_from (kind_of (request_of d).byte0) 0 (request_of d).commands told m
    ≡ did_from (kind_at stage) 0 (commands_at stage start rows) told m
did-is {start} {rows} {stage} {d} a told m =
    ap (λ (k : Kind). did_from k 0 (request_of d).commands told m) (asks-kind a)
    ∙ ap (λ (cs : List Command). did_from (kind_at stage) 0 cs told m) (asks-commands a)

-- what ended otherwise than in OK was not carried out
failed-not : (e : Option Status) → is_ok e ≡ false → carried_out e ≡ false
failed-not None w = w
failed-not (Some Ok) w = w
failed-not (Some Timeout) w = w
failed-not (Some Error) w = w

-- one command: it was carried out, and those behind it were done; or nothing was
did-first : (kind : Kind) (k : ℕ) (c : Command) (cs : List Command) (told : Told) (m : List ℕ) (P : List ℕ → Type 0)
    → P (did_from kind (suc k) cs told (after_moves m (moves_of kind c))) → P m → P (did_from kind k (c ∷ cs) told m)
unfolding did_from
did-first kind k c cs told m P f g = go (carried_out (told.ending k))
  where
    go : (b : Bool) → P (cond b (did_from kind (suc k) cs told (after_moves m (moves_of kind c))) m)
    go true = f
    go false = g

module _ (start : ℕ) (rows : List ℕ) (z : start % 4 ≡ 0) where
  -- rows written, some or all, leave the mark
  row-leaves : (i : ℕ) (m : List ℕ) → i < 24
      → mark_in start (after_moves m (moves_of Write (row_write start rows i))) ≡ mark_in start m
  row-leaves i m h =
      ap (λ (c : Command). mark_in start (after_moves m (moves_of Write c))) (row-write-is start rows i)
      ∙ stores-other m ((start + 32 * i) / 4) 15 15 (row_of rows i) (start / 4 + 192)
      (λ j l e. absurd (omega (arith, l, e, row-long rows i)))

  rows-leave : (n i k : ℕ) (told : Told) (m : List ℕ) → i + n ≤ 24
      → mark_in start (did_from Write k (each_from (row_write start rows) i n) told m) ≡ mark_in start m
  unfolding did_from
  rows-leave zero i k told m h =
      ap (λ (cs : List Command). mark_in start (did_from Write k cs told m)) (each_none (row_write start rows) i)
  rows-leave (suc n) i k told m h =
      ap (λ (cs : List Command). mark_in start (did_from Write k cs told m)) (each_more (row_write start rows) i n)
      ∙ did-first Write k (row_write start rows i) (each_from (row_write start rows) (suc i) n) told m
      (λ x. mark_in start x ≡ mark_in start m)
      (rows-leave n (suc i) (suc k) told _ (omega arith) ∙ row-leaves i m (omega arith)) refl

  -- reads leave memory
  reads-leave : (n i k : ℕ) (told : Told) (m : List ℕ) → did_from Read k (each_from (row_read start) i n) told m ≡ m
  unfolding did_from
  reads-leave zero i k told m = ap (λ (cs : List Command). did_from Read k cs told m) (each_none (row_read start) i)
  reads-leave (suc n) i k told m =
      ap (λ (cs : List Command). did_from Read k cs told m) (each_more (row_read start) i n)
      ∙ did-first Read k (row_read start i) (each_from (row_read start) (suc i) n) told m (λ x. x ≡ m)
      (reads-leave n (suc i) (suc k) told _
      ∙ command-quiet Read m (row_read start i) (λ q. absurd (omega (arith, ap number_of q))))
      refl

  -- a word written to the mark, where that is OK, and where it is not
  mark-did : (v : ℕ) (told : Told) (m : List ℕ) → v < 4294967296 → is_ok (told.ending 0) ≡ true
      → did_from Write 0 (mark_write start v ∷ []) told m ≡ set m (start / 4 + 192) v
  unfolding did_from
  mark-did v told m h e = rw (ok-carried (told.ending 0) e) (mark-moved start v m z h)

  not-did : (v : ℕ) (told : Told) (m : List ℕ) → is_ok (told.ending 0) ≡ false
      → did_from Write 0 (mark_write start v ∷ []) told m ≡ m
  unfolding did_from
  not-did v told m e = rw (failed-not (told.ending 0) e)

  cleared-zero : (told : Told) (m : List ℕ) → is_ok (told.ending 0) ≡ true
      → mark_in start (did_from Write 0 (commands_at Clear start rows) told m) ≡ 0
  cleared-zero told m e = ap (mark_in start) (mark-did 0 told m (omega arith) e) ∙ set-zero m (start / 4 + 192)

  -- a message, by its outcome, leaves a mark of 0, but for an OK setting of it
  keeps-zero : (stage : Stage) (told : Told) (m : List ℕ) → mark_in start m ≡ 0 → (next_of rows stage told ≡ Done → ⊥)
      → mark_in start (did_from (kind_at stage) 0 (commands_at stage start rows) told m) ≡ 0
  keeps-zero Rows told m h d = rows-leave 24 0 0 told m (omega arith) ∙ h
  keeps-zero Back told m h d = ap (mark_in start) (reads-leave 24 0 0 told m) ∙ h
  keeps-zero Clear told m h d = go (is_ok (told.ending 0)) refl
    where
      go : (b : Bool) → is_ok (told.ending 0) ≡ b
          → mark_in start (did_from Write 0 (commands_at Clear start rows) told m) ≡ 0
      go true e = cleared-zero told m e
      go false e = ap (mark_in start) (not-did 0 told m e) ∙ h
  keeps-zero Mark told m h d = go (is_ok (told.ending 0)) refl
    where
      go : (b : Bool) → is_ok (told.ending 0) ≡ b
          → mark_in start (did_from Write 0 (commands_at Mark start rows) told m) ≡ 0
      go true e = absurd (d (after-mark rows told (on-well told 0 e)))
      go false e = ap (mark_in start) (not-did complete told m e) ∙ h

  not_done : (next : Next) (os : List Outcome) (n : ℕ) → came_to rows next (told_bys os) ≡ Ended n → next ≡ Done → ⊥
  not_done next os n e p =
      let x : Done ≡ Ended n = sym (done-stays rows os) ∙ ap (λ (x : Next). came_to rows x (told_bys os)) (sym p) ∙ e in
      absurd (omega (arith, ap place x))

  fails-on : (ds : List (List ℕ)) (next : Next) (os : List Outcome) (m : List ℕ) (n : ℕ)
      → Attempts start rows next os ds
      → came_to rows next (told_bys os) ≡ Ended n → mark_in start m ≡ 0 → mark_in start (did_all ds os m) ≡ 0
  unfolding did_all
  fails-on [] next os m n a e h = h
  fails-on (d ∷ ds) next [] m n a e h = h
  fails-on (d ∷ ds) (Send stage) (o ∷ os) m n a e h =
      fails-on ds (next_of rows stage (told_by o)) os _ n a.1 e
      (ap (mark_in start) (did-is a.0 (told_by o) m)
      ∙ keeps-zero stage (told_by o) m h (not_done (next_of rows stage (told_by o)) os n e))
  fails-on (d ∷ ds) Done (o ∷ os) m n a e h = absurd a
  fails-on (d ∷ ds) (Ended k) (o ∷ os) m n a e h = absurd a

  -- where the clearing failed, nothing follows
  nothing-more : (ds : List (List ℕ)) (os : List Outcome) (k : ℕ) (m : List ℕ) → Attempts start rows (Ended k) os ds
      → did_all ds os m ≡ m
  unfolding did_all
  nothing-more [] os k m a = refl
  nothing-more (d ∷ ds) os k m a = absurd a

pub failed-leaves : FailedLeaves
unfolding did_all
failed-leaves start room rows os ds m n u a l e = by os ds a l e
  where
    z : start % 4 ≡ 0
    z = (placed start room u).aligned

    did : Outcome → List ℕ → List ℕ
    did o d = did_from (kind_of (request_of d).byte0) 0 (request_of d).commands (told_by o) m

    -- what is left, o being the outcome of the clearing
    Left : Outcome → List ℕ → Type 0
    Left o x = (is_ok ((told_by o).ending 0) ≡ true → mark_in start x ≡ 0) × (is_ok ((told_by o).ending 0) ≡ false → x ≡ m)

    first : (o : Outcome) (os : List Outcome) (d : List ℕ) (ds : List (List ℕ)) → Asks start rows Clear d
        → Attempts start rows (next_of rows Clear (told_by o)) os ds
        → came_to rows (next_of rows Clear (told_by o)) (told_bys os) ≡ Ended n → Left o (did_all ds os (did o d))
    first o os d ds g a e = (
      λ w.
          fails-on start rows z ds (next_of rows Clear (told_by o)) os _ n a e
          (ap (mark_in start) (did-is g (told_by o) m) ∙ cleared-zero start rows z (told_by o) m w),
      λ w.
          let f = not-clear rows (told_by o) (λ k. false≢true (sym w ∙ well-on (told_by o) 0 k)) in
          nothing-more start rows z ds os 25 _ (subst (λ (x : Next). Attempts start rows x os ds) f a)
          ∙ did-is g (told_by o) m ∙ not-did start rows z 0 (told_by o) m w,
    )

    by : (os : List Outcome) (ds : List (List ℕ)) → Attempts start rows (Send Clear) os ds → length os ≡ length ds
        → came_to rows (Send Clear) (told_bys os) ≡ Ended n → Left (get_or os 0 []) (did_all ds os m)
    by [] ds a l e = absurd (omega (arith, ap place e))
    by (o ∷ os) [] a l e = absurd (omega arith)
    by (o ∷ os) (d ∷ ds) a l e = first o os d ds a.0 a.1 e

-- our controller does what its outcome says
true-from : (cs : List Command) (kind : Kind) (k size : ℕ) (told : Told) (m : List ℕ) → size ≡ length m
    → ((j : ℕ) → told.ending (k + j) ≡ (get_or (outcome_from kind m cs) j unanswered).ending)
    → after_moves m (moves kind size cs) ≡ did_from kind k cs told m
unfolding did_from
true-from [] kind k size told m e h = ap (after_moves m) (moves-none kind size) ∙ after_none m
true-from (c ∷ cs) kind k size told m e h = go (fails kind size c) refl (λ m'. true-from cs kind (suc k) size told m')
  where
    m₁ : List ℕ
    m₁ = after_moves m (moves_of kind c)

    same : {b : Bool} → fails kind size c ≡ b → fails kind (length m) c ≡ b
    same x = ap (λ (n : ℕ). fails kind n c) (sym e) ∙ x

    now : {o : Outcome} → outcome_from kind m (c ∷ cs) ≡ o → (j : ℕ) → told.ending (k + j) ≡ (get_or o j unanswered).ending
    now x j = h j ∙ ap (λ (o : Outcome). (get_or o j unanswered).ending) x

    first : {o : Outcome} → outcome_from kind m (c ∷ cs) ≡ o
        → carried_out (told.ending k) ≡ carried_out (get_or o 0 unanswered).ending
    first x = ap (λ (n : ℕ). carried_out (told.ending n)) (sym (add-zero k)) ∙ ap carried_out (now x 0)

    go : (b : Bool) → fails kind size c ≡ b
        → ((m' : List ℕ) → size ≡ length m'
        → ((j : ℕ) → told.ending (suc k + j) ≡ (get_or (outcome_from kind m' cs) j unanswered).ending)
        → after_moves m' (moves kind size cs) ≡ did_from kind (suc k) cs told m')
        → after_moves m (moves kind size (c ∷ cs))
        ≡ cond (carried_out (told.ending k)) (did_from kind (suc k) cs told m₁) m
    go true x r = stopped kind m size c cs x ∙ rw (first (first-fails kind m c cs (same x)))
    go false x r =
        let f = first_done kind m c cs (same x) in
        moved_on kind m size c cs x
        ∙ r m₁ (e ∙ sym (length-after m (moves_of kind c)))
        (λ j. ap (λ (n : ℕ). told.ending n) (omega arith) ∙ now f (suc j))
        ∙ rw (first f)

pub ours-is-true : OursIsTrue
ours-is-true message memory =
    memory-by (request_of message) memory
    ∙ true-from (request_of message).commands (kind_of (request_of message).byte0) 0 (length memory)
    (told_by (outcome_over memory message)) memory refl
    (λ j. ap (λ (n : ℕ). (told_by (outcome_over memory message)).ending n) (zero-add j)
    ∙ ap (λ (o : Outcome). (told_by o).ending j) (outcome-asked memory message))
