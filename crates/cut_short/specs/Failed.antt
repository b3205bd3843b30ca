-- [13] The training table that fails: a memory one word too short and a mark that is 24 before, from bytes; and with
-- any controller, in figures. proofs/Sharp.antt computes it. Assumes nothing.
use Rattle.std.specs.Prelude.{ℕ, zero, suc, ◌≡◌, List, [], ◌∷◌, ◌++◌, replicate, take, Some}
use Rattle.answer.specs.declared.Status.{Status}
use Rattle.answer.specs.declared.Status.TheVariants.{Timeout, Error}
use Rattle.completer.specs.Controller.{Controller}
use Rattle.once.specs.World.{Event}
use Rattle.once.specs.Lives.{unasked, begun}
use Rattle.exchange.specs.Outcomes.{Outcome}
use Rattle.exchange.specs.Ends.{ends}
use Rattle.exchange.specs.Terms.{Sound}
use Rattle.exchange.specs.Example.{ok}
use Rattle.lives.specs.Lives.{Lived}
use Rattle.layout.specs.declared.Stage.TheVariants.{Clear}
use Rattle.layout.specs.Layout.{table_of, complete}
use Rattle.table.specs.declared.attempt.Next.TheVariants.{Send, Ended}
use Rattle.table.specs.Promises.{came_to}
use Rattle.trained.specs.Loading.{mark_in, rows_in, Loads}
use Rattle.trained.specs.Attempts.{told_bys}
use Rattle.trained.specs.Failing.{did_all}
use Rattle.trained.specs.Promise.{Training, memory_now, attempt_in}
use Rattle.eleven.specs.Eleven.{fresh}
use Rattle.cut_short.specs.CutShort.{row, rows, messages, lent_rows, answered, first, holding}

-- Memory is one word too short, since the mark would be word 208. The clearing comes, and is answered: "(25 for the
-- mark)", and memory is "untouched".
abbrev pub short : Controller
short = fresh (replicate 208 0x51) 0

abbrev pub clearing : List (Event ends)
clearing = answered 0 0 (take 1 (messages 0 0))

pub record TooShort : Type 0 where
  pub trains : Training 0x40 (λ n. 194) lent_rows short [] (begun unasked clearing)
  pub ended : attempt_in (lent_rows 0) short unasked clearing ≡ Ended 25
  pub is : memory_now short [] (begun unasked clearing) ≡ replicate 208 0x51

-- What "the complete word not 24 before the first life" is for: it is 24, and the first life's clearing is lost. All
-- other premises hold, the mark is 24, and the rows are no life's.
abbrev pub marked : Controller
marked = fresh (holding (replicate 192 0x51) 24) 0

pub record MarkedBefore : Type 0 where
  pub sound : Sound marked
  pub living : Lived marked (first 0)
  pub loads : Loads 0x40 194 (lent_rows 0) marked (first 0)
  pub is : memory_now marked [] (first 0) ≡ holding (replicate 192 0x51) 24
  pub mark : mark_in 0x40 (memory_now marked [] (first 0)) ≡ complete
  pub not : (n : ℕ) → rows_in 0x40 (memory_now marked [] (first 0)) ≡ table_of (lent_rows n) → ⊥

-- Over what life 0 left, the four messages of life 1, with outcomes that are true. k rows written; and k rows read,
-- from row r on, as they were sent.
abbrev pub failed : Status → Outcome
failed status = record { ending = Some status; words = [] } ∷ []

abbrev pub wrote : ℕ → Outcome
wrote zero = []
wrote (suc k) = ok [] ++ wrote k

abbrev pub read_back : ℕ → ℕ → ℕ → Outcome
read_back n r zero = []
read_back n r (suc k) = ok (row n r) ++ read_back n (suc r) k

-- "A failed command or a row that differs ends the attempt with the row's number (25 for the mark)", and memory is
-- then this
pub record Fails (outcomes : List Outcome) (number : ℕ) (memory : List ℕ) : Type 0 where
  pub ended : came_to (lent_rows 1) (Send Clear) (told_bys outcomes) ≡ Ended number
  pub is : did_all (messages 1 4) outcomes (holding (rows 0 1 24) 24) ≡ memory

-- "the mark left at 0, or untouched if clearing it failed": the clearing ended in Error, or in Timeout; the write of
-- row 3; the read of row 24; row 7 came back as life 0's, a row that differs; the mark's write
pub record FailsAt : Type 0 where
  pub clearing : Fails (failed Error ∷ []) 25 (holding (rows 0 1 24) 24)
  pub timeout : Fails (failed Timeout ∷ []) 25 (holding (rows 0 1 24) 24)
  pub writing : Fails (ok [] ∷ (wrote 2 ++ failed Error) ∷ []) 3 (holding (rows 1 1 2 ++ rows 0 3 22) 0)
  pub reading : Fails (ok [] ∷ wrote 24 ∷ (read_back 1 1 23 ++ failed Error) ∷ []) 24 (holding (rows 1 1 24) 0)
  pub differing : Fails (ok [] ∷ wrote 24 ∷ (read_back 1 1 6 ++ ok (row 0 7) ++ read_back 1 8 17) ∷ []) 7
      (holding (rows 1 1 24) 0)
  pub marking : Fails (ok [] ∷ wrote 24 ∷ read_back 1 1 24 ∷ failed Error ∷ []) 25 (holding (rows 1 1 24) 0)
