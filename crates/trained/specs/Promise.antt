-- [13] The training table over any number of restarts, in the user's words: the theorems on the front page.
-- proofs/Promise.antt proves each statement under its own name. Assumes nothing.
use Rattle.std.specs.Prelude.{ℕ, zero, suc, ◌+◌, ◌/◌, ◌≤◌, ◌<◌, ◌≡◌, true, List, [], ◌∷◌, ◌++◌, length, get_or}
use Rattle.word.specs.Words.{Words}
use Rattle.building.specs.Build.{long_ok}
use Rattle.completer.specs.Controller.{Controller}
use Rattle.once.specs.World.{Event, finished}
use Rattle.once.specs.Lives.{Others, Opening, asking, Life, unheard, begun, Ending, Lives, part_of, parts, end_of}
use Rattle.exchange.specs.Ends.{Loader, ends}
use Rattle.exchange.specs.Terms.{Sound}
use Rattle.exchange.specs.Promise.{window}
use Rattle.lives.specs.Lives.{restarts, left, sender_by, world, Lived, AllLived}
use Rattle.layout.specs.declared.Stage.{Stage}
use Rattle.layout.specs.declared.Stage.TheVariants.{Clear, Rows, Back, Mark}
use Rattle.layout.specs.Layout.{table_of, complete, set_up_fault}
use Rattle.table.specs.declared.attempt.Next.{Next}
use Rattle.table.specs.declared.attempt.Next.TheVariants.{Send, Done, Ended}
use Rattle.table.specs.declared.attempt.Attempt.{Attempt}
use Rattle.table.specs.Calls.{beginning, made_of}
use Rattle.table.specs.Promises.{came_to}
use Rattle.trained.specs.Called.{held_by}
use Rattle.trained.specs.Loading.{mark_in, rows_in, Loads, AllLoad}
use Rattle.trained.specs.Attempts.{told_bys}

-- The premises: "Under [10]'s premises, every life using the same start, nobody else writing the window, and the
-- complete word not 24 before the first life". ls are the lives that are over, l the present one so far; life n,
-- counted from 0, has the room `room n` and the rows `rows n`. Nobody else writes: only messages of these lives change
-- memory ([10]).
pub record Training (start : ℕ) (room : ℕ → ℕ) (rows : ℕ → List ℕ) (c : Controller) (ls : Lives ends) (l : Life ends)
    : Type 0 where
  pub sound : Sound c
  pub set-up : (n : ℕ) → set_up_fault start (room n) ≡ 0
  pub words : (n : ℕ) → Words (rows n)
  pub before : mark_in start c.memory ≡ complete → ⊥
  pub lived : AllLived c ls
  pub living : Lived (left c ls) l
  pub loaded : AllLoad start room rows 0 c ls
  pub loads : Loads start (room (length ls)) (rows (length ls)) (left c ls) l

-- The premises hold of all that had happened at any moment, so that what is said of the present life so far is said of
-- every moment. over: of a life that is over, at its end. The others: up to each moment of a life, also before it has
-- heard.
pub record Moments (start : ℕ) (room : ℕ → ℕ) (rows : ℕ → List ℕ) (c : Controller) (ls : Lives ends) : Type 0 where
  pub over : (l : Life ends) (e : Ending ends) (ms : Lives ends) (k : Life ends)
      → Training start room rows c (ls ++ (l, e) ∷ ms) k → Training start room rows c ls l
  pub quiet : (xs ys : Others ends)
      → Training start room rows c ls (unheard (xs ++ ys)) → Training start room rows c ls (unheard xs)
  pub heard : (xs : Others ends) (b : List ℕ) (ys : Others ends) (s : Loader) (es : List (Event ends))
      → Training start room rows c ls (begun (asking xs b ys s) es)
      → Training start room rows c ls (unheard (xs ++ (restarts.ask, b) ∷ ys))
  pub then : (o : Opening ends) (es more : List (Event ends))
      → Training start room rows c ls (begun o (es ++ more)) → Training start room rows c ls (begun o es)

abbrev pub AtEveryMoment : Type 0
AtEveryMoment =
    (start : ℕ) (room : ℕ → ℕ) (rows : ℕ → List ℕ) (c : Controller) (ls : Lives ends) → Moments start room rows c ls

-- memory now
abbrev pub memory_now : Controller → Lives ends → Life ends → List ℕ
memory_now c ls l = (end_of window restarts (left c ls) l).memory

-- what is carried out of each life's list, life 0 first, the present one last
abbrev pub parts_now : Controller → Lives ends → Life ends → List (List (List ℕ))
parts_now c ls l = parts window restarts c ls ++ part_of window restarts (left c ls) l ∷ []

-- "it is 24 only when all 24 rows are those of one life": life i, the present one or an earlier, all four of whose
-- messages are carried out, and none of any later life
pub record OneLife (start : ℕ) (rows : ℕ → List ℕ) (memory : List ℕ) (lives : ℕ) (done : List (List (List ℕ)))
    : Type 0 where
  pub i : ℕ
  pub is : i ≤ lives
  pub are : rows_in start memory ≡ table_of (rows i)
  pub whole : length (get_or done i []) ≡ 4
  pub last : (j : ℕ) → i < j → get_or done j [] ≡ []

abbrev pub CompleteIsOneLife : Type 0
CompleteIsOneLife =
    (start : ℕ) (room : ℕ → ℕ) (rows : ℕ → List ℕ) (c : Controller) (ls : Lives ends) (l : Life ends)
    → Training start room rows c ls l
    → mark_in start (memory_now c ls l) ≡ complete
    → OneLife start rows (memory_now c ls l) (length ls) (parts_now c ls l)

-- what the attempt of a life has come to
abbrev pub attempt_in : List ℕ → Controller → Opening ends → List (Event ends) → Next
attempt_in rows c o es = came_to rows (Send Clear) (told_bys (world c o es).outcomes)

-- the attempt now, as the calls of the present life handed it back
abbrev pub held : {start : ℕ} {room : ℕ → ℕ} {rows : ℕ → List ℕ} {c : Controller} {ls : Lives ends} (o : Opening ends)
    (es : List (Event ends)) → Training start room rows c ls (begun o es) → Attempt
held {start} {room} {rows} {c} {ls} o es h =
    held_by start (room (length ls)) (rows (length ls)) (beginning (sender_by o).sender) (world (left c ls) o []) es
    h.loads

-- What the calls hand back is what the theorems speak of: the field `next` of the attempt is what it has come to.
abbrev pub AttemptIsSo : Type 0
AttemptIsSo =
    (start : ℕ) (room : ℕ → ℕ) (rows : ℕ → List ℕ) (c : Controller) (ls : Lives ends) (o : Opening ends)
    (es : List (Event ends)) (h : Training start room rows c ls (begun o es))
    → (held o es h).next ≡ attempt_in (rows (length ls)) (left c ls) o es

-- A loader whose attempt is not over and at which none waits gets its next message, in an output that is long enough.
abbrev pub NotRefused : Type 0
NotRefused =
    (start : ℕ) (room : ℕ → ℕ) (rows : ℕ → List ℕ) (c : Controller) (ls : Lives ends) (o : Opening ends)
    (es : List (Event ends)) (h : Training start room rows c ls (begun o es)) (stage : Stage) (out : List ℕ)
    → (world (left c ls) o es).sender.waiting ≡ []
    → attempt_in (rows (length ls)) (left c ls) o es ≡ Send stage → long_ok (length out) ≡ true
    → (made_of (held o es h) start (room (length ls)) (rows (length ls)) out).refusal ≡ 0

-- what holds of the present life, which loads the table with the rows r over the controller d
abbrev pub InEach : (ℕ → List ℕ → Controller → Opening ends → List (Event ends) → Type 0) → Type 0
InEach Holds =
    (start : ℕ) (room : ℕ → ℕ) (rows : ℕ → List ℕ) (c : Controller) (ls : Lives ends) (o : Opening ends)
    (es : List (Event ends))
    → Training start room rows c ls (begun o es) → Holds start (rows (length ls)) (left c ls) o es

-- "For a life that finishes, the rows are its own", and the mark is set
pub record ItsOwn (start : ℕ) (rows memory : List ℕ) : Type 0 where
  pub are : rows_in start memory ≡ table_of rows
  pub mark : mark_in start memory ≡ complete

abbrev pub FinishedIsItsOwn : Type 0
FinishedIsItsOwn =
    InEach (λ start r d o es. attempt_in r d o es ≡ Done → ItsOwn start r (world d o es).controller.memory)

-- and so they stay, when that life is over, until a message of a later one is carried out
abbrev pub FinishedStays : Type 0
FinishedStays =
    (start : ℕ) (room : ℕ → ℕ) (rows : ℕ → List ℕ) (c : Controller) (ls : Lives ends) (o : Opening ends)
    (es : List (Event ends)) (e : Ending ends) (ms : Lives ends) (l : Life ends)
    → let all = ls ++ (begun o es, e) ∷ ms in
    Training start room rows c all l → attempt_in (rows (length ls)) (left c ls) o es ≡ Done
    → ((j : ℕ) → length ls < j → get_or (parts_now c all l) j [] ≡ [])
    → ItsOwn start (rows (length ls)) (memory_now c all l)

-- "Nothing else but a restart ends an attempt short of the mark": where memory has room for the table, no command fails
-- and no row differs. After n outcomes its next message is the n-th, counted from 0, and after four it is done. Each of
-- the four is given (`NotRefused`), and what is offered gets finished, if sending goes on ([10], `LivesFinish`).
abbrev pub stage_at : ℕ → Next
stage_at zero = Send Clear
stage_at (suc zero) = Send Rows
stage_at (suc (suc zero)) = Send Back
stage_at (suc (suc (suc zero))) = Send Mark
stage_at (suc (suc (suc (suc n)))) = Done

abbrev pub NothingEndsIt : Type 0
NothingEndsIt =
    InEach (λ start r d o es. start / 4 + 193 ≤ length d.memory
    → attempt_in r d o es ≡ stage_at (finished ends (world d o es)))

-- "or untouched if clearing it failed": where memory has no room for the table, the clearing fails, with the mark's
-- number, since the mark stands last; and memory is as it was
abbrev pub fails_at : ℕ → Next
fails_at zero = Send Clear
fails_at (suc n) = Ended 25

abbrev pub TooShortEnds : Type 0
TooShortEnds =
    InEach (λ start r d o es. length d.memory < start / 4 + 193
    → (attempt_in r d o es ≡ fails_at (finished ends (world d o es))) × ((world d o es).controller.memory ≡ d.memory))
