-- [13] The training table from bytes: a life that is cut short at every message, alone, and behind a life with other
-- rows that finished. proofs/Example.antt computes it. Assumes nothing.
use Rattle.std.specs.Prelude.{ℕ, zero, suc, ◌+◌, ◌*◌, ◌%◌, ◌≡◌, List, [], ◌∷◌, ◌++◌, replicate, get_or, take}
use Rattle.word.specs.Words.{bytes_of}
use Rattle.completer.specs.Controller.{Controller}
use Rattle.once.specs.World.{Event, offer, send, arrive, back}
use Rattle.once.specs.Lives.{unasked, Life, begun, restart, Lives}
use Rattle.message.specs.Request.{written}
use Rattle.layout.specs.declared.Stage.{Stage}
use Rattle.layout.specs.declared.Stage.TheVariants.{Clear, Rows, Back, Mark}
use Rattle.layout.specs.Layout.{request_at}
use Rattle.table.specs.declared.attempt.Next.TheVariants.{Done}
use Rattle.exchange.specs.Ends.{ends}
use Rattle.exchange.specs.Example.{output}
use Rattle.trained.specs.Promise.{Training, memory_now, attempt_in}
use Rattle.eleven.specs.Eleven.{fresh, heard}

-- The table stands behind 16 words, and one word is behind it: last summer's, and no mark.
abbrev pub summer : Controller
summer = fresh (replicate 210 0x51) 0

-- Word j of row r of life n, counted from 0, is n, r and j, two digits each (hexadecimal), behind the row's number.
abbrev pub own : ℕ → ℕ → List ℕ
own n r =
    let w = 0x10000 * (n % 0x100) + 0x100 * r in
    (w + 1) ∷ (w + 2) ∷ (w + 3) ∷ (w + 4) ∷ (w + 5) ∷ (w + 6) ∷ (w + 7) ∷ []

abbrev pub row : ℕ → ℕ → List ℕ
row n r = r ∷ own n r

-- rows r, r + 1 and so on, k of them
abbrev pub rows : ℕ → ℕ → ℕ → List ℕ
rows n r zero = []
rows n r (suc k) = row n r ++ rows n (suc r) k

-- The four messages, word by word, with this tag: the table starts at 40 (hexadecimal), its mark stands at 340.
abbrev pub writes : ℕ → ℕ → ℕ → ℕ → List ℕ
writes tag n r zero = []
writes tag n r (suc zero) = (0x8008FF10 + tag) ∷ (0x20 + 0x20 * r) ∷ row n r
writes tag n r (suc (suc k)) = (0x0008FF10 + tag) ∷ (0x20 + 0x20 * r) ∷ row n r ++ writes tag n (suc r) (suc k)

abbrev pub reads : ℕ → ℕ → ℕ → List ℕ
reads tag r zero = []
reads tag r (suc zero) = (0x80080020 + tag) ∷ (0x20 + 0x20 * r) ∷ []
reads tag r (suc (suc k)) = (0x00080020 + tag) ∷ (0x20 + 0x20 * r) ∷ reads tag (suc r) (suc k)

abbrev pub marks : ℕ → ℕ → List ℕ
marks tag value = (0x80010F10 + tag) ∷ 0x340 ∷ value ∷ []

-- the list of life n, from this tag on
abbrev pub messages : ℕ → ℕ → List (List ℕ)
messages n tag =
    bytes_of (marks tag 0) ∷ bytes_of (writes (tag + 1) n 1 24) ∷ bytes_of (reads (tag + 2) 1 24)
    ∷ bytes_of (marks (tag + 3) 24) ∷ []

-- They are those of the layout, the caller's words of all rows lent.
abbrev pub lent_from : ℕ → ℕ → ℕ → List ℕ
lent_from n r zero = []
lent_from n r (suc k) = own n r ++ lent_from n (suc r) k

-- all that life n lends
abbrev pub lent_rows : ℕ → List ℕ
lent_rows n = lent_from n 1 24

abbrev pub at_stage : ℕ → Stage → ℕ → List ℕ
at_stage n stage tag = written (request_at stage tag 0x40 (lent_rows n))

abbrev pub laid_out : ℕ → ℕ → List (List ℕ)
laid_out n tag =
    at_stage n Clear tag ∷ at_stage n Rows (tag + 1) ∷ at_stage n Back (tag + 2) ∷ at_stage n Mark (tag + 3) ∷ []

pub record AsLaidOut : Type 0 where
  pub first : messages 0 0 ≡ laid_out 0 0
  pub second : messages 1 4 ≡ laid_out 1 4

-- Each is offered and sent, comes, and is answered. The first of these is sent i-th, and its answer given n-th.
abbrev pub answered : ℕ → ℕ → List (List ℕ) → List (Event ends)
answered i n [] = []
answered i n (d ∷ ds) = offer d ∷ send 0 ∷ arrive i output ∷ back n ∷ answered (suc i) (suc n) ds

-- The first k of a list are carried out, and the last of them is not answered; of none, the first is lost.
abbrev pub cut : ℕ → ℕ → List (List ℕ) → List (Event ends)
cut zero n ds = offer (get_or ds 0 []) ∷ send 0 ∷ []
cut (suc k) n ds = answered 0 n (take k ds) ++ offer (get_or ds k []) ∷ send 0 ∷ arrive k output ∷ []

-- Life 0, of a fresh pair, from tag 0 on: cut short, or whole. Life 1, which asks and learns tag 4, cut short.
abbrev pub first : ℕ → Life ends
first k = begun unasked (cut k 0 (messages 0 0))

abbrev pub all : List (Event ends)
all = answered 0 0 (messages 0 0)

abbrev pub second : ℕ → Life ends
second k = heard 4 (cut k 1 (messages 1 4))

-- memory with these rows and this mark
abbrev pub holding : List ℕ → ℕ → List ℕ
holding table mark = replicate 16 0x51 ++ table ++ mark ∷ 0x51 ∷ []

-- what memory is at the end of the last of these lives, which meet the premises of the theorems (crate `trained`): the
-- table starts at 40 (hexadecimal), with room for 194 words
pub record Leaves (ls : Lives ends) (l : Life ends) (memory : List ℕ) : Type 0 where
  pub trains : Training 0x40 (λ n. 194) lent_rows summer ls l
  pub is : memory_now summer ls l ≡ memory

-- a life cut at every message, the mark after each
pub record CutAlone : Type 0 where
  pub none : Leaves [] (first 0) (holding (replicate 192 0x51) 0x51)
  pub cleared : Leaves [] (first 1) (holding (replicate 192 0x51) 0)
  pub wrote : Leaves [] (first 2) (holding (rows 0 1 24) 0)
  pub compared : Leaves [] (first 3) (holding (rows 0 1 24) 0)
  pub marked : Leaves [] (first 4) (holding (rows 0 1 24) 24)

-- two lives with other rows: the first "finishes", and the second is cut short
pub record CutBehind : Type 0 where
  pub finishes : attempt_in (lent_rows 0) summer unasked all ≡ Done
  pub none : Leaves ((begun unasked all, restart) ∷ []) (second 0) (holding (rows 0 1 24) 24)
  pub cleared : Leaves ((begun unasked all, restart) ∷ []) (second 1) (holding (rows 0 1 24) 0)
  pub wrote : Leaves ((begun unasked all, restart) ∷ []) (second 2) (holding (rows 1 1 24) 0)
  pub compared : Leaves ((begun unasked all, restart) ∷ []) (second 3) (holding (rows 1 1 24) 0)
  pub marked : Leaves ((begun unasked all, restart) ∷ []) (second 4) (holding (rows 1 1 24) 24)
