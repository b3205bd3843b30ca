-- The theorems of specs/Promise.antt. Assumes nothing.
use Prim.Native.Nat.{ℕ, suc, ◌+◌, ◌%◌, ◌<◌}
use mathlib.Core.Path.{◌≡◌, refl, sym, ap, subst, ◌∙◌}
use mathlib.Core.Bool.{Bool, true, false}
use mathlib.Core.Logic.{◌⊎◌, inl, inr}
use mathlib.Core.List.{List, [], ◌∷◌, ◌++◌, foldl, foldl-append, append_assoc}
use native.Mathlib.Omega.{arith}
use native.Mathlib.Nat.{add-zero, zero-add}
use borrow.Author.Tests.{eqb-true, eqb-false, ltb-true, ltb-false}
use lib.Dec.{eqb, ltb}
use lib.ListN.{length, take, get_or, get_or-eq_default}
use lib.Seq.{get_or-append-add}
use Rattle.word.specs.Words.{Words}
use Rattle.completer.specs.Controller.{Controller}
use Rattle.initiator.specs.declared.sender.Sender.{Sender}
use Rattle.initiator.proofs.Laws.Places.{ok-is}
use Rattle.once.specs.World.{Event, World, finished}
use Rattle.once.specs.Promise.{made, Safe}
use Rattle.once.specs.Lives.{Opening, Life, unheard, begun, Ending, Lives, happened, part_of, next, parts}
use Rattle.once.proofs.Lives.{all_sound}
use Rattle.exchange.specs.Ends.{ends}
use Rattle.exchange.specs.Terms.{terms}
use Rattle.exchange.specs.Promise.{window}
use Rattle.exchange.proofs.Sender.{agree, small}
use Rattle.exchange.proofs.Facts.{records-say}
use Rattle.lives.specs.Lives.{restarts, left, sender_by, world, Lived, AllLived}
use Rattle.lives.proofs.Lives.{renews, laws, lives-start, lives-memory, lives-moments, lives-stay, lives-each}
use Rattle.layout.specs.Layout.{table_of, complete}
use Rattle.layout.proofs.Laws.Layout.{placed}
use Rattle.table.specs.Calls.{beginning}
use Rattle.table.proofs.Laws.Calls.{made-refusal, fault-none}
use Rattle.trained.specs.Loading.{mark_in, rows_in, Loads, AllLoad}
use Rattle.trained.specs.Promise.{Training, memory_now, parts_now, AtEveryMoment, CompleteIsOneLife, ItsOwn}
use Rattle.trained.specs.Promise.{held, AttemptIsSo, NotRefused}
use Rattle.trained.specs.Promise.{FinishedIsItsOwn, FinishedStays, NothingEndsIt, TooShortEnds}
use Rattle.trained.proofs.Counting.{attempt-four}
use Rattle.trained.proofs.Going.{attempt-done, from-clear, too_short}
use Rattle.trained.proofs.Keeping.{Kept}
use Rattle.trained.proofs.Called.{Attempted, AllAttempted, life-kept, calls-load, all-load}
use Rattle.trained.proofs.Called.{calls-first}

-- the present life's part is the last
parts_last : (ls : Lives ends) (c : Controller) (q : List (List ℕ))
    → get_or (parts window restarts c ls ++ q ∷ []) (length ls) [] ≡ q
parts_last [] c q = refl
parts_last (x ∷ ls) c q = parts_last ls (next window restarts c x) q

parts-long : (ls : Lives ends) (c : Controller) (q : List (List ℕ))
    → length (parts window restarts c ls ++ q ∷ []) ≡ suc (length ls)
parts-long [] c q = refl
parts-long (x ∷ ls) c q = ap suc (parts-long ls (next window restarts c x) q)

module _ (start : ℕ) (rows : ℕ → List ℕ) (z : start % 4 ≡ 0) (t : (n : ℕ) → Words (rows n))
    (part : ℕ → List (List ℕ)) where
  -- where the mark is 24, the rows are those of a life before life n, all of whose list was carried out, and nothing of
  -- a later one's
  abbrev Held : ℕ → List ℕ → Type 0
  Held n m = mark_in start m ≡ complete
      → (i : ℕ) × (i < n) × (rows_in start m ≡ table_of (rows i)) × (length (part i) ≡ 4)
      × ((j : ℕ) → i < j → j < n → part j ≡ [])

  held-later : (n : ℕ) (m : List ℕ) → part n ≡ [] → Held n m → Held (suc n) m
  held-later n m o h e = let r = h e in (r.0, omega (arith, r.1), r.2, r.3, by r.4)
    where
      by : {i : ℕ} → ((j : ℕ) → i < j → j < n → part j ≡ []) → (j : ℕ) → i < j → j < suc n → part j ≡ []
      by {i} f j p q = go (eqb j n) refl
        where
          go : (b : Bool) → eqb j n ≡ b → part j ≡ []
          go true w = ap part (eqb-true j n w) ∙ o
          go false w = f j p (omega (arith, q, eqb-false j n w))

  -- one life more
  held-life : (n : ℕ) (c : Controller) (l : Life ends) (m : List ℕ) → Attempted start (rows n) c l
      → part n ≡ part_of window restarts c l → Held n m → Held (suc n) (made terms m (part_of window restarts c l))
  held-life n c (unheard xs) m a o h = held-later n m o h
  held-life n c (begun b es) m a o h =
      go (attempt-four start (rows n) z (t n) w.outcomes w.offered w.taken m a)
    where
      w : World ends
      w = world c b es

      p : List (List ℕ)
      p = take w.taken w.offered

      go : ((made terms m p ≡ m) × (p ≡ []))
          ⊎ (mark_in start (made terms m p) ≡ complete
          → (rows_in start (made terms m p) ≡ table_of (rows n)) × (length p ≡ 4))
          → Held (suc n) (made terms m p)
      go (inl e) = rw e.0 (held-later n m (o ∙ e.1) h)
      go (inr f) = λ e. let r = f e in (n, omega arith, r.0, ap length o ∙ r.1, λ j p q. absurd (omega (arith, p, q)))

  held-lives : (ls : Lives ends) (n : ℕ) (c : Controller) (q : List (List ℕ)) (m : List ℕ)
      → AllAttempted start rows n c ls
      → ((j : ℕ) → part (n + j) ≡ get_or (parts window restarts c ls ++ q ∷ []) j []) → Held n m
      → Held (n + length ls) (foldl (made terms) m (parts window restarts c ls))
  held-lives [] n c q m a o h = rw (add-zero n) h
  held-lives (x ∷ ls) n c q m a o h =
      let c' : Controller = next window restarts c x in
      let p : List (List ℕ) = part_of window restarts c x.0 in
      let here : part n ≡ p = ap part (sym (add-zero n)) ∙ o 0 in
      let then : (j : ℕ) → part (suc n + j) ≡ get_or (parts window restarts c' ls ++ q ∷ []) j [] =
      λ j. let k : suc n + j ≡ n + suc j = omega arith in ap part k ∙ o (suc j) in
      let r = held-lives ls (suc n) c' q (made terms m p) a.1 then (held-life n c x.0 m a.0 here h) in
      let e : suc n + length ls ≡ n + suc (length ls) = omega arith in
      rw e at r

-- of lives that meet the premises: each offers its attempt's messages
module _ {start : ℕ} {room : ℕ → ℕ} {rows : ℕ → List ℕ} {c : Controller} {ls : Lives ends} {l : Life ends}
    (h : Training start room rows c ls l) where
  aligned : start % 4 ≡ 0
  aligned = (placed start (room 0) (h.set-up 0)).aligned

  before : AllAttempted start rows 0 c ls
  before = all-load start room rows h.words ls 0 c h.sound h.lived h.loaded

  present : Attempted start (rows (length ls)) (left c ls) l
  present =
      calls-load start (room (length ls)) (rows (length ls)) (left c ls) l
      (all_sound renews laws c ls h.sound h.lived)
      (h.words (length ls)) h.living h.loads

pub complete-is-one-life : CompleteIsOneLife
complete-is-one-life start room rows c ls l h e =
    let z = aligned h in
    let part : ℕ → List (List ℕ) = λ j. get_or (parts_now c ls l) j [] in
    let p : List (List (List ℕ)) = parts window restarts c ls in
    let q : List (List ℕ) = part_of window restarts (left c ls) l in
    let m : memory_now c ls l ≡ made terms (foldl (made terms) c.memory p) q =
    lives-memory c h.sound ls l h.lived h.living ∙ foldl-append (made terms) c.memory p (q ∷ []) in
    let over =
    held-lives start rows z h.words part ls 0 c q c.memory (before h) (λ j. ap part (zero-add j))
    (λ x. absurd (h.before x)) in
    let now =
    held-life start rows z h.words part (length ls) (left c ls) l _ (present h) (parts_last ls c q)
    (rw (zero-add (length ls)) at over) in
    let r = now (ap (mark_in start) (sym m) ∙ e) in
    record { i = r.0; is = omega (arith, r.1); are = ap (rows_in start) m ∙ r.2; whole = r.3; last = later r.4 }
  where
    later : {i : ℕ} → ((j : ℕ) → i < j → j < suc (length ls) → get_or (parts_now c ls l) j [] ≡ [])
        → (j : ℕ) → i < j → get_or (parts_now c ls l) j [] ≡ []
    later {i} f j p = go (ltb j (suc (length ls))) refl
      where
        go : (b : Bool) → ltb j (suc (length ls)) ≡ b → get_or (parts_now c ls l) j [] ≡ []
        go true w = f j p (ltb-true j (suc (length ls)) w)
        go false w =
            get_or-eq_default (parts_now c ls l) []
            (omega (arith, parts-long ls c (part_of window restarts (left c ls) l), ltb-false j (suc (length ls)) w))

-- what [10] says of the present life
module _ {start : ℕ} {room : ℕ → ℕ} {rows : ℕ → List ℕ} {c : Controller} {ls : Lives ends} (o : Opening ends)
    (es : List (Event ends)) (h : Training start room rows c ls (begun o es)) where
  safe : Safe ends terms window (left c ls).memory (world (left c ls) o es)
  safe = (lives-each c h.sound ls o es h.lived h.living).safe

  kept : Kept start (rows (length ls)) (held o es h) (world (left c ls) o es)
  kept =
      life-kept start (room (length ls)) (rows (length ls)) (left c ls) o es
      (all_sound renews laws c ls h.sound h.lived)
      (h.words (length ls)) h.living h.loads

pub attempt-is-so : AttemptIsSo
attempt-is-so start room rows c ls o es h = (kept o es h).next

pub not-refused : NotRefused
not-refused start room rows c ls o es h stage out e n l =
    let d = left c ls in
    let s = (world d o es).sender in
    let a = held o es h in
    let k = kept o es h in
    let b = lives-start d (all_sound renews laws c ls h.sound h.lived) [] o es tt h.living in
    let v = records-say d (sender_by o) b (happened window restarts o es) h.living.1 in
    let none : s.sender.waiting ≡ 0 = (agree v.order).many ∙ ap length e in
    let next : a.sender.next ≡ s.sender.next = ap (λ (x : Sender). x.next) k.sender in
    let idle : a.sender.waiting ≡ 0 = ap (λ (x : Sender). x.waiting) k.sender ∙ none in
    made-refusal a start (room (length ls)) (rows (length ls)) out
    ∙ fault-none a start (room (length ls)) (length out) stage (h.set-up (length ls))
    (ok-is a.sender (omega (arith, next, small v.order)) (omega (arith, idle))) idle (k.next ∙ n) l

pub finished-is-its-own : FinishedIsItsOwn
finished-is-its-own start room rows c ls o es h e =
    let d = left c ls in
    let w : World ends = world d o es in
    let k = safe o es h in
    let r =
    attempt-done start (rows (length ls)) (aligned h) (h.words (length ls)) w.outcomes w.offered k.k
    (finished ends w) d.memory (present h) k.outcomes k.finished-or
    (omega (arith, k.finished-or, k.offered)) e in
    record { are = ap (rows_in start) k.memory ∙ r.1; mark = ap (mark_in start) k.memory ∙ r.0 }

pub nothing-ends-it : NothingEndsIt
nothing-ends-it start room rows c ls o es h l =
    let d = left c ls in
    let w : World ends = world d o es in
    from-clear start (rows (length ls)) (aligned h) (h.words (length ls)) w.offered w.outcomes
    (finished ends w) d.memory (present h) l (safe o es h).outcomes

pub too-short-ends : TooShortEnds
too-short-ends start room rows c ls o es h l =
    let d = left c ls in
    let w : World ends = world d o es in
    let k = safe o es h in
    let r =
    too_short start (rows (length ls)) (aligned h) (h.words (length ls)) w.offered w.outcomes k.k
    (finished ends w) d.memory (present h) k.outcomes l in
    (r.0, k.memory ∙ r.1)

-- The premises, of what had happened up to a moment.
module _ (start : ℕ) (room : ℕ → ℕ) (rows : ℕ → List ℕ) where
  -- of lives that are over, those before one, and that one
  over-loaded : (ls : Lives ends) (n : ℕ) (c : Controller) (l : Life ends) (e : Ending ends) (ms : Lives ends)
      → AllLoad start room rows n c (ls ++ (l, e) ∷ ms)
      → AllLoad start room rows n c ls × Loads start (room (n + length ls)) (rows (n + length ls)) (left c ls) l
  over-loaded [] n c l e ms a = (tt, rw (add-zero n) a.0)
  over-loaded (k ∷ ls) n c l e ms a =
      let r = over-loaded ls (suc n) (next window restarts c k) l e ms a.1 in
      let i : suc n + length ls ≡ n + suc (length ls) = omega arith in
      ((a.0, r.0), subst (λ (j : ℕ). Loads start (room j) (rows j) (left c (k ∷ ls)) l) i r.1)

  up_to : {c : Controller} {ks ls : Lives ends} {k l : Life ends} → Training start room rows c ks k → AllLived c ls
      → Lived (left c ls) l → AllLoad start room rows 0 c ls
      → Loads start (room (length ls)) (rows (length ls)) (left c ls) l
      → Training start room rows c ls l
  up_to h a v f g =
      record {
        sound = h.sound;
        set-up = h.set-up;
        words = h.words;
        before = h.before;
        lived = a;
        living = v;
        loaded = f;
        loads = g;
      }

  over : (c : Controller) (ls : Lives ends) (l : Life ends) (e : Ending ends) (ms : Lives ends) (k : Life ends)
      → Training start room rows c (ls ++ (l, e) ∷ ms) k → Training start room rows c ls l
  over c ls l e ms k h =
      let a = (lives-moments c).over ls l e ms h.lived in
      let g = over-loaded ls 0 c l e ms h.loaded in
      up_to h a.0 a.1 g.0 (rw (zero-add (length ls)) at g.1)

pub at-every-moment : AtEveryMoment
at-every-moment start room rows c ls =
    let m = lives-moments (left c ls) in
    record {
      over = over start room rows c ls;
      quiet = λ xs ys h. up_to start room rows h h.lived (m.quiet xs ys h.living) h.loaded tt;
      heard = λ xs b ys s es h. up_to start room rows h h.lived (m.heard xs b ys s es h.living) h.loaded tt;
      then =
          λ o es more h.
          up_to start room rows h h.lived (m.then o es more h.living) h.loaded
          (calls-first start (room (length ls)) (rows (length ls)) es more
          (beginning (sender_by o).sender) (world (left c ls) o []) h.loads);
    }

-- messages of which none is carried out leave memory
none_done : (ps : List (List (List ℕ))) (m : List ℕ) → ((j : ℕ) → get_or ps j [] ≡ []) → foldl (made terms) m ps ≡ m
none_done [] m h = refl
none_done (p ∷ ps) m h =
    ap (λ (x : List (List ℕ)). foldl (made terms) (made terms m x) ps) (h 0) ∙ none_done ps m (λ j. h (suc j))

pub finished-stays : FinishedStays
finished-stays start room rows c ls o es e ms l h f n =
    let k : Life ends = begun o es in
    let d = left c ls in
    let all : Lives ends = ls ++ (k, e) ∷ ms in
    let p : List (List (List ℕ)) = parts window restarts c ls in
    let q : List (List ℕ) = part_of window restarts d k in
    let ps : List (List (List ℕ)) = parts window restarts (next window restarts d (k, e)) ms in
    let last : List (List (List ℕ)) = part_of window restarts (left c all) l ∷ [] in
    let u = over start room rows c ls k e ms l h in
    let split : parts_now c all l ≡ (p ++ q ∷ []) ++ (ps ++ last) =
    ap (λ (x : List (List (List ℕ))). x ++ last) (lives-stay.0 c ls ((k, e) ∷ ms))
    ∙ append_assoc p (q ∷ ps) last ∙ sym (append_assoc p (q ∷ []) (ps ++ last)) in
    let empty : (j : ℕ) → get_or (ps ++ last) j [] ≡ [] =
    λ j.
    sym (get_or-append-add (p ++ q ∷ []) (ps ++ last) j [])
    ∙ ap (λ (x : List (List (List ℕ))). get_or x (length (p ++ q ∷ []) + j) []) (sym split)
    ∙ n (length (p ++ q ∷ []) + j) (omega (arith, parts-long ls c q)) in
    let then : memory_now c ls k ≡ foldl (made terms) c.memory (p ++ q ∷ []) =
    lives-memory c u.sound ls k u.lived u.living in
    let same : memory_now c all l ≡ memory_now c ls k =
    lives-memory c h.sound all l h.lived h.living
    ∙ ap (foldl (made terms) c.memory) split
    ∙ foldl-append (made terms) c.memory (p ++ q ∷ []) (ps ++ last)
    ∙ ap (λ (m : List ℕ). foldl (made terms) m (ps ++ last)) (sym then)
    ∙ none_done (ps ++ last) (memory_now c ls k) empty in
    subst (ItsOwn start (rows (length ls))) (sym same) (finished-is-its-own start room rows c ls o es u f)
