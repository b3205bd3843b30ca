-- Slots that hold the messages not yet finished, each answered one with the outcome of its carrying out; it stays so
-- when one is offered, answered or finished. Cited by Waiting.antt. Assumes nothing.
use Prim.Native.Nat.{ℕ, zero, suc, ◌+◌, ◌≤◌, ◌<◌}
use mathlib.Core.Path.{◌≡◌, sym, ◌∙◌, ap, subst}
use mathlib.Core.Option.{some}
use mathlib.Core.List.{List, [], ◌∷◌, ◌++◌, append-nil, append_assoc}
use native.Mathlib.Omega.{arith}
use native.Mathlib.Nat.{add-zero}
use lib.ListN.{length, take, get_elem?, length-append}
use lib.Seq.{take-append-le}
use Rattle.once.specs.World.{Ends}
use Rattle.once.specs.Promise.{Terms, made, results}
use Rattle.once.specs.Laws.{outcome_at}
use Rattle.once.specs.Tags.{Slot, asked, answered, message_in, mark, ready, rest}
use Rattle.once.proofs.Lists.{inside, at-end, still, one_more}
use Rattle.once.proofs.Keeps.{results-more}

-- The messages are ds, those before f are finished, and the first k can have been answered; m₀ is the memory at the
-- start.
module _ {E : Ends} (T : Terms E) (m₀ : T.Memory) where
  open E use {Message, Outcome}

  abbrev Slots : Type 0
  Slots = List (Slot Message Outcome)

  -- the slot holds message f, and where it is answered, with the outcome of its carrying out; and the slots hold those
  -- from f on
  abbrev pub Fine : List Message → ℕ → ℕ → Slot Message Outcome → Type 0
  Fine ds k f (asked d) = get_elem? ds f ≡ some d
  Fine ds k f (answered d o) = (get_elem? ds f ≡ some d) × (f < k) × (o ≡ outcome_at E T m₀ ds f d)

  abbrev pub Match : List Message → ℕ → ℕ → Slots → Type 0
  Match ds k f [] = length ds ≡ f
  Match ds k f (x ∷ l) = Fine ds k f x × Match ds k (suc f) l

  pub fine-is : (ds : List Message) (k f : ℕ) (x : Slot Message Outcome) → Fine ds k f x
      → get_elem? ds f ≡ some (message_in x)
  fine-is ds k f (asked d) h = h
  fine-is ds k f (answered d o) h = h.0

  -- so they are as many as are left, and each place holds its message
  pub match-length : (ds : List Message) (k f : ℕ) (l : Slots) → Match ds k f l → f + length l ≡ length ds
  match-length ds k f [] h = add-zero f ∙ sym h
  match-length ds k f (x ∷ l) h =
      let n : f + length (x ∷ l) ≡ suc f + length l = omega arith in
      n ∙ match-length ds k (suc f) l h.1

  pub match-at : (ds : List Message) (k f : ℕ) (l : Slots) (p : ℕ) (x : Slot Message Outcome) → Match ds k f l
      → get_elem? l p ≡ some x → Fine ds k (f + p) x
  match-at ds k f [] p x h e = let z : ◌≡◌ {A = ℕ} 0 1 = cc in absurd (omega arith)
  match-at ds k f (y ∷ l) zero x h e = let z : y ≡ x = cc in rw (add-zero, ← z) h.0
  match-at ds k f (y ∷ l) (suc p) x h e =
      let n : suc f + p ≡ f + suc p = omega arith in
      rw n at (match-at ds k (suc f) l p x h.1 e)

  -- it stays so when more can have been answered,
  fine-later : (ds : List Message) (k k' f : ℕ) (x : Slot Message Outcome) → k ≤ k' → Fine ds k f x → Fine ds k' f x
  fine-later ds k k' f (asked d) b h = h
  fine-later ds k k' f (answered d o) b h = let l = h.1 in (h.0, omega arith, h.2)

  pub match-later : (ds : List Message) (k k' f : ℕ) (l : Slots) → k ≤ k' → Match ds k f l → Match ds k' f l
  match-later ds k k' f [] b h = h
  match-later ds k k' f (x ∷ l) b h = (fine-later ds k k' f x b h.0, match-later ds k k' (suc f) l b h.1)

  -- when one more is offered,
  fine_more : (ds : List Message) (e : Message) (k f : ℕ) (x : Slot Message Outcome) → Fine ds k f x
      → Fine (ds ++ e ∷ []) k f x
  fine_more ds e k f (asked d) h = still ds (e ∷ []) f d h
  fine_more ds e k f (answered d o) h =
      let front = take-append-le f ds (e ∷ []) (omega (arith, inside ds f d h.0)) in
      (still ds (e ∷ []) f d h.0, h.1, h.2 ∙ ap (λ l. T.outcome (made T m₀ l) d) (sym front))

  pub match-more : (ds : List Message) (e : Message) (k f : ℕ) (l : Slots) → Match ds k f l
      → Match (ds ++ e ∷ []) k f (l ++ asked e ∷ [])
  match-more ds e k f [] h = (rw (← h) (at-end ds e), length-append ds (e ∷ []) ∙ omega arith)
  match-more ds e k f (x ∷ l) h = (fine_more ds e k f x h.0, match-more ds e k (suc f) l h.1)

  -- when one is answered,
  pub match-mark : (ds : List Message) (k f p : ℕ) (d : Message) (o : Outcome) (l : Slots) → Match ds k f l
      → get_elem? l p ≡ some (asked d) → f + p < k → o ≡ outcome_at E T m₀ ds (f + p) d → Match ds k f (mark p o l)
  match-mark ds k f p d o [] h e b q = h
  match-mark ds k f zero d o (asked d' ∷ l) h e b q =
      let z : d' ≡ d = cc in
      let is = q ∙ ap (λ i. outcome_at E T m₀ ds i d) (add-zero f) ∙ ap (outcome_at E T m₀ ds f) (sym z) in
      ((h.0, omega arith, is), h.1)
  match-mark ds k f zero d o (answered d' o' ∷ l) h e b q = h
  match-mark ds k f (suc p) d o (x ∷ l) h e b q =
      let n : f + suc p ≡ suc f + p = omega arith in
      (h.0, match-mark ds k (suc f) p d o l h.1 e (omega arith) (q ∙ ap (λ i. outcome_at E T m₀ ds i d) n))

  -- and when what is ready ends: its outcomes follow those before, and only answered ones end.
  pub match-rest : (ds : List Message) (k f : ℕ) (l : Slots) → Match ds k f l
      → Match ds k (f + length (ready l)) (rest l)
  match-rest ds k f [] h = rw add-zero h
  match-rest ds k f (asked d ∷ l) h = rw add-zero h
  match-rest ds k f (answered d o ∷ l) h =
      let n : suc f + length (ready l) ≡ f + length (ready (answered d o ∷ l)) = omega arith in
      subst (λ i. Match ds k i (rest l)) n (match-rest ds k (suc f) l h.1)

  pub match-ready : (ds : List Message) (k f : ℕ) (l : Slots) → Match ds k f l
      → results T m₀ (take f ds) ++ ready l ≡ results T m₀ (take (f + length (ready l)) ds)
  match-ready ds k f [] h = append-nil _ ∙ ap (λ i. results T m₀ (take i ds)) (sym (add-zero f))
  match-ready ds k f (asked d ∷ l) h = append-nil _ ∙ ap (λ i. results T m₀ (take i ds)) (sym (add-zero f))
  match-ready ds k f (answered d o ∷ l) h =
      let n : suc f + length (ready l) ≡ f + length (ready (answered d o ∷ l)) = omega arith in
      let before = results T m₀ (take f ds) in
      let one : before ++ o ∷ [] ≡ results T m₀ (take (suc f) ds) =
      ap (λ u. before ++ u ∷ []) h.0.2 ∙ sym (results-more T m₀ (take f ds) d)
      ∙ ap (results T m₀) (sym (one_more ds f d h.0.0)) in
      sym (append_assoc before (o ∷ []) (ready l)) ∙ ap (λ u. u ++ ready l) one ∙ match-ready ds k (suc f) l h.1
      ∙ ap (λ i. results T m₀ (take i ds)) n

  pub match-within : (ds : List Message) (k f : ℕ) (l : Slots) → Match ds k f l → f ≤ k → f + length (ready l) ≤ k
  match-within ds k f [] h b = omega arith
  match-within ds k f (asked d ∷ l) h b = omega arith
  match-within ds k f (answered d o ∷ l) h b = omega (arith, match-within ds k (suc f) l h.1 h.0.1)

-- the oldest that waits then is not answered
pub rest-first : {M O : Type 0} (l : List (Slot M O)) (d : M) (o : O) → get_elem? (rest l) 0 ≡ some (answered d o) → ⊥
rest-first [] d o e = let z : ◌≡◌ {A = ℕ} 0 1 = cc in absurd (omega arith)
rest-first (asked d' ∷ l) d o e = let z : ◌≡◌ {A = ℕ} 0 1 = cc in absurd (omega arith)
rest-first (answered d' o' ∷ l) d o e = rest-first l d o e

-- an offered one is not, either
pub more-first : {M O : Type 0} (l : List (Slot M O)) (e d : M) (o : O) → (get_elem? l 0 ≡ some (answered d o) → ⊥)
    → get_elem? (l ++ asked e ∷ []) 0 ≡ some (answered d o) → ⊥
more-first [] e d o n g = let z : ◌≡◌ {A = ℕ} 0 1 = cc in absurd (omega arith)
more-first (x ∷ l) e d o n g = n g

-- the answer to the oldest ends it
pub oldest-ends : {M O : Type 0} (l : List (Slot M O)) (d : M) (o : O) → get_elem? l 0 ≡ some (asked d)
    → 0 < length (ready (mark 0 o l))
oldest-ends [] d o g = let z : ◌≡◌ {A = ℕ} 0 1 = cc in absurd (omega arith)
oldest-ends (asked d' ∷ l) d o g = omega arith
oldest-ends (answered d' o' ∷ l) d o g = let z : ◌≡◌ {A = ℕ} 0 1 = cc in absurd (omega arith)
