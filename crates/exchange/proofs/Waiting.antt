-- What is lent to the sender, beside its record: the record says of each message that waits whether it is answered
-- (`Agree`), and an answer stands where its message does. The facts about the sender cite these. Assumes nothing.
use Prim.Native.Nat.{ℕ, zero, suc, ◌+◌, ◌≤◌, ◌<◌}
use mathlib.Core.Path.{◌≡◌, refl, sym, ap, ◌∙◌}
use mathlib.Core.Bool.{Bool, true, false, cond, not, ◌||◌, false≢true}
use mathlib.Core.Option.{Option, none, some, some-injective}
use mathlib.Core.List.{List, [], ◌∷◌, ◌++◌}
use native.Mathlib.Omega.{arith}
use native.Mathlib.Decide.{dec_lt}
use borrow.Author.Tests.{eqb-true, eqb-false, eq-eqb, ne_eqb}
use lib.Dec.{eqb}
use lib.ListN.{length, get_or, get_elem?, take, drop, length-append}
use Rattle.header.specs.Limits.{tag_count}
use Rattle.header.specs.Header.{tag_of}
use Rattle.initiator.specs.declared.sender.Sender.{Sender}
use Rattle.initiator.specs.Places.{most, answered_at, with_one}
use Rattle.initiator.proofs.Laws.Places.{answered-behind, one-waiting, one-answered}
use Rattle.once.specs.Tags.{asked, answered, mark, ready, rest}
use Rattle.once.proofs.Checked.{both_true}
use Rattle.exchange.specs.Outcomes.{told}
use Rattle.exchange.specs.Ends.{Waiting, Loader, awaits, with_answer, outcomes_in}
use Rattle.exchange.specs.Sight.{seen, agrees, next_by}

-- whether what is lent at a place is answered; where nothing is, it is not
abbrev pub answered_in : Option Waiting → Bool
answered_in none = false
answered_in (some (asked m)) = false
answered_in (some (answered m a)) = true

-- the record says what is lent
pub record Agree (s : Sender) (l : List Waiting) : Type 0 where
  pub many : s.waiting ≡ length l
  pub marks : (p : ℕ) → answered_at s p ≡ answered_in (get_elem? l p)

module _ (s : Sender) where
  -- from place k on
  record From (k : ℕ) (l : List Waiting) : Type 0 where
    many : s.waiting ≡ k + length l
    marks : (p : ℕ) → p < length l → answered_at s (k + p) ≡ answered_in (get_elem? l p)

  -- one message more in front
  ahead : (k : ℕ) (x : Waiting) (l : List Waiting) → answered_at s k ≡ answered_in (some x) → From (suc k) l → From k (x ∷ l)
  ahead k x l e f = record { many = f.many ∙ omega arith; marks = at }
    where
      at : (p : ℕ) → p < length (x ∷ l) → answered_at s (k + p) ≡ answered_in (get_elem? (x ∷ l) p)
      at zero h = ap (answered_at s) (omega arith) ∙ e
      at (suc p) h = let i : k + suc p ≡ suc k + p = omega arith in ap (answered_at s) i ∙ f.marks p (omega arith)

  behind : (k : ℕ) (x : Waiting) (l : List Waiting) → From k (x ∷ l) → (answered_at s k ≡ answered_in (some x)) × From (suc k) l
  behind k x l f = (
    ap (answered_at s) (omega arith) ∙ f.marks 0 (omega arith),
    record {
      many = f.many ∙ omega arith;
      marks = λ p h. let i : suc k + p ≡ k + suc p = omega arith in ap (answered_at s) i ∙ f.marks (suc p) (omega arith);
    },
  )

  not-false : (b : Bool) → not b ≡ true → b ≡ false
  not-false true e = absurd (false≢true e)
  not-false false e = refl

  from-agrees : (k : ℕ) (l : List Waiting) → agrees s k l ≡ true → From k l
  from-agrees k [] e = let i = eqb-true s.waiting k e in record { many = omega arith; marks = λ p h. absurd (omega arith) }
  from-agrees k (asked m ∷ l) e =
      let p = both_true (not (answered_at s k)) _ e in
      ahead k (asked m) l (not-false (answered_at s k) p.0) (from-agrees (suc k) l p.1)
  from-agrees k (answered m a ∷ l) e =
      let p = both_true (answered_at s k) _ e in
      ahead k (answered m a) l p.0 (from-agrees (suc k) l p.1)

  agrees_from : (k : ℕ) (l : List Waiting) → From k l → agrees s k l ≡ true
  agrees_from k [] f = eq-eqb s.waiting k (omega (arith, f.many))
  agrees_from k (asked m ∷ l) f = let p = behind k (asked m) l f in rw (p.0, agrees_from (suc k) l p.1)
  agrees_from k (answered m a ∷ l) f = let p = behind k (answered m a) l f in rw (p.0, agrees_from (suc k) l p.1)

  -- where nothing is lent, nothing is answered
  past : (l : List Waiting) (p : ℕ) → length l ≤ p → answered_in (get_elem? l p) ≡ false
  past [] p h = refl
  past (x ∷ l) zero h = absurd (omega arith)
  past (x ∷ l) (suc p) h = past l p (omega arith)

  pub to-agree : (l : List Waiting) → agrees s 0 l ≡ true → Agree s l
  to-agree l e = record { many = f.many ∙ omega arith; marks = λ p. at p (dec_lt p (length l)) }
    where
      f : From 0 l
      f = from-agrees 0 l e

      at : (p : ℕ) → Dec (p < length l) → answered_at s p ≡ answered_in (get_elem? l p)
      at p (yes h) = ap (answered_at s) (omega arith) ∙ f.marks p h
      at p (no h) = answered-behind s p (omega (arith, f.many)) ∙ sym (past l p (omega arith))

  pub from-agree : (l : List Waiting) → Agree s l → agrees s 0 l ≡ true
  from-agree l a =
      agrees_from 0 l (record { many = a.many ∙ omega arith; marks = λ p h. ap (answered_at s) (omega arith) ∙ a.marks p })

-- the next tag is one only where they agree
pub agree-next : (s : Loader) → next_by s < tag_count → (agrees s.sender 0 s.waiting ≡ true) × (next_by s ≡ s.sender.next)
agree-next s h = go (agrees s.sender 0 s.waiting) h
  where
    go : (b : Bool) → cond b s.sender.next tag_count < tag_count → (b ≡ true) × (cond b s.sender.next tag_count ≡ s.sender.next)
    go true l = (refl, refl)
    go false l = absurd (omega arith)

pub next-agreed : (s : Loader) → Agree s.sender s.waiting → next_by s ≡ s.sender.next
next-agreed s a = rw (from-agree s.sender s.waiting a)

-- one message more, not answered
pub one-agrees : (s : Sender) (l : List Waiting) (d : List ℕ) → Agree s l → length l < most → Agree (with_one s) (l ++ asked d ∷ [])
one-agrees s l d a few =
    record {
      many = one-waiting s ∙ sym (length-append l (asked d ∷ []) ∙ ap (λ n. n + 1) (sym a.many));
      marks = λ p. one-answered s (omega (arith, a.many)) p ∙ a.marks p ∙ same l p;
    }
  where
    same : (l : List Waiting) (p : ℕ) → answered_in (get_elem? l p) ≡ answered_in (get_elem? (l ++ asked d ∷ []) p)
    same [] zero = refl
    same [] (suc p) = refl
    same (x ∷ l) zero = refl
    same (x ∷ l) (suc p) = same l p

-- as it is seen
pub seen-length : (l : List Waiting) → length (seen l) ≡ length l
seen-length [] = refl
seen-length (asked m ∷ l) = ap suc (seen-length l)
seen-length (answered m a ∷ l) = ap suc (seen-length l)

pub seen_more : (l : List Waiting) (d : List ℕ) → seen (l ++ asked d ∷ []) ≡ seen l ++ asked d ∷ []
seen_more [] d = refl
seen_more (asked m ∷ l) d = ap (λ r. asked m ∷ r) (seen_more l d)
seen_more (answered m a ∷ l) d = ap (λ r. answered m (told m a) ∷ r) (seen_more l d)

-- one that is not answered, seen and lent
pub asked-lent : (l : List Waiting) (p : ℕ) (d : List ℕ) → get_elem? (seen l) p ≡ some (asked d) → get_elem? l p ≡ some (asked d)
asked-lent [] p d e = let z : ◌≡◌ {A = ℕ} 0 1 = cc in absurd (omega arith)
asked-lent (asked m ∷ l) zero d e = let i : m ≡ d = cc in ap (λ (u : List ℕ). some (asked u)) i
asked-lent (answered m a ∷ l) zero d e = let z : ◌≡◌ {A = ℕ} 0 1 = cc in absurd (omega arith)
asked-lent (asked m ∷ l) (suc p) d e = asked-lent l p d e
asked-lent (answered m a ∷ l) (suc p) d e = asked-lent l p d e

pub asked-seen : (l : List Waiting) (p : ℕ) (d : List ℕ) → get_elem? l p ≡ some (asked d) → get_elem? (seen l) p ≡ some (asked d)
asked-seen [] p d e = let z : ◌≡◌ {A = ℕ} 0 1 = cc in absurd (omega arith)
asked-seen (asked m ∷ l) zero d e = let i : m ≡ d = cc in ap (λ (u : List ℕ). some (asked u)) i
asked-seen (answered m a ∷ l) zero d e = let z : ◌≡◌ {A = ℕ} 0 1 = cc in absurd (omega arith)
asked-seen (asked m ∷ l) (suc p) d e = asked-seen l p d e
asked-seen (answered m a ∷ l) (suc p) d e = asked-seen l p d e

pub answered-seen : (l : List Waiting) (p : ℕ) (d a : List ℕ) → get_elem? l p ≡ some (answered d a) → get_elem? (seen l) p ≡ some (answered d (told d a))
answered-seen [] p d a e = let z : ◌≡◌ {A = ℕ} 0 1 = cc in absurd (omega arith)
answered-seen (asked m ∷ l) zero d a e = let z : ◌≡◌ {A = ℕ} 0 1 = cc in absurd (omega arith)
answered-seen (answered m b ∷ l) zero d a e = let i : m ≡ d = cc in let j : b ≡ a = cc in rw (i, j)
answered-seen (asked m ∷ l) (suc p) d a e = answered-seen l p d a e
answered-seen (answered m b ∷ l) (suc p) d a e = answered-seen l p d a e

-- The message of tag t that waits and is not answered: there is none, or it stands at some place.
pub awaits-none : (t : ℕ) (l : List Waiting) → ((p : ℕ) (d : List ℕ) → get_elem? l p ≡ some (asked d) → tag_of (get_or d 0 0) ≡ t → ⊥) → awaits t l ≡ none
awaits-none t [] h = refl
awaits-none t (asked m ∷ l) h =
    rw (ne_eqb (tag_of (get_or m 0 0)) t (h 0 m refl)) (awaits-none t l (λ p. h (suc p)))
awaits-none t (answered m a ∷ l) h = awaits-none t l (λ p. h (suc p))

pub awaits-some : (t : ℕ) (l : List Waiting) (d : List ℕ) → awaits t l ≡ some d → (p : ℕ) × (get_elem? l p ≡ some (asked d))
awaits-some t [] d e = let z : ◌≡◌ {A = ℕ} 0 1 = cc in absurd (omega arith)
awaits-some t (asked m ∷ l) d e = go (eqb (tag_of (get_or m 0 0)) t) (awaits-some t l d) e
  where
    go : (b : Bool) → (awaits t l ≡ some d → (p : ℕ) × (get_elem? l p ≡ some (asked d))) → cond b (some m) (awaits t l) ≡ some d
        → (p : ℕ) × (get_elem? (asked m ∷ l) p ≡ some (asked d))
    go true r q = (0, ap (λ (u : List ℕ). some (asked u)) (some-injective m d q))
    go false r q = let x = r q in (suc x.0, x.1)
awaits-some t (answered m a ∷ l) d e = let x = awaits-some t l d e in (suc x.0, x.1)

same-suc : (q p : ℕ) → eqb (suc q) (suc p) ≡ eqb q p
same-suc q p = go (eqb q p) refl
  where
    go : (b : Bool) → eqb q p ≡ b → eqb (suc q) (suc p) ≡ b
    go true e = eq-eqb (suc q) (suc p) (ap suc (eqb-true q p e))
    go false e = ne_eqb (suc q) (suc p) (λ z. eqb-false q p e (omega arith))

-- It stands at place p, and no message before it has its tag: it is the one that is awaited, and the answer a stands beside it from then on.
pub record Answering (l : List Waiting) (p t : ℕ) (d a : List ℕ) : Type 0 where
  pub awaited : awaits t l ≡ some d
  pub seen : seen (with_answer t a l) ≡ mark p (told d a) (seen l)
  pub long : length (with_answer t a l) ≡ length l
  pub marks : (q : ℕ) → answered_in (get_elem? (with_answer t a l) q) ≡ (eqb q p || answered_in (get_elem? l q))

pub answering : (l : List Waiting) (p t : ℕ) (d a : List ℕ) → get_elem? l p ≡ some (asked d) → tag_of (get_or d 0 0) ≡ t
    → ((q : ℕ) (e : List ℕ) → q < p → get_elem? l q ≡ some (asked e) → tag_of (get_or e 0 0) ≡ t → ⊥) → Answering l p t d a
answering [] p t d a e is h = let z : ◌≡◌ {A = ℕ} 0 1 = cc in absurd (omega arith)
answering (answered m b ∷ l) zero t d a e is h = let z : ◌≡◌ {A = ℕ} 0 1 = cc in absurd (omega arith)
answering (asked m ∷ l) zero t d a e is h =
    let i : m ≡ d = cc in
    let f : eqb (tag_of (get_or m 0 0)) t ≡ true = eq-eqb _ t (ap (λ (u : List ℕ). tag_of (get_or u 0 0)) i ∙ is) in
    record { awaited = rw (f, i); seen = rw (f, i); long = rw f; marks = λ q. rw f (at q) }
  where
    at : (q : ℕ) → answered_in (get_elem? (answered m a ∷ l) q) ≡ (eqb q 0 || answered_in (get_elem? (asked m ∷ l) q))
    at zero = refl
    at (suc q) = rw (ne_eqb (suc q) 0 (λ (z : suc q ≡ 0). omega arith))
answering (asked m ∷ l) (suc p) t d a e is h =
    let f : eqb (tag_of (get_or m 0 0)) t ≡ false = ne_eqb (tag_of (get_or m 0 0)) t (h 0 m (omega arith) refl) in
    let r = answering l p t d a e is (λ q x k. h (suc q) x (omega arith)) in
    record {
      awaited = rw f r.awaited;
      seen = rw f (ap (λ u. asked m ∷ u) r.seen);
      long = rw f (ap suc r.long);
      marks = λ q. rw f (at q r.marks);
    }
  where
    at : (q : ℕ) → ((q : ℕ) → answered_in (get_elem? (with_answer t a l) q) ≡ (eqb q p || answered_in (get_elem? l q)))
        → answered_in (get_elem? (asked m ∷ with_answer t a l) q) ≡ (eqb q (suc p) || answered_in (get_elem? (asked m ∷ l) q))
    at zero r = rw (ne_eqb 0 (suc p) (λ (z : 0 ≡ suc p). omega arith))
    at (suc q) r = rw (same-suc q p) (r q)
answering (answered m b ∷ l) (suc p) t d a e is h =
    let r = answering l p t d a e is (λ q x k. h (suc q) x (omega arith)) in
    record {
      awaited = r.awaited;
      seen = ap (λ u. answered m (told m b) ∷ u) r.seen;
      long = ap suc r.long;
      marks = λ q. at q r.marks;
    }
  where
    at : (q : ℕ) → ((q : ℕ) → answered_in (get_elem? (with_answer t a l) q) ≡ (eqb q p || answered_in (get_elem? l q)))
        → answered_in (get_elem? (answered m b ∷ with_answer t a l) q) ≡ (eqb q (suc p) || answered_in (get_elem? (answered m b ∷ l) q))
    at zero r = rw (ne_eqb 0 (suc p) (λ (z : 0 ≡ suc p). omega arith))
    at (suc q) r = rw (same-suc q p) (r q)

-- The first e are answered and the one behind them is not: they are what is ready, and the others what is left.
pub record Cut (e : ℕ) (l : List Waiting) : Type 0 where
  pub outcomes : outcomes_in (take e l) ≡ ready (seen l)
  pub left : seen (drop e l) ≡ rest (seen l)
  pub many : length (ready (seen l)) ≡ e

pub cut : (e : ℕ) (l : List Waiting) → ((q : ℕ) → q < e → answered_in (get_elem? l q) ≡ true) → answered_in (get_elem? l e) ≡ false → Cut e l
cut zero [] h n = record { outcomes = refl; left = refl; many = refl }
cut zero (asked m ∷ l) h n = record { outcomes = refl; left = refl; many = refl }
cut zero (answered m a ∷ l) h n = absurd (false≢true (sym n))
cut (suc e) [] h n = absurd (false≢true (h 0 (omega arith)))
cut (suc e) (asked m ∷ l) h n = absurd (false≢true (h 0 (omega arith)))
cut (suc e) (answered m a ∷ l) h n =
    let r = cut e l (λ q k. h (suc q) (omega arith)) n in
    record { outcomes = ap (λ u. told m a ∷ u) r.outcomes; left = r.left; many = ap suc r.many }

-- what stands behind the first e
pub behind-cut : (e : ℕ) (l : List Waiting) (q : ℕ) → get_elem? (drop e l) q ≡ get_elem? l (q + e)
behind-cut zero l q = ap (get_elem? l) (omega arith)
behind-cut (suc e) [] q = refl
behind-cut (suc e) (x ∷ l) q =
    let i : suc (q + e) ≡ q + suc e = omega arith in
    behind-cut e l q ∙ ap (get_elem? (x ∷ l)) i
