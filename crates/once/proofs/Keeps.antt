-- Under the laws, each allowed event keeps an invariant. Cited by Promise.antt, which draws the promise from it.
-- Assumes nothing.
use Prim.Native.Nat.{ℕ, zero, suc, ◌+◌, ◌≤◌, ◌<◌}
use mathlib.Core.Path.{◌≡◌, refl, sym, ◌∙◌, ap, subst}
use mathlib.Core.Bool.{true, false}
use mathlib.Core.Logic.{⊎_elim}
use mathlib.Core.Option.{Option, none, some}
use mathlib.Core.List.{List, [], ◌∷◌, ◌++◌, append-nil}
use native.Mathlib.Omega.{arith}
use native.Mathlib.Decide.{dec_lt, dec_le, ℕ_discrete}
use native.Mathlib.Nat.{not-suc-le-zero}
use borrow.Author.Tests.{eq-eqb, ne_eqb, lt-ltb, le-ltb}
use lib.ListN.{length, take, get_elem?, length-append}
use lib.Seq.{take-append-le, length-take-le, take-take}
use Rattle.once.specs.World.{Ends, Event, offer, send, arrive, back, other, Origin, message, stranger, World, accepted, start, finished, sent, given, gave, came, took, heard, room, step}
use Rattle.once.specs.Promise.{Terms, Ages, Timely, Allowed, made, results}
use Rattle.once.specs.Laws.{Refused, outcome_at, Heard, Laws}
use Rattle.once.proofs.Lists.{each_more, inside, still, newly, among, one_more}

-- there are as many outcomes as messages
length-results : {E : Ends} (T : Terms E) (m : T.Memory) (ds : List E.Message) → length (results T m ds) ≡ length ds
length-results T m [] = refl
length-results T m (d ∷ ds) = ap suc (length-results T (T.carry m d) ds)

-- one more message has one more outcome
pub results-more : {E : Ends} (T : Terms E) (m : T.Memory) (ds : List E.Message) (d : E.Message) →
    results T m (ds ++ d ∷ []) ≡ results T m ds ++ T.outcome (made T m ds) d ∷ []
results-more T m [] d = refl
results-more T m (e ∷ ds) d = ap (λ l. T.outcome m e ∷ l) (results-more T (T.carry m e) ds d)

-- outcome i of the first f messages is that of message i, over memory as the ones before it made it
pub results_at : {E : Ends} (T : Terms E) (m : T.Memory) (ds : List E.Message) (f i : ℕ) (o : E.Outcome) → get_elem? (results T m (take f ds)) i ≡ some o
    → (d : E.Message) × (get_elem? ds i ≡ some d) × (o ≡ T.outcome (made T m (take i ds)) d)
results_at T m ds zero i o e = let z : ◌≡◌ {A = ℕ} 0 1 = cc in absurd (omega arith)
results_at T m [] (suc f) i o e = let z : ◌≡◌ {A = ℕ} 0 1 = cc in absurd (omega arith)
results_at T m (d ∷ ds) (suc f) zero o e = (d, refl, cc)
results_at T m (d ∷ ds) (suc f) (suc i) o e = results_at T (T.carry m d) ds f i o e

module _ {E : Ends} {T : Terms E} {W : ℕ} {A : Ages} {c₀ : E.Controller} {s₀ : E.Sender} (L : Laws E T W A c₀ s₀) where
  open E use {Message, Datagram, Outcome, Lent, Controller, Sender}

  abbrev m₀ : T.Memory
  m₀ = T.memory c₀

  -- What is in the air, the messages ds being offered: nothing, or a copy of the message.
  pub data Flown (ds : List Message) : ℕ × Option Datagram → Type 0 where
    nothing : {i : ℕ} → Flown ds (i, none)
    copy : {i : ℕ} {d : Message} {x : Datagram} → get_elem? ds i ≡ some d → L.Copy d x → Flown ds (i, some x)

  -- What the controller gave, k messages being taken: nothing, the answer to one of them, or one that answers no message.
  pub data Fine (ds : List Message) (k : ℕ) : Origin × Option Datagram → Type 0 where
    silent : {o : Origin} → Fine ds k (o, none)
    answer : {i : ℕ} {d : Message} {a : Datagram} → i < k → get_elem? ds i ≡ some d → L.Answer d (outcome_at E T m₀ ds i d) a → Fine ds k (message i, some a)
    strange : {a : Datagram} → L.Strange a → Fine ds k (stranger, some a)

  -- f is the number finished, by a name of its own, so that an answer can move it.
  pub record Inv (w : World E) : Type 0 where
    pub f : ℕ
    pub f-is : finished E w ≡ f
    pub took : L.Took (take w.taken w.offered) w.controller
    pub has : L.Has w.offered w.taken f w.sender
    pub below : w.taken ≤ length w.offered
    pub few : length w.offered ≤ f + W
    pub outs : w.outcomes ≡ results T m₀ (take f w.offered)
    pub numbered : (i : ℕ) (d : Message) → get_elem? w.offered i ≡ some d → L.Numbered i d
    pub air : (j : ℕ) → j < length w.air → Flown w.offered (sent E w j)
    pub answers : (n : ℕ) → n < length w.answers → Fine w.offered w.taken (given E w n)

  -- It holds at the start.
  pub inv-start : Inv (start E c₀ s₀)
  inv-start =
      record {
        f = 0;
        f-is = refl;
        took = L.took-none;
        has = L.has-none;
        below = omega arith;
        few = omega arith;
        outs = refl;
        numbered = λ i d e. let z : ◌≡◌ {A = ℕ} 0 1 = cc in absurd (omega arith);
        air = λ j h. absurd (not-suc-le-zero h);
        answers = λ n h. absurd (not-suc-le-zero h);
      }

  -- An answer's outcome is by the messages before its own alone.
  by-those-before : (d : Message) {a : Datagram} {l r : List Message} → l ≡ r → L.Answer d (T.outcome (made T m₀ r) d) a → L.Answer d (T.outcome (made T m₀ l) d) a
  by-those-before d {a} e h = subst (λ l. L.Answer d (T.outcome (made T m₀ l) d) a) (sym e) h

  -- What flew, and what was fine, stays so when more is offered.
  flown-more : (ds es : List Message) (y : ℕ × Option Datagram) → Flown ds y → Flown (ds ++ es) y
  flown-more ds es y nothing = nothing
  flown-more ds es y (copy e x) = copy (still ds es _ _ e) x

  fine_more : (ds es : List Message) (k : ℕ) (y : Origin × Option Datagram) → Fine ds k y → Fine (ds ++ es) k y
  fine_more ds es k y silent = silent
  fine_more ds es k y (answer {i = i} {d = d} {a = a} l e h) =
      let b : i ≤ length ds = omega (arith, inside ds i d e) in
      answer {d = d} {a = a} l (still ds es i d e) (by-those-before d (take-append-le i ds es b) h)
  fine_more ds es k y (strange h) = strange h

  -- It stays fine when more is taken.
  fine-later : (ds : List Message) (k l : ℕ) (y : Origin × Option Datagram) → k ≤ l → Fine ds k y → Fine ds l y
  fine-later ds k l y h silent = silent
  fine-later ds k l y h (answer {i = i} b e p) = answer {i = i} (omega arith) e p
  fine-later ds k l y h (strange p) = strange p

  -- An offer keeps it, accepted or refused.
  inv-offer : (w : World E) (d : Message) → Inv w → Allowed E T W A w (offer d) → Inv (step E W w (offer d))
  inv-offer w d v a = by (dec_lt (length w.offered) (finished E w + W))
    where
      by : Dec (length w.offered < finished E w + W) → Inv (step E W w (offer d))
      by (yes h) =
          let t : room E W w ≡ true = lt-ltb (length w.offered) (finished E w + W) h in
          let q = L.offers v.has (omega (arith, v.f-is)) (a t) in
          let b = v.below in
          let u = L.within v.has in
          rw t
          record {
            f = v.f;
            f-is = v.f-is;
            took = rw (take-append-le w.taken w.offered (d ∷ []) b) v.took;
            has = q.1;
            below = omega (arith, length-append w.offered (d ∷ []));
            few = omega (arith, length-append w.offered (d ∷ []), v.f-is);
            outs = rw (take-append-le v.f w.offered (d ∷ []) (omega arith)) v.outs;
            numbered = λ i e h'. ⊎_elim (λ x. v.numbered i e x) (λ x. rw (x.0, ← x.1) q.0) (newly w.offered d i e h');
            air = λ j l. flown-more w.offered (d ∷ []) _ (v.air j l);
            answers = λ n l. fine_more w.offered (d ∷ []) w.taken _ (v.answers n l);
          }
      by (no h) =
          let t : room E W w ≡ false = le-ltb (length w.offered) (finished E w + W) (omega arith) in
          rw t
          record {
            f = v.f;
            f-is = v.f-is;
            took = v.took;
            has = L.full d v.has (omega (arith, v.f-is));
            below = v.below;
            few = v.few;
            outs = v.outs;
            numbered = v.numbered;
            air = v.air;
            answers = v.answers;
          }

  -- What a send hands back is nothing, or a copy of a message that waits.
  flown-sent : (w : World E) (p : ℕ) → Inv w → p < W → (y : Option Datagram) → E.send w.sender p ≡ y → Flown w.offered (finished E w + p, y)
  flown-sent w p v h none e = nothing
  flown-sent w p v h (some x) e =
      let q = L.sends p v.has h e in
      copy (ap (λ n. get_elem? w.offered (n + p)) v.f-is ∙ q.1) q.2

  -- What the controller did with a copy of message i: what it has accepted then, what it gave, and that one of the last W is answered.
  pub record Served (w : World E) (i : ℕ) (r : Controller × Option Datagram) : Type 0 where
    pub state : L.Took (take (accepted i w.taken) w.offered) r.0
    pub up : w.taken ≤ accepted i w.taken
    pub within : accepted i w.taken ≤ length w.offered
    pub fine : Fine w.offered (accepted i w.taken) (message i, r.1)
    pub answered : i ≤ w.taken → w.taken ≤ i + W → (a : Datagram) × (r.1 ≡ some a)

  pub served : (w : World E) (i : ℕ) (d : Message) (x : Datagram) (b : Lent) → Inv w → get_elem? w.offered i ≡ some d → L.Copy d x →
      w.taken ≤ i + A.request → T.Lendable b → Served w i (E.serve w.controller b x)
  served w i d x b v e p old l = by (ℕ_discrete i w.taken) (dec_lt i w.taken) (dec_le w.taken (i + W))
    where
      in_list : i < length w.offered
      in_list = inside w.offered i d e

      many : length (take w.taken w.offered) ≡ w.taken
      many = length-take-le w.taken w.offered v.below

      -- it was refused, and nothing happened
      refuse : (i ≡ w.taken → ⊥) → (i ≤ w.taken → w.taken ≤ i + W → ⊥) →
          Refused E (L.Took (take w.taken w.offered)) (E.serve w.controller b x) → Served w i (E.serve w.controller b x)
      refuse n o q =
          let t = ne_eqb i w.taken n in
          record {
            state = rw t q.state;
            up = rw t (omega arith);
            within = rw t v.below;
            fine = rw q.nothing silent;
            answered = λ h h'. absurd (o h h');
          }

      by : Dec (i ≡ w.taken) → Dec (i < w.taken) → Dec (w.taken ≤ i + W) → Served w i (E.serve w.controller b x)
      by (yes y) s o =
          let q = L.next v.took (rw many (rw y at (v.numbered i d e))) p l in
          let t = eq-eqb i w.taken y in
          let e' : get_elem? w.offered w.taken ≡ some d = rw y at e in
          let n = by-those-before d (ap (λ n. take n w.offered) y) (rw (L.carried v.took) at q.says) in
          record {
            state = rw (t, one_more w.offered w.taken d e') q.state;
            up = rw t (omega arith);
            within = rw t (omega (arith, in_list));
            fine = rw (t, q.given) (answer {i = i} {a = q.answer} (omega arith) e n);
            answered = λ h h'. (q.answer, q.given);
          }
      by (no y) (yes s) (yes o) =
          let q = L.again i v.took (among w.taken w.offered i s ∙ e) (omega (arith, many)) p l in
          let t = ne_eqb i w.taken y in
          record {
            state = rw t q.state;
            up = rw t (omega arith);
            within = rw t v.below;
            fine = rw (t, q.given) (answer s e (by-those-before d (sym (take-take i w.taken w.offered (omega arith))) q.says));
            answered = λ h h'. (q.answer, q.given);
          }
      by (no y) (yes s) (no o) =
          refuse y (λ h h'. o h') (L.late i v.took (among w.taken w.offered i s ∙ e) (omega (arith, many)) (omega (arith, many)) p l)
      by (no y) (no s) o =
          let b = L.within v.has in
          refuse y (λ h h'. y (omega arith)) (L.early i v.took (v.numbered i d e) (omega (arith, many)) (omega (arith, many, in_list, v.few)) p l)

  -- It is kept where the controller gave something fine, and no fewer messages are taken.
  inv-gave : (w : World E) (from : Origin) (k : ℕ) (r : Controller × Option Datagram) → Inv w → L.Took (take k w.offered) r.0 → w.taken ≤ k →
      k ≤ length w.offered → Fine w.offered k (from, r.1) → Inv (gave E w from k r)
  inv-gave w from k r v t u h y =
      record {
        f = v.f;
        f-is = v.f-is;
        took = t;
        has = L.later k u v.has;
        below = h;
        few = v.few;
        outs = v.outs;
        numbered = v.numbered;
        air = v.air;
        answers =
            each_more (Fine w.offered k) w.answers (from, r.1) (stranger, none) y (λ n l. fine-later w.offered w.taken k _ u (v.answers n l));
      }

  -- The arrival of what was sent keeps it.
  inv-came : (w : World E) (b : Lent) (y : ℕ × Option Datagram) → Inv w → Flown w.offered y → w.taken ≤ y.0 + A.request → T.Lendable b →
      Inv (came E w b y.0 y.1)
  inv-came w b y v nothing o l = inv-gave w _ _ _ v v.took (omega arith) v.below silent
  inv-came w b y v (copy e p) o l = let q = served w _ _ _ b v e p o l in inv-gave w _ _ _ v q.state q.up q.within q.fine

  -- What was given to a quiet datagram is fine.
  fine-quiet : (ds : List Message) (k : ℕ) (y : Option Datagram) → ((a : Datagram) → y ≡ some a → L.Strange a) → Fine ds k (stranger, y)
  fine-quiet ds k none h = silent
  fine-quiet ds k (some a) h = strange (h a refl)

  -- The sender took an answer, and the outcomes are now those of the messages before g: so many are finished.
  pub finished-took : (w : World E) (r : Sender × List Outcome) (g : ℕ) (v : Inv w) →
      results T m₀ (take v.f w.offered) ++ r.1 ≡ results T m₀ (take g w.offered) → L.Has w.offered w.taken g r.0 → finished E (took E w r) ≡ g
  finished-took w r g v e h =
      let b : g ≤ length w.offered = omega (arith, L.within h, v.below) in
      rw v.outs (ap length e ∙ length-results T m₀ (take g w.offered) ∙ length-take-le g w.offered b)

  -- That keeps it.
  inv-took : (w : World E) (r : Sender × List Outcome) (g : ℕ) (v : Inv w) → v.f ≤ g →
      results T m₀ (take v.f w.offered) ++ r.1 ≡ results T m₀ (take g w.offered) → L.Has w.offered w.taken g r.0 → Inv (took E w r)
  inv-took w r g v u e h =
      record {
        f = g;
        f-is = finished-took w r g v e h;
        took = v.took;
        has = h;
        below = v.below;
        few = omega (arith, v.few);
        outs = rw v.outs e;
        numbered = v.numbered;
        air = v.air;
        answers = v.answers;
      }

  -- what the sender does with the answer to message i
  pub hearing : (w : World E) (i : ℕ) (d : Message) (a : Datagram) (v : Inv w) → i < w.taken → get_elem? w.offered i ≡ some d →
      L.Answer d (outcome_at E T m₀ w.offered i d) a → Timely E T W A w (message i) → Heard E T (L.Has w.offered w.taken) m₀ w.offered v.f i (E.take w.sender a)
  hearing w i d a v l e p t = L.hears i v.has l e (λ q. t (omega (arith, v.f-is))) p

  -- What comes back to the sender keeps it.
  inv-heard : (w : World E) (y : Origin × Option Datagram) → Inv w → Fine w.offered w.taken y → Timely E T W A w y.0 → Inv (heard E w y.1)
  inv-heard w y v silent t = v
  inv-heard w y v (answer l e p) t = let q = hearing w _ _ _ v l e p t in inv-took w _ q.upto v q.up q.outcomes q.state
  inv-heard w y v (strange p) t = let q = L.ignores v.has p in inv-took w _ v.f v (omega arith) (rw q.0 (append-nil _)) q.1

  -- Each allowed event keeps the invariant.
  pub inv-step : (w : World E) (e : Event E) → Inv w → Allowed E T W A w e → Inv (step E W w e)
  inv-step w (offer d) v a = inv-offer w d v a
  inv-step w (send p) v a =
      record {
        f = v.f;
        f-is = v.f-is;
        took = v.took;
        has = v.has;
        below = v.below;
        few = v.few;
        outs = v.outs;
        numbered = v.numbered;
        air = each_more (Flown w.offered) w.air _ (0, none) (flown-sent w p v a _ refl) v.air;
        answers = v.answers;
      }
  inv-step w (arrive j b) v a = inv-came w b (sent E w j) v (v.air j a.0) a.1 a.2
  inv-step w (back n) v a = inv-heard w (given E w n) v (v.answers n a.0) a.1
  inv-step w (other x b) v a =
      let q = L.quiet v.took a.0 a.1 in
      inv-gave w _ _ _ v q.0 (omega arith) v.below (fine-quiet _ _ _ q.1)
