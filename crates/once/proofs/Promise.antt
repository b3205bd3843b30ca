-- The theorems: ends that meet the laws keep the promise. Cited by Tagged.antt and, for other
-- ends, by the crates above.
-- Assumes nothing.
use Prim.Native.Nat.{ℕ, ◌+◌, ◌≤◌, ◌<◌}
use mathlib.Core.Path.{◌≡◌, refl, ◌∙◌, ap}
use mathlib.Core.Bool.{cond}
use mathlib.Core.Option.{Option, none, some}
use mathlib.Core.List.{List, [], ◌∷◌, ◌++◌}
use native.Mathlib.Omega.{arith}
use native.Mathlib.Decide.{dec_lt}
use native.Mathlib.Nat.{add-zero}
use borrow.Author.Tests.{lt-ltb, le-ltb}
use lib.ListN.{length, length-append}
use lib.Seq.{get_or-append_seam, take_all}
use Rattle.once.specs.Runs.{run, Always, rounds}
use Rattle.once.specs.World.{Ends, Event, offer, send, arrive, back, other, Origin, message, stranger, World, start, finished, sent, given, came, heard, room, step}
use Rattle.once.specs.Promise.{Terms, Ages, Timely, Allowed, made, results, Safe, Good, AllowedRun, after, Safety, Progress, Extends}
use Rattle.once.specs.Laws.{Laws}
use Rattle.once.proofs.Runs.{run-append, always-append, always-join, always-keeps, rounds-do}
use Rattle.once.proofs.Lists.{Onto, onto, onto_same, onto-onto, onto-length, onto-at, there}
use Rattle.once.proofs.Keeps.{Flown, nothing, copy, Fine, silent, answer, strange, Inv, inv-start, inv-step, served, hearing, finished-took}

-- What was handed over, sent or given stays so, and more may follow.
record Grown {E : Ends} (w w' : World E) : Type 0 where
  outs : Onto w.outcomes w'.outcomes
  air : Onto w.air w'.air
  answers : Onto w.answers w'.answers

module _ {E : Ends} (W : ℕ) where
  -- no event takes back what happened
  grown-step : (w : World E) (e : Event E) → Grown w (step E W w e)
  grown-step w (offer d) = record { outs = onto_same _; air = onto_same _; answers = onto_same _ }
  grown-step w (send p) = record { outs = onto_same _; air = onto _ _; answers = onto_same _ }
  grown-step w (arrive j b) = by (sent E w j).1
    where
      by : (y : Option E.Datagram) → Grown w (came E w b (sent E w j).0 y)
      by none = record { outs = onto_same _; air = onto_same _; answers = onto _ _ }
      by (some x) = record { outs = onto_same _; air = onto_same _; answers = onto _ _ }
  grown-step w (back n) = by (given E w n).1
    where
      by : (y : Option E.Datagram) → Grown w (heard E w y)
      by none = record { outs = onto_same _; air = onto_same _; answers = onto_same _ }
      by (some a) = record { outs = onto _ _; air = onto_same _; answers = onto_same _ }
  grown-step w (other x b) = record { outs = onto_same _; air = onto_same _; answers = onto _ _ }

  grown-run : (w : World E) (es : List (Event E)) → Grown w (run (step E W) w es)
  grown-run w [] = record { outs = onto_same _; air = onto_same _; answers = onto_same _ }
  grown-run w (e ∷ es) =
      let p = grown-step w e in
      let q = grown-run (step E W w e) es in
      record { outs = onto-onto p.outs q.outs; air = onto-onto p.air q.air; answers = onto-onto p.answers q.answers }

  -- so what is finished stays so
  pub finished-up : (w : World E) (es : List (Event E)) → finished E w ≤ finished E (run (step E W) w es)
  finished-up w es = onto-length (grown-run w es).outs

-- When all that was offered is finished, memory and outcomes are those of the whole list.
pub whole : {E : Ends} {T : Terms E} {W : ℕ} {m : T.Memory} {w : World E} → Safe E T W m w → length w.offered ≤ finished E w →
    (T.memory w.controller ≡ made T m w.offered) × (w.outcomes ≡ results T m w.offered)
whole {E} {T} {W} {m} {w} p e =
    let k : length w.offered ≤ p.k = omega (arith, p.finished-or) in
    (p.memory ∙ ap (made T m) (take_all p.k w.offered k), p.outcomes ∙ ap (results T m) (take_all (finished E w) w.offered e))

module _ {E : Ends} {T : Terms E} {W : ℕ} {A : Ages} {c : E.Controller} {s : E.Sender} (L : Laws E T W A c s) where
  -- the invariant after an allowed run
  pub inv-after : (es : List (Event E)) → AllowedRun E T W A c s es → Inv L (after E W c s es)
  inv-after es a = always-keeps (step E W) (Allowed E T W A) (Inv L) (inv-step L) (start E c s) es (inv-start L) a

  -- "memory is always what the first k messages, each carried out once in order, make of it"
  pub safety : Safety E T W A c s
  safety es a =
      let v = inv-after es a in
      record {
        k = (after E W c s es).taken;
        finished-or = omega (arith, v.f-is, L.within v.has);
        more = omega (arith, v.f-is, v.below, v.few);
        offered = v.below;
        memory = L.carried v.took;
        outcomes = rw v.f-is v.outs;
      }

  -- k is how many are taken
  pub safety-taken : (es : List (Event E)) (a : AllowedRun E T W A c s es) → (safety es a).k ≡ (after E W c s es).taken
  unfolding safety
  safety-taken es a = refl

  -- A copy of the oldest unfinished message comes: the controller answers it.
  answers-it : (w : World E) (b : E.Lent) (y : ℕ × Option E.Datagram) (i : ℕ) (x : E.Datagram) → Inv L w → Flown L w.offered y → y ≡ (i, some x) →
      i ≡ finished E w → w.taken ≤ y.0 + A.request → T.Lendable b →
      (a : E.Datagram) × (length w.answers < length (came E w b y.0 y.1).answers) × (given E (came E w b y.0 y.1) (length w.answers) ≡ (message i, some a))
  answers-it w b y i x v nothing e f o l = let z : ◌≡◌ {A = ℕ} 0 1 = cc (ap (λ u. u.1) e) in absurd (omega arith)
  answers-it w b y i x v (copy {i = j} {d = d} {x = x'} g p) e f o l =
      let ij : j ≡ i = ap (λ u. u.0) e in
      let q = served L w j d x' b v g p o l in
      let a = q.answered (omega (arith, v.f-is, L.within v.has)) (omega (arith, v.f-is, v.below, v.few)) in (
        a.0,
        simp length-append (omega arith),
        get_or-append_seam w.answers _ [] (stranger, none) ∙ ap (λ u. (message u, (E.serve w.controller b x').1)) ij ∙ ap (λ u. (message i, u)) a.1,
      )

  -- Its answer is back: it is finished.
  ends_it : (w : World E) (y : Origin × Option E.Datagram) (i : ℕ) (a : E.Datagram) → Inv L w → Fine L w.offered w.taken y → y ≡ (message i, some a) →
      i ≡ finished E w → Timely E T W A w y.0 → i < finished E (heard E w y.1)
  ends_it w y i a v silent e f t = let z : ◌≡◌ {A = ℕ} 0 1 = cc (ap (λ u. u.1) e) in absurd (omega arith)
  ends_it w y i a v (answer {i = j} {d = d} {a = a'} l g p) e f t =
      let ij : j ≡ i = cc (ap (λ u. u.0) e) in
      let q = hearing L w j d a' v l g p t in
      omega (arith, q.oldest (omega (arith, v.f-is)), finished-took L w _ q.upto v q.outcomes q.state, v.f-is)
  ends_it w y i a v (strange p) e f t = let z : ◌≡◌ {A = ℕ} 0 1 = cc (ap (λ u. u.0) e) in absurd (omega arith)

  -- A good round finishes a message.
  good : (w : World E) (r : List (Event E)) → Inv L w → Always (step E W) (Allowed E T W A) w (send 0 ∷ r) → Good E W w r →
      finished E w < finished E (run (step E W) w (send 0 ∷ r))
  good w r v al g =
      rw (g.is, run-append (step E W) w₁ g.first _, run-append (step E W) w₃ g.between _) (by₂ (dec_lt (finished E w) (finished E w₂)))
    where
      w₁ : World E
      w₁ = step E W w (send 0)

      w₂ : World E
      w₂ = run (step E W) w₁ g.first

      e₂ : Event E
      e₂ = arrive (length w.air) g.lent

      w₃ : World E
      w₃ = step E W w₂ e₂

      w₄ : World E
      w₄ = run (step E W) w₃ g.between

      e₄ : Event E
      e₄ = back (length w₂.answers)

      w₅ : World E
      w₅ = step E W w₄ e₄

      p : Always (step E W) (Allowed E T W A) w₁ g.first × Always (step E W) (Allowed E T W A) w₂ (e₂ ∷ (g.between ++ e₄ ∷ g.last))
      p = always-append (step E W) (Allowed E T W A) w₁ g.first _ (rw g.is at al.1)

      q : Always (step E W) (Allowed E T W A) w₃ g.between × Always (step E W) (Allowed E T W A) w₄ (e₄ ∷ g.last)
      q = always-append (step E W) (Allowed E T W A) w₃ g.between _ p.1.1

      v₁ : Inv L w₁
      v₁ = inv-step L w (send 0) v al.0

      v₂ : Inv L w₂
      v₂ = always-keeps (step E W) (Allowed E T W A) (Inv L) (inv-step L) w₁ g.first v₁ p.0

      v₃ : Inv L w₃
      v₃ = inv-step L w₂ e₂ v₂ p.1.0

      v₄ : Inv L w₄
      v₄ = always-keeps (step E W) (Allowed E T W A) (Inv L) (inv-step L) w₃ g.between v₃ q.0

      -- what is sent is a copy of the oldest message
      flies : (x : E.Datagram) × (sent E w₂ (length w.air) ≡ (finished E w, some x))
      flies =
          let d = there w.offered v.f (omega (arith, v.f-is, g.waits)) in
          let x = L.oldest v.has d.1 in
          let stays = onto-at (0, none) (length w.air) (grown-run W w₁ g.first).air (simp length-append (omega arith)) in
          (x.0, stays ∙ get_or-append_seam w.air _ [] (0, none) ∙ rw (add-zero, x.1) refl)

      -- its answer is back: it is finished by then, or now
      by₄ : (a : E.Datagram) → length w₂.answers < length w₃.answers → given E w₃ (length w₂.answers) ≡ (message (finished E w), some a) →
          Dec (finished E w < finished E w₄) → finished E w < finished E (run (step E W) w₅ g.last)
      by₄ a l e (yes y) = omega (arith, finished-up W w₄ (e₄ ∷ g.last))
      by₄ a l e (no y) =
          let same = onto-at (stranger, none) (length w₂.answers) (grown-run W w₃ g.between).answers l ∙ e in
          let i : finished E w ≡ finished E w₄ = omega (arith, finished-up W w₁ g.first, finished-up W w₂ (e₂ ∷ g.between)) in
          let now = ends_it w₄ (given E w₄ (length w₂.answers)) (finished E w) a v₄ (v₄.answers _ q.1.0.0) same i q.1.0.1 in
          omega (arith, now, finished-up W w₅ g.last)

      -- it arrives: it is finished by then, or is answered
      by₂ : Dec (finished E w < finished E w₂) → finished E w < finished E (run (step E W) w₅ g.last)
      by₂ (yes y) = omega (arith, finished-up W w₂ (e₂ ∷ g.between), finished-up W w₄ (e₄ ∷ g.last))
      by₂ (no y) =
          let f = flies in
          let i : finished E w ≡ finished E w₂ = omega (arith, finished-up W w₁ g.first) in
          let b = p.1.0 in
          let a = answers-it w₂ g.lent (sent E w₂ (length w.air)) (finished E w) f.0 v₂ (v₂.air _ b.0) f.1 i b.1 b.2 in
          by₄ a.0 a.1 a.2 (dec_lt (finished E w) (finished E w₄))

  -- "all are finished by send N times L"
  pub progress : Progress E T W A c s
  progress es rs K L' a often h =
      let p = always-append (step E W) (Allowed E T W A) (start E c s) es (rounds (step E W) (send 0) rs) a in
      let w = after E W c s es in
      let v = inv-after es p.0 in
      rw run-append
      (rounds-do (step E W) (send 0) (Allowed E T W A) (Good E W) (Inv L) (finished E) (inv-step L) (finished-up W) good w rs K L' v p.1 often h)

  -- What the controller gives to a copy of message i may come back at once, if i is of age.
  back-allowed : (w : World E) (b : E.Lent) (i : ℕ) (y : Option E.Datagram) → length w.offered ≤ i + A.answer →
      Allowed E T W A (came E w b i y) (back (length w.answers))
  back-allowed w b i none h = (simp length-append (omega arith), rw (get_or-append_seam w.answers (message i, none) [] (stranger, none)) (λ q. h))
  back-allowed w b i (some x) h =
      (simp length-append (omega arith), rw (get_or-append_seam w.answers (message i, (E.serve w.controller b x).1) [] (stranger, none)) (λ q. h))

  -- A send, its arrival and its answer are allowed.
  round-allowed : 0 < W → W ≤ A.request → W ≤ A.answer → (w : World E) (b : E.Lent) → Inv L w → T.Lendable b →
      Always (step E W) (Allowed E T W A) w (send 0 ∷ arrive (length w.air) b ∷ back (length w.answers) ∷ [])
  round-allowed pos req ans w b v l =
      let e : sent E (step E W w (send 0)) (length w.air) ≡ (finished E w + 0, E.send w.sender 0) = get_or-append_seam w.air _ [] (0, none) in (
        pos,
        (
          (simp length-append (omega arith), rw e (omega (arith, v.f-is, v.below, v.few)), l),
          (rw e (back-allowed (step E W w (send 0)) b (finished E w + 0) (E.send w.sender 0) (omega (arith, v.f-is, v.few))), tt),
        ),
      )

  -- After an offer, accepted or not, a message waits.
  one-waits : 0 < W → (w : World E) (d : E.Message) → Inv L w → finished E (step E W w (offer d)) < length (step E W w (offer d)).offered
  one-waits pos w d v = by (dec_lt (length w.offered) (finished E w + W))
    where
      by : Dec (length w.offered < finished E w + W) → finished E w < length (cond (room E W w) (w.offered ++ d ∷ []) w.offered)
      by (yes h) =
          rw (lt-ltb (length w.offered) (finished E w + W) h)
          (omega (arith, length-append w.offered (d ∷ []), v.f-is, v.below, L.within v.has))
      by (no h) = rw (le-ltb (length w.offered) (finished E w + W) (omega arith)) (omega arith)

  -- The premises can always be met further, where a message may wait and the ages are no less than the window.
  pub extends : 0 < W → W ≤ A.request → W ≤ A.answer → Extends E T W A c s
  extends pos req ans es d b a o l =
      let w = after E W c s es in
      let v = inv-after es a in
      let w₁ = step E W w (offer d) in
      let r = arrive (length w₁.air) b ∷ back (length w₁.answers) ∷ [] in (
        r,
        always-join (step E W) (Allowed E T W A) (start E c s) es (offer d ∷ send 0 ∷ r) a (o, round-allowed pos req ans w₁ b (inv-step L w (offer d) v o) l),
        rw run-append (record { waits = one-waits pos w d v; first = []; lent = b; between = []; last = []; is = refl }),
      )
