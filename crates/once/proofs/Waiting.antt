-- The sender's half of the laws: what it is when the first f messages are finished, and what an offer, a send and an
-- answer do to it. Cited by Tags.antt. Assumes nothing.
use Prim.Native.Nat.{ℕ, zero, suc, ◌+◌, ◌-◌, ◌%◌, ◌≤◌, ◌<◌}
use mathlib.Core.Path.{◌≡◌, refl, sym, ◌∙◌, ap, subst}
use mathlib.Core.Option.{some}
use mathlib.Core.List.{List, [], ◌∷◌, ◌++◌, append-nil}
use native.Mathlib.Omega.{arith}
use native.Mathlib.Decide.{dec_lt}
use lib.ListN.{length, take, get_elem?, length-append}
use Rattle.once.proofs.Bounds.{most_answers}
use Rattle.once.specs.World.{Ends}
use Rattle.once.specs.Promise.{Terms, results}
use Rattle.once.specs.Laws.{outcome_at, Heard}
use Rattle.once.specs.Tags.{Slot, asked, answered, message_in, mark, ready, Sight, Waits, Still, Tagged}
use Rattle.once.proofs.Lists.{inside, there}
use Rattle.once.proofs.Rows.{same, Numbered, Row, row-none, row_more}
use Rattle.once.proofs.Slots.{Match, fine-is, match-length, match-at, match-later, match-more, match-mark}
use Rattle.once.proofs.Slots.{match-rest, match-ready, match-within, rest-first, more-first, oldest-ends}

module _ {E : Ends} {T : Terms E} {S : Sight E T} {W : ℕ} (F : Tagged E T S W) (wide : W + W ≤ 16) (m₀ : T.Memory)
    (s₀ : E.Sender) where
  open E use {Message, Datagram, Outcome, Sender}

  -- The sender was offered ds and has finished f: its next tag follows those, the others wait, and the oldest is not
  -- answered.
  pub record Has (ds : List Message) (k f : ℕ) (s : Sender) : Type 0 where
    pub within : f ≤ k
    pub next : S.next s ≡ (S.next s₀ + f) % 16
    pub row : Row S s₀ ds
    pub few : length ds ≤ f + W
    pub waiting : Match T m₀ ds k f (S.waiting s)
    pub first : (d : Message) (o : Outcome) → get_elem? (S.waiting s) 0 ≡ some (answered d o) → ⊥

  -- at the start nothing was offered
  pub has-start : S.next s₀ ≡ (S.next s₀ + 0) % 16 → S.waiting s₀ ≡ [] → Has [] 0 0 s₀
  has-start e n =
      record {
        within = omega arith;
        next = e;
        row = row-none S s₀;
        few = omega arith;
        waiting = subst (Match T m₀ [] 0 0) (sym n) refl;
        first =
            λ d o g.
            let z : ◌≡◌ {A = ℕ} 0 1 = cc (ap (λ (u : List (Slot Message Outcome)). get_elem? u 0) n) in
            omega arith;
      }

  -- as many wait as are left
  pub has-length : {ds : List Message} {k f : ℕ} {s : Sender} → Has ds k f s
      → f + length (S.waiting s) ≡ length ds
  has-length {ds} {k} {f} {s} h = match-length T m₀ ds k f (S.waiting s) h.waiting

  -- and the sender is in order
  pub has-waits : {ds : List Message} {k f : ℕ} {s : Sender} → Has ds k f s → Waits E T S W s
  has-waits {ds} {k} {f} {s} h =
      record {
        few = omega (arith, has-length h, h.few);
        small = let e = h.next in omega arith;
        row =
            λ p x e.
            let m = fine-is T m₀ ds k (f + p) x (match-at T m₀ ds k f (S.waiting s) p x h.waiting e) in
            let r = h.row (f + p) (message_in x) m in
            (r.0, r.1 ∙ (let n = h.next in omega arith));
        first = h.first;
      }

  -- a sender that is as it was has finished what it had
  pub has-still : {ds : List Message} {k f : ℕ} {s s' : Sender} → Has ds k f s → Still E T S s s' → Has ds k f s'
  has-still {ds} {k} {f} h q =
      record {
        within = h.within;
        next = q.next ∙ h.next;
        row = h.row;
        few = h.few;
        waiting = subst (Match T m₀ ds k f) (sym q.waiting) h.waiting;
        first = λ d o e. h.first d o (ap (λ l. get_elem? l 0) (sym q.waiting) ∙ e);
      }

  -- more can have been answered than it heard of
  pub has-later : {ds : List Message} {k f : ℕ} {s : Sender} (l : ℕ) → k ≤ l → Has ds k f s → Has ds l f s
  has-later {ds} {k} {f} {s} l b h =
      record {
        within = omega (arith, h.within);
        next = h.next;
        row = h.row;
        few = h.few;
        waiting = match-later T m₀ ds k l f (S.waiting s) b h.waiting;
        first = h.first;
      }

  -- it takes an offer where there is room
  pub has-offers : {ds : List Message} {k f : ℕ} {s : Sender} {d : Message} → Has ds k f s → length ds < f + W
      → T.Fits s d → Numbered S s₀ (length ds) d × Has (ds ++ d ∷ []) k f (E.offer s d)
  has-offers {ds} {k} {f} {s} {d} h l g =
      let m = has-length h in
      let w = has-waits h in
      let p = F.fits w (omega arith) g in
      let q = F.offers w (omega arith) g in
      let n = h.next in
      let x : Numbered S s₀ (length ds) d = (p.0, p.1 ∙ omega arith) in
      let more = match-more T m₀ ds d k f (S.waiting s) h.waiting in (
        x,
        record {
          within = h.within;
          next = q.0 ∙ h.next;
          row = row_more S s₀ ds d h.row x;
          few = omega (arith, length-append ds (d ∷ []));
          waiting = subst (Match T m₀ (ds ++ d ∷ []) k f) (sym q.1) more;
          first = λ e o z. more-first (S.waiting s) d e o (h.first e o) (ap (λ u. get_elem? u 0) (sym q.1) ∙ z);
        },
      )

  -- and refuses one where there is none
  pub has-full : {ds : List Message} {k f : ℕ} {s : Sender} (d : Message) → Has ds k f s → f + W ≤ length ds
      → Has ds k f (E.offer s d)
  has-full d h l = has-still h (F.full d (has-waits h) (omega (arith, has-length h)))

  -- it sends the oldest that waits
  pub has-oldest : {ds : List Message} {k f : ℕ} {s : Sender} {d : Message} → Has ds k f s → get_elem? ds f ≡ some d
      → (x : Datagram) × (E.send s 0 ≡ some x) × S.Copy d x
  has-oldest {ds} {k} {f} {s} {d} h g = by (S.waiting s) refl h.waiting
    where
      by : (l : List (Slot Message Outcome)) → S.waiting s ≡ l → Match T m₀ ds k f l
          → (x : Datagram) × (E.send s 0 ≡ some x) × S.Copy d x
      by [] e m = absurd (omega (arith, inside ds f d g))
      by (asked d' ∷ l) e m =
          let z : d' ≡ d = let y = m.0 in cc in
          F.sends 0 (has-waits h) (ap (λ u. get_elem? u 0) e ∙ ap (λ u. some (asked u)) z)
      by (answered d' o ∷ l) e m = absurd (h.first d' o (ap (λ u. get_elem? u 0) e))

  -- and nothing else than who waits
  pub has-sends : {ds : List Message} {k f : ℕ} (p : ℕ) {s : Sender} {x : Datagram} → Has ds k f s → p < W
      → E.send s p ≡ some x → (d : Message) × (get_elem? ds (f + p) ≡ some d) × S.Copy d x
  has-sends {ds} {k} {f} p {s} h l e =
      let q = F.sent p (has-waits h) l e in
      (q.0, match-at T m₀ ds k f (S.waiting s) p (asked q.0) h.waiting q.1, q.2)

  -- the answer to one that waits and is not answered is taken, and to any other does nothing
  module _ {ds : List Message} {k f : ℕ} (i : ℕ) {s : Sender} {d : Message} {a : Datagram} (h : Has ds k f s)
      (l : i < k) (e : get_elem? ds i ≡ some d) (old : f < length ds → length ds ≤ i + most_answers)
      (y : S.Answer d (outcome_at E T m₀ ds i d) a) where
    abbrev now : List (Slot Message Outcome)
    now = S.waiting s

    abbrev Hears : Type 0
    Hears = Heard E T (Has ds k) m₀ ds f i (E.take s a)

    -- refused, and nothing happens: those that wait and are not answered are others, and less than 16 away
    refuses : (i ≡ f → ⊥) → ((p : ℕ) (e' : Message) → get_elem? now p ≡ some (asked e') → i ≡ f + p → ⊥) → Hears
    refuses n none_here =
        let q = F.others (has-waits h) (h.row i d e).0 y unlike in
        record {
          upto = f;
          up = omega arith;
          oldest = λ z. absurd (n z);
          outcomes = rw q.nothing (append-nil _);
          state = has-still h q.still;
        }
      where
        unlike : (p : ℕ) (e' : Message) → get_elem? now p ≡ some (asked e') → S.tag d ≡ S.tag e' → ⊥
        unlike p e' g z =
            let b = inside now p (asked e') g in
            let long = has-length h in
            let before = inside ds i d e in
            let few = h.few in
            let t = old (omega arith) in
            let r = (h.row (f + p) e' (match-at T m₀ ds k f now p (asked e') h.waiting g)).1 in
            let m : (S.next s₀ + i) % 16 ≡ (S.next s₀ + (f + p)) % 16 = sym (h.row i d e).1 ∙ z ∙ r in
            let is = same (S.next s₀ + i) (S.next s₀ + (f + p)) m (omega arith) (omega arith) in
            none_here p e' g (omega arith)

    -- it is that of place p, which is answered now
    takes : (p : ℕ) → i ≡ f + p → get_elem? now p ≡ some (asked d) → Hears
    takes p ip g =
        let q = F.own p (has-waits h) g y in
        record {
          upto = f + length (ready marked);
          up = omega arith;
          oldest = λ z. oldest p g (omega arith);
          outcomes = ap (λ u. results T m₀ (take f ds) ++ u) q.outcomes ∙ match-ready T m₀ ds k f marked m;
          state =
              record {
                within = match-within T m₀ ds k f marked m h.within;
                next = q.next ∙ (let n = h.next in omega arith);
                row = h.row;
                few = omega (arith, h.few);
                waiting = subst (Match T m₀ ds k (f + length (ready marked))) (sym q.waiting)
                    (match-rest T m₀ ds k f marked m);
                first = λ d' o z. rest-first marked d' o (ap (λ u. get_elem? u 0) (sym q.waiting) ∙ z);
              };
        }
      where
        o : Outcome
        o = outcome_at E T m₀ ds i d

        marked : List (Slot Message Outcome)
        marked = mark p o now

        m : Match T m₀ ds k f marked
        m = match-mark T m₀ ds k f p d o now h.waiting g (omega arith) (ap (λ n. outcome_at E T m₀ ds n d) ip)

        oldest : (n : ℕ) → get_elem? now n ≡ some (asked d) → n ≡ 0 → f < f + length (ready (mark n o now))
        oldest zero g' z = omega (arith, oldest-ends now d o g')
        oldest (suc n) g' z = absurd (omega arith)

    -- a message that waits is at its place, answered or not
    here : (p : ℕ) → i ≡ f + p → (x : Slot Message Outcome) → get_elem? now p ≡ some x → Hears
    here p ip (asked d') g =
        let m = match-at T m₀ ds k f now p (asked d') h.waiting g in
        let z : d' ≡ d = let m' : get_elem? ds i ≡ some d' = rw (← ip) at m in cc in
        takes p ip (g ∙ ap (λ u. some (asked u)) z)
    here p ip (answered d' o') g =
        refuses
        (λ z. let p0 : p ≡ 0 = omega arith in h.first d' o' (rw p0 at g))
        (λ p' e' g' z.
        let pp : p' ≡ p = omega arith in
        let g'' : get_elem? now p ≡ some (asked e') = rw pp at g' in
        let z' : ◌≡◌ {A = ℕ} 0 1 = cc in
        absurd (omega arith))

    pub has-hears : Hears
    has-hears = by (dec_lt i f)
      where
        by : Dec (i < f) → Hears
        by (yes b) = refuses (λ z. omega arith) (λ p e' g z. omega arith)
        by (no b) =
            let x = there now (i - f) (omega (arith, has-length h, inside ds i d e)) in
            here (i - f) (omega arith) x.0 x.1
