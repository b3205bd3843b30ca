-- The controller's half of the laws: what it stores when it has accepted the first messages, and which arrivals are
-- new, repeats, or neither. Cited by Tags.antt. Assumes nothing.
use Prim.Native.Nat.{ℕ, zero, suc, ◌+◌, ◌-◌, ◌%◌, ◌≤◌, ◌<◌}
use mathlib.Core.Path.{◌≡◌, refl, sym, ◌∙◌, ap, subst}
use mathlib.Core.Logic.{⊎_elim}
use mathlib.Core.Option.{some}
use mathlib.Core.List.{List, [], ◌∷◌, ◌++◌, foldl-append}
use native.Mathlib.Omega.{arith}
use lib.ListN.{length, take, get_elem?, length-append}
use lib.Seq.{take_at, take-append-le}
use Rattle.once.proofs.Bounds.{most_requests, most_stored}
use Rattle.once.specs.World.{Ends}
use Rattle.once.specs.Promise.{Terms, made}
use Rattle.once.specs.Laws.{Answered, Refused, outcome_at}
use Rattle.once.specs.Tags.{tags_in, next_tag, Unlike, Sight, Start, Kept, Carried, Tagged}
use Rattle.once.proofs.Lists.{inside, newly, among}
use Rattle.once.proofs.Rows.{on-mod, same, Numbered, Row, row-none, row_more}

-- the tag of what is stored at a place
pub tag_at : {A : Type 0} (ps : List (ℕ × A)) (j u : ℕ) (a : A) → get_elem? ps j ≡ some (u, a)
    → get_elem? (tags_in ps) j ≡ some u
tag_at [] j u a e = let z : ◌≡◌ {A = ℕ} 0 1 = cc in absurd (omega arith)
tag_at (p ∷ ps) zero u a e = let z : p ≡ (u, a) = cc in ap (λ q. some q.0) z
tag_at (p ∷ ps) (suc j) u a e = tag_at ps j u a e

-- the tags of the first n, and the tag after the newest of them, where n is not 0
pub tags-front : {A : Type 0} (n : ℕ) (ps : List (ℕ × A)) → tags_in (take n ps) ≡ take n (tags_in ps)
tags-front zero ps = refl
tags-front (suc n) [] = refl
tags-front (suc n) (p ∷ ps) = ap (λ us. p.0 ∷ us) (tags-front n ps)

pub next-front : (n t : ℕ) (us : List ℕ) → 0 < n → next_tag (take n (t ∷ us)) ≡ (t + 1) % 16
next-front zero t us h = absurd (omega arith)
next-front (suc n) t us h = refl

-- the next tag is at most 15
pub next_small : (us : List ℕ) → next_tag us < 16
next_small [] = omega arith
next_small (u ∷ us) = omega arith

module _ {E : Ends} {T : Terms E} {S : Sight E T} {W : ℕ} (F : Tagged E T S W) (pos : 0 < W) (wide : W + W ≤ 16)
    (c₀ : E.Controller) (s₀ : E.Sender) where
  open E use {Message, Datagram, Outcome, Lent, Controller, Sender}

  abbrev m₀ : T.Memory
  m₀ = T.memory c₀

  -- At place j is stored the answer to the message d, number i of ds.
  pub record Stored (ds : List Message) (i j : ℕ) (d : Message) (c : Controller) : Type 0 where
    pub answer : Datagram
    pub stored : get_elem? (S.stored c) j ≡ some (S.tag d, answer)
    pub holds : S.Holds c j d
    pub says : S.Answer d (outcome_at E T m₀ ds i d) answer

  -- The controller has accepted ds: memory is theirs, the next tag follows them, and the answers to the last W are
  -- stored; what was stored at the start is if there are none.
  pub record Took (ds : List Message) (c : Controller) : Type 0 where
    pub sound : S.Sound c
    pub memory : T.memory c ≡ made T m₀ ds
    pub next : next_tag (tags_in (S.stored c)) ≡ (S.next s₀ + length ds) % 16
    pub row : Row S s₀ ds
    pub last : (i j : ℕ) (d : Message) → suc (i + j) ≡ length ds → j < W → get_elem? ds i ≡ some d → Stored ds i j d c
    pub kept : length ds ≡ 0 → S.stored c ≡ S.stored c₀

  -- the first next tag is the one after the newest stored
  pub start-next : Start E T S c₀ s₀ → (S.next s₀ + 0) % 16 ≡ S.next s₀
  start-next begun = let e = begun.next in omega (arith, next_small (tags_in (S.stored c₀)))

  -- at the start nothing was accepted
  pub took-start : Start E T S c₀ s₀ → Took [] c₀
  took-start begun =
      record {
        sound = begun.sound;
        memory = refl;
        next = sym begun.next ∙ sym (start-next begun);
        row = row-none S s₀;
        last = λ i j d e b h. absurd (omega arith);
        kept = λ e. refl;
      }

  -- a controller that is as it was has accepted what it had
  pub took-kept : {ds : List Message} {c c' : Controller} → Took ds c → Kept E T S c c' → Took ds c'
  took-kept k q =
      record {
        sound = q.sound;
        memory = q.memory ∙ k.memory;
        next = rw q.stored k.next;
        row = k.row;
        last =
            λ i j d e b h.
            let l = k.last i j d e b h in
            let at = ap (λ u. get_elem? u j) q.stored ∙ l.stored in
            record { answer = l.answer; stored = at; holds = q.holds j d l.holds; says = l.says };
        kept = λ e. q.stored ∙ k.kept e;
      }

  -- a message at most 16 behind the next, and not too far ahead of it, whose tag is stored at place j, is suc j behind
  pub is-behind : {ds : List Message} {c : Controller} → Took ds c → (i j t : ℕ) → t ≡ (S.next s₀ + i) % 16
      → length ds ≤ i + most_stored → i + W < length ds + 16 → get_elem? (tags_in (S.stored c)) j ≡ some t
      → (suc (i + j) ≡ length ds) × (j < W)
  is-behind {ds} {c} k i j t e old ahead g =
      let q = F.back c k.sound j t g in
      let w = q.1 in
      let m : (S.next s₀ + i + suc j) % 16 ≡ (S.next s₀ + length ds) % 16 =
      sym (on-mod (S.next s₀ + i) (suc j)) ∙ ap (λ v. (v + suc j) % 16) (sym e) ∙ q.2 ∙ k.next in
      let z = same (S.next s₀ + i + suc j) (S.next s₀ + length ds) m (omega arith) (omega arith) in
      (omega arith, w)

  -- the next message is new
  pub took-next : {ds : List Message} {c : Controller} {d : Message} {x : Datagram} {b : Lent} → Took ds c
      → Numbered S s₀ (length ds) d → S.Copy d x → T.Lendable b →
      Answered E (Took (ds ++ d ∷ [])) (S.Answer d (T.outcome (T.memory c) d)) (E.serve c b x)
  took-next {ds} {c} {d} {x} {b} k n p l =
      record { answer = q.answer; given = q.given; says = q.says; state = state }
    where
      q : Carried E T S W c d (E.serve c b x)
      q = F.new k.sound l n.0 p (n.1 ∙ sym k.next)

      now : List (ℕ × Datagram)
      now = (S.tag d, q.answer) ∷ S.stored c

      -- what is stored at place j now
      at : (j : ℕ) → j < W → get_elem? (S.stored (E.serve c b x).0) j ≡ get_elem? now j
      at j w = ap (λ u. get_elem? u j) q.stored ∙ among W now j w

      -- it is the newest, and one stored before is one place further
      last : (i j : ℕ) (e : Message) → suc (i + j) ≡ length (ds ++ d ∷ []) → j < W
          → get_elem? (ds ++ d ∷ []) i ≡ some e → Stored (ds ++ d ∷ []) i j e (E.serve c b x).0
      last i zero e h w g =
          let il : i ≡ length ds = omega (arith, length-append ds (d ∷ [])) in
          let de : d ≡ e = ⊎_elim (λ y. absurd (omega (arith, inside ds i e y))) (λ y. y.1) (newly ds d i e g) in
          let mc : T.memory c ≡ made T m₀ (take i (ds ++ d ∷ [])) =
          k.memory ∙ ap (made T m₀) (sym (take_at ds (d ∷ []) i (sym il))) in
          let says = subst (λ m. S.Answer d (T.outcome m d) q.answer) mc q.says in
          rw (← de) (record { answer = q.answer; stored = at 0 w; holds = q.holds; says = says })
      last i (suc j) e h w g =
          let il : suc (i + j) ≡ length ds = omega (arith, length-append ds (d ∷ [])) in
          let ge : get_elem? ds i ≡ some e =
          ⊎_elim (λ y. y) (λ y. let z = y.0 in absurd (omega arith)) (newly ds d i e g) in
          let s = k.last i j e il (omega arith) ge in
          let front = sym (take-append-le i ds (d ∷ []) (omega arith)) in
          let says = subst (λ l'. S.Answer e (T.outcome (made T m₀ l') e) s.answer) front s.says in
          let holds = q.older j e w (inside (S.stored c) j (S.tag e, s.answer) s.stored) s.holds in
          record { answer = s.answer; stored = at (suc j) w ∙ s.stored; holds = holds; says = says }

      next-is : next_tag (tags_in (take W now)) ≡ (S.tag d + 1) % 16
      next-is = ap next_tag (tags-front W now) ∙ next-front W (S.tag d) (tags_in (S.stored c)) pos

      state : Took (ds ++ d ∷ []) (E.serve c b x).0
      state =
          let tag = n.1 in
          let more = length-append ds (d ∷ []) in
          record {
            sound = q.sound;
            memory = q.memory ∙ ap (λ m. T.carry m d) k.memory ∙ sym (foldl-append T.carry m₀ ds (d ∷ []));
            next = ap (λ u. next_tag (tags_in u)) q.stored ∙ next-is ∙ omega arith;
            row = row_more S s₀ ds d k.row n;
            last = last;
            kept = λ e. absurd (omega arith);
          }

  -- one of the last W accepted is a repeat
  pub took-again : {ds : List Message} {c : Controller} (i : ℕ) {d : Message} {x : Datagram} {b : Lent} → Took ds c
      → get_elem? ds i ≡ some d → length ds ≤ i + W → S.Copy d x → T.Lendable b
      → Answered E (Took ds) (S.Answer d (outcome_at E T m₀ ds i d)) (E.serve c b x)
  took-again {ds} {c} i {d} k e h p l =
      let before = inside ds i d e in
      let j = length ds - suc i in
      let s = k.last i j d (omega arith) (omega arith) e in
      let q = F.again j s.answer k.sound l (k.row i d e).0 p s.stored s.holds in
      record { answer = s.answer; given = q.0; says = s.says; state = took-kept k q.1 }

  -- one that is neither the next nor one of these is refused
  pub took-late : {ds : List Message} {c : Controller} (i : ℕ) {d : Message} {x : Datagram} {b : Lent} → Took ds c
      → Numbered S s₀ i d → (i ≡ length ds → ⊥) → (i < length ds → i + W < length ds) → length ds ≤ i + most_requests
      → i + W < length ds + 16 → S.Copy d x → T.Lendable b → Refused E (Took ds) (E.serve c b x)
  took-late {ds} {c} i {d} {x} {b} k n unlike older old ahead p l =
      let q = F.late k.sound l n.0 p not-next not-stored in
      record { nothing = q.0; state = took-kept k q.1 }
    where
      not-next : S.tag d ≡ next_tag (tags_in (S.stored c)) → ⊥
      not-next e =
          let m = sym n.1 ∙ e ∙ k.next in
          let z = same (S.next s₀ + i) (S.next s₀ + length ds) m (omega arith) (omega arith) in
          unlike (omega arith)

      not-stored : Unlike (tags_in (S.stored c)) (S.tag d)
      not-stored j g =
          let z = is-behind k i j (S.tag d) n.1 (omega arith) ahead g in
          let is = z.0 in
          let w = z.1 in
          let o = older (omega arith) in
          omega arith
