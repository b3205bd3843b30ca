-- The facts of specs/Tags.antt hold of the plain pair of specs/Pair.antt: `pair-tagged`. Cited by Example.antt.
-- Assumes nothing.
use Prim.Native.Nat.{ℕ, zero, suc, ◌+◌, ◌%◌, ◌≤◌, ◌<◌}
use mathlib.Core.Path.{◌≡◌, refl, sym, ◌∙◌, ap, subst}
use mathlib.Core.Option.{Option, none, some, some-injective}
use mathlib.Core.List.{List, [], ◌∷◌, ◌++◌}
use native.Mathlib.Omega.{arith}
use native.Mathlib.Nat.{not-suc-le-zero, add-zero, zero-add}
use borrow.Author.Tests.{eq-eqb, ne_eqb, lt-ltb, le-ltb}
use lib.ListN.{length, take, get_elem?}
use Rattle.once.specs.Tags as Tags
use Rattle.once.specs.Tags.{tags_in, next_tag, Back, Unlike, Slot, asked, answered, mark, Tagged}
use Rattle.once.specs.Pair.{Work, Message, Datagram, request, discovery, answer, found, Controller, Sender}
use Rattle.once.specs.Pair.{stored_for, send_as, place_from, ended, take_as, heard, Quiet, serve_as, received}
use Rattle.once.specs.Pair.{serve, offer_to, ends, terms, sight}
use Rattle.once.proofs.Lists.{inside, among}
use Rattle.once.proofs.Rows.{same}
use Rattle.once.proofs.Stored.{tag_at, tags-front, next-front}

-- a place of the first n is below n
first-inside : {A : Type 0} (n : ℕ) (l : List A) (j : ℕ) (a : A) → get_elem? (take n l) j ≡ some a → j < n
first-inside zero l j a e = let z : ◌≡◌ {A = ℕ} 0 1 = cc in absurd (omega arith)
first-inside (suc n) [] j a e = let z : ◌≡◌ {A = ℕ} 0 1 = cc in absurd (omega arith)
first-inside (suc n) (x ∷ l) zero a e = omega arith
first-inside (suc n) (x ∷ l) (suc j) a e = omega (arith, first-inside n l j a e)

-- with the next tag before them, tags still go back from the newest, the first W of them
back_more : (W t : ℕ) (us : List ℕ) → 0 < W → Back W us → t < 16 → t ≡ next_tag us → Back W (take W (t ∷ us))
back_more W t us pos h b e j u g =
    let w = first-inside W (t ∷ us) j u g in
    let r = by j (sym (among W (t ∷ us) j w) ∙ g) in
    (r.0, w, r.1 ∙ sym (next-front W t us pos))
  where
    by : (i : ℕ) → get_elem? (t ∷ us) i ≡ some u → (u < 16) × ((u + suc i) % 16 ≡ (t + 1) % 16)
    by zero q = let z : t ≡ u = some-injective _ _ q in rw (← z) (b, refl)
    by (suc i) q = let r = h i u q in let y = r.2 in (r.0, omega arith)

module _ (K : Work) where
  -- the stored answer of a tag: none where no tag is that one, and else that of its one place
  stored-none : (t : ℕ) (ps : List (ℕ × Datagram K)) → Unlike (tags_in ps) t → stored_for K t ps ≡ none
  stored-none t [] h = refl
  stored-none t (p ∷ ps) h =
      rw (ne_eqb t p.0 (λ z. h 0 (ap some (sym z)))) (stored-none t ps (λ j g. h (suc j) g))

  stored_at : (t j : ℕ) (a : Datagram K) (ps : List (ℕ × Datagram K)) → get_elem? ps j ≡ some (t, a)
      → ((i : ℕ) → i < j → get_elem? (tags_in ps) i ≡ some t → ⊥) → stored_for K t ps ≡ some a
  stored_at t j a [] g h = let z : ◌≡◌ {A = ℕ} 0 1 = cc in absurd (omega arith)
  stored_at t zero a (p ∷ ps) g h =
      let z : p ≡ (t, a) = some-injective _ _ g in
      rw (eq-eqb t p.0 (sym (ap (λ q. q.0) z))) (ap (λ q. some q.1) z)
  stored_at t (suc j) a (p ∷ ps) g h =
      rw (ne_eqb t p.0 (λ z. h 0 (omega arith) (ap some (sym z))))
      (stored_at t j a ps g (λ i b q. h (suc i) (omega arith) q))

  abbrev Slots : Type 0
  Slots = List (Slot (Message K) K.Outcome)

  -- the place of a tag among those that wait and are not answered
  place_at : (t k : ℕ) (l : Slots) (p : ℕ) (d : Message K) → get_elem? l p ≡ some (asked d) → t ≡ d.0
      → ((i : ℕ) (e : Message K) → i < p → get_elem? l i ≡ some (asked e) → t ≡ e.0 → ⊥)
      → place_from K k t l ≡ some (k + p)
  place_at t k [] p d g e h = let z : ◌≡◌ {A = ℕ} 0 1 = cc in absurd (omega arith)
  place_at t k (asked d' ∷ l) zero d g e h =
      let z : d ≡ d' = cc in
      rw (eq-eqb t d'.0 (e ∙ ap (λ u. u.0) z), add-zero) refl
  place_at t k (asked d' ∷ l) (suc p) d g e h =
      let n : suc k + p ≡ k + suc p = omega arith in
      rw (ne_eqb t d'.0 (h 0 d' (omega arith) refl))
      (place_at t (suc k) l p d g e (λ i e' b q. h (suc i) e' (omega arith) q) ∙ ap some n)
  place_at t k (answered d' o ∷ l) zero d g e h = let z : ◌≡◌ {A = ℕ} 0 1 = cc in absurd (omega arith)
  place_at t k (answered d' o ∷ l) (suc p) d g e h =
      let n : suc k + p ≡ k + suc p = omega arith in
      place_at t (suc k) l p d g e (λ i e' b q. h (suc i) e' (omega arith) q) ∙ ap some n

  place_none : (t k : ℕ) (l : Slots) → ((p : ℕ) (d : Message K) → get_elem? l p ≡ some (asked d) → t ≡ d.0 → ⊥)
      → place_from K k t l ≡ none
  place_none t k [] h = refl
  place_none t k (asked d ∷ l) h =
      rw (ne_eqb t d.0 (h 0 d refl)) (place_none t (suc k) l (λ p e q. h (suc p) e q))
  place_none t k (answered d o ∷ l) h = place_none t (suc k) l (λ p e q. h (suc p) e q)

  -- only one that waits and is not answered is sent
  does-sent : (y : Option (Slot (Message K) K.Outcome)) (x : Datagram K) → send_as K y ≡ some x
      → (d : Message K) × (y ≡ some (asked d)) × (x ≡ request d.0 d.1)
  does-sent none x e = let z : ◌≡◌ {A = ℕ} 0 1 = cc in absurd (omega arith)
  does-sent (some (asked d)) x e = (d, refl, cc)
  does-sent (some (answered d o)) x e = let z : ◌≡◌ {A = ℕ} 0 1 = cc in absurd (omega arith)

  module _ (W : ℕ) (pos : 0 < W) (wide : W + W ≤ 16) where
    abbrev Kept : Controller K → Controller K → Type 0
    Kept c c' = Tags.Kept (ends K W) (terms K W) (sight K W) c c'

    abbrev Carried : Controller K → Message K → Controller K × Option (Datagram K) → Type 0
    Carried c d r = Tags.Carried (ends K W) (terms K W) (sight K W) W c d r

    abbrev Still : Sender K → Sender K → Type 0
    Still s s' = Tags.Still (ends K W) (terms K W) (sight K W) s s'

    abbrev Waits : Sender K → Type 0
    Waits s = Tags.Waits (ends K W) (terms K W) (sight K W) W s

    abbrev Sound : Controller K → Type 0
    Sound c = Back W (tags_in c.stored)

    -- what is given back is as it was
    kept : (c : Controller K) → Sound c → Kept c c
    kept c h = record { sound = h; memory = refl; stored = refl; holds = λ j d l. l }

    still : (s : Sender K) → Still s s
    still s = record { next = refl; waiting = refl }

    -- a lendable output is long enough
    lent : (P : Controller K × Option (Datagram K) → Type 0) (c : Controller K) (b : ℕ) (x : Datagram K) → 0 < b
        → P (received K W c x) → P (serve K W c b x)
    lent P c zero x h p = absurd (not-suc-le-zero h)
    lent P c (suc b) x h p = p

    -- a copy of a message is served by the stored answer of its tag
    by-stored : (P : Controller K × Option (Datagram K) → Type 0) (y : Option (Datagram K)) (c : Controller K) (b : ℕ)
        (d : Message K) (x : Datagram K) → 0 < b → x ≡ request d.0 d.1 → stored_for K d.0 c.stored ≡ y
        → P (serve_as K W y c d.0 d.1) → P (serve K W c b x)
    by-stored P y c b d x l e h p = lent P c b x l (rw (e, h) p)

    -- the next tag is none of the stored, and of the stored each is one place's
    next-unlike : (us : List ℕ) → Back W us → Unlike us (next_tag us)
    next-unlike us h j g =
        let q = h j (next_tag us) g in
        let m = q.2 in
        let w = q.1 in
        let b = q.0 in
        omega arith

    one_place : (us : List ℕ) → Back W us → (t i j : ℕ) → i < j → get_elem? us i ≡ some t → get_elem? us j ≡ some t → ⊥
    one_place us h t i j l g g' =
        let w = (h j t g').1 in
        let z = same (t + suc i) (t + suc j) ((h i t g).2 ∙ sym (h j t g').2) (omega arith) (omega arith) in
        omega arith

    -- the next message is carried out, answered and stored
    does-new : (c : Controller K) (d : Message K) → Sound c → d.0 < 16 → d.0 ≡ next_tag (tags_in c.stored)
        → Carried c d (serve_as K W none c d.0 d.1)
    does-new c d h p e =
        rw (eq-eqb d.0 (next_tag (tags_in c.stored)) e)
        (record {
          answer = answer d.0 (K.outcome c.memory d.1);
          given = refl;
          says = refl;
          sound = subst (Back W) (sym (tags-front W _)) (back_more W d.0 (tags_in c.stored) pos h p e);
          memory = refl;
          stored = refl;
          holds = tt;
          older = λ j e' w l u. tt;
        })

    -- one that is neither the next nor stored is refused
    does-late : (c : Controller K) (d : Message K) → Sound c → (d.0 ≡ next_tag (tags_in c.stored) → ⊥)
        → ((serve_as K W none c d.0 d.1).1 ≡ none) × Kept c (serve_as K W none c d.0 d.1).0
    does-late c d h n = rw (ne_eqb d.0 (next_tag (tags_in c.stored)) n) (refl, kept c h)

    -- a quiet datagram changes nothing, and only a discovery is answered
    does-quiet : (c : Controller K) (x : Datagram K) → Sound c → Quiet K x → Kept c (received K W c x).0
        × ((a : Datagram K) → (received K W c x).1 ≡ some a → (o : K.Outcome) × (a ≡ found o))
    does-quiet c (request t x) h q = absurd q
    does-quiet c (discovery x) h q =
        let same_memory = q c.memory in (
          record { sound = h; memory = same_memory; stored = refl; holds = λ j d l. l },
          λ a e. (K.outcome c.memory x, cc),
        )
    does-quiet c (answer t o) h q = (kept c h, λ a e. let z : ◌≡◌ {A = ℕ} 0 1 = cc in absurd (omega arith))
    does-quiet c (found o) h q = (kept c h, λ a e. let z : ◌≡◌ {A = ℕ} 0 1 = cc in absurd (omega arith))

    -- an offer is accepted where there is room
    does-offer : (s : Sender K) (d : Message K) → length s.waiting < W
        → d.0 ≡ (s.next + length s.waiting) % 16
        → offer_to K W s d ≡ record { next = s.next; waiting = s.waiting ++ asked d ∷ [] }
    does-offer s d l e = rw (lt-ltb (length s.waiting) W l, eq-eqb d.0 _ e)

    -- the answer to one that waits and is not answered goes to its place
    does-own : (s : Sender K) (p : ℕ) (d : Message K) (o : K.Outcome) → Waits s
        → get_elem? s.waiting p ≡ some (asked d)
        → heard K s (answer d.0 o) ≡ ended K s (mark p o s.waiting)
    does-own s p d o w g = ap (λ u. take_as K u s o) (place_at d.0 0 s.waiting p d g refl earlier ∙ place)
      where
        place : some (0 + p) ≡ some p
        place = ap some (zero-add p)

        earlier : (i : ℕ) (e : Message K) → i < p → get_elem? s.waiting i ≡ some (asked e) → d.0 ≡ e.0 → ⊥
        earlier i e b q z =
            let x = (w.row i (asked e) q).1 in
            let y = (w.row p (asked d) g).1 in
            let few = w.few in
            let l = inside s.waiting p (asked d) g in
            let m = same (s.next + i) (s.next + p) (sym x ∙ sym z ∙ y) (omega arith) (omega arith) in
            omega arith

    -- the sender is as it was, where the call gave it back
    refused : (s : Sender K) (r : Sender K × List K.Outcome) → r ≡ (s, [])
        → Tags.Turned (ends K W) (terms K W) (sight K W) s r
    refused s r e = record { nothing = ap (λ u. u.1) e; still = rw e (still s) }

    pub pair-tagged : Tagged (ends K W) (terms K W) (sight K W) W
    pair-tagged =
        record {
          back = λ c h. h;
          fits = λ w l g. g;
          new =
              λ {c} {b} {d} {x} h l p e v.
              let n = subst (Unlike (tags_in c.stored)) (sym v) (next-unlike (tags_in c.stored) h) in
              by-stored (Carried c d) none c b d x l e (stored-none d.0 c.stored n) (does-new c d h p v);
          again =
              λ {c} {b} {d} {x} j a h l p e g f.
              let at = tag_at c.stored j d.0 a g in
              let us = tags_in c.stored in
              let is = stored_at d.0 j a c.stored g (λ i n q. one_place us h d.0 i j n q at) in
              by-stored (λ r. (r.1 ≡ some a) × Kept c r.0) (some a) c b d x l e is (refl, kept c h);
          late =
              λ {c} {b} {d} {x} h l p e n u.
              by-stored (λ r. (r.1 ≡ none) × Kept c r.0) none c b d x l e (stored-none d.0 c.stored u)
              (does-late c d h n);
          quiet =
              λ {c} {b} {x} h l q.
              lent (λ r. Kept c r.0 × ((a : Datagram K) → r.1 ≡ some a → (o : K.Outcome) × (a ≡ found o)))
              c b x l (does-quiet c x h q);
          offers = λ {s} {d} w l g. let e = does-offer s d l g.1 in (ap (λ u. u.next) e, ap (λ u. u.waiting) e);
          full = λ {s} d w l. rw (le-ltb (length s.waiting) W l) (still s);
          sends = λ {s} {d} p w g. (request d.0 d.1, ap (send_as K) g, refl);
          sent = λ {s} {x} p w l e. does-sent (get_elem? s.waiting p) x e;
          own =
              λ {s} {d} {o} {a} p w g e.
              let r = ap (heard K s) e ∙ does-own s p d o w g in
              record {
                outcomes = ap (λ u. u.1) r;
                next = ap (λ u. u.0.next) r;
                waiting = ap (λ u. u.0.waiting) r;
              };
          others =
              λ {s} {e} {o} {a} w p g n.
              let none-there = place_none e.0 0 s.waiting n in
              refused s _ (ap (heard K s) g ∙ ap (λ u. take_as K u s o) none-there);
          strange = λ {s} {a} w g. refused s _ (ap (heard K s) g.1);
        }
