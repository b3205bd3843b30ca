-- The record after a new message: its own lengths stand at its place, and the other held tags keep theirs. Assumes nothing.
use Prim.Native.Nat.{ℕ, ◌+◌, ◌-◌, ◌%◌, ◌≤◌, ◌<◌}
use mathlib.Core.Path.{◌≡◌, refl, sym, ◌∙◌}
use mathlib.Core.Bool.{Bool, true, false, cond, false≢true}
use mathlib.Core.List.{List}
use native.Mathlib.Omega.{arith}
use borrow.Author.Tests.{ltb-true, ltb-false, eqb-true, eqb-false, le-ltb, lt-ltb, ne_eqb}
use lib.Dec.{ltb, eqb}
use lib.ListN.{get_or}
use Rattle.header.specs.Header.{tag_of, next_tag}
use Rattle.tags.specs.declared.record.TagRecord.{TagRecord}
use Rattle.tags.specs.Rule.{expected}
use Rattle.tags.specs.Record.{places, place_of, is_fresh, back, holds, words_at, request_at, record_ok, written, one_more, record_by}
use Rattle.tags.proofs.Laws.Record.{Lengths, one-of-four, held-room, held_fits, held_back, back-held, expected-fresh, expected-by}

-- four lengths with one of them written
pub written-own : (lengths : List ℕ) (p n : ℕ) → p < places → get_or (written lengths p n) p 0 ≡ n
unfolding written
written-own lengths p n h = one-of-four (λ q. get_or (written lengths q n) q 0 ≡ n) refl refl refl refl p h

pub written-other : (lengths : List ℕ) (p q n : ℕ) → q < places → (p ≡ q → ⊥) → get_or (written lengths p n) q 0 ≡ get_or lengths q 0
unfolding written
written-other lengths p q n h e =
    one-of-four (λ r. (p ≡ r → ⊥) → get_or (written lengths p n) r 0 ≡ get_or lengths r 0)
    (λ d. rw (ne_eqb p 0 d)) (λ d. rw (ne_eqb p 1 d)) (λ d. rw (ne_eqb p 2 d)) (λ d. rw (ne_eqb p 3 d)) q h e

-- the record by whether the message is kept
pub record-stays : (keep : Bool) (tags : TagRecord) (byte0 n request : ℕ) → keep ≡ false → tags ≡ record_by keep tags byte0 n request
record-stays true tags byte0 n request e = absurd (false≢true (sym e))
record-stays false tags byte0 n request e = refl

pub record-follows : (keep : Bool) (tags : TagRecord) (byte0 n request : ℕ) {held tag at : ℕ} {words asked : List ℕ} → keep ≡ true → tag ≡ tag_of byte0 → at ≡ place_of tag
    → words ≡ written tags.words at n → asked ≡ written tags.request at request → held ≡ one_more tags.held
    → ◌≡◌ {A = TagRecord} (record { held = held; tag = tag; words = words; request = asked }) (record_by keep tags byte0 n request)
record-follows true tags byte0 n request e t a w r h = rw (h, w, r, a, t)
record-follows false tags byte0 n request e t a w r h = absurd (false≢true e)

-- how many are held then
pub more-few : (held : ℕ) → (one_more held ≤ places) × (1 ≤ one_more held) × (one_more held ≤ held + 1)
unfolding one_more
more-few held = go (ltb held places) refl
  where
    go : (a : Bool) → ltb held places ≡ a → (cond a (held + 1) places ≤ places) × (1 ≤ cond a (held + 1) places) × (cond a (held + 1) places ≤ held + 1)
    go true e = let l = ltb-true held places e in (omega arith, omega arith, omega arith)
    go false e = let l = ltb-false held places e in (omega arith, omega arith, omega arith)

pub more-next : (held : ℕ) → held < places → one_more held ≡ held + 1
unfolding one_more
more-next held h = rw (lt-ltb held places h)

pub more-most : (held : ℕ) → places ≤ held → one_more held ≡ places
unfolding one_more
more-most held h = rw (le-ltb held places h)

more-than : (b held : ℕ) → b < held → b + 1 < places → b + 1 < one_more held
unfolding one_more
more-than b held h k = go (ltb held places)
  where
    go : (a : Bool) → b + 1 < cond a (held + 1) places
    go true = omega arith
    go false = omega arith

-- tags so near are one, or have two places; and one that is not the new one was one nearer
alone : (t u : ℕ) → t < 16 → u < 16 → back t u < 1 → u ≡ t
alone t u h k b = omega arith

apart : (t u : ℕ) → t < 16 → u < 16 → back t u < places → (u ≡ t → ⊥) → place_of t ≡ place_of u → ⊥
apart t u h k b d e = d (omega arith)

one_less : (newest t u : ℕ) → newest < 16 → u < 16 → t ≡ next_tag newest → (u ≡ t → ⊥) → back t u ≡ back newest u + 1
one_less newest t u h k e d = go (ltb u t) (ltb t u) refl refl
  where
    go : (a b : Bool) → ltb u t ≡ a → ltb t u ≡ b → back t u ≡ back newest u + 1
    go true b p q = omega (arith, ltb-true u t p)
    go false true p q = omega (arith, ltb-true t u q)
    go false false p q = absurd (d (omega (arith, ltb-false u t p, ltb-false t u q)))

one_on : (newest t u : ℕ) → newest < 16 → u < 16 → t ≡ next_tag newest → back newest u + 1 < places → back t u ≡ back newest u + 1
one_on newest t u h k e b = omega arith

place-less : (newest t p : ℕ) → newest < 16 → p < places → t ≡ next_tag newest → (place_of t ≡ p → ⊥) → (t + (places - p)) % places ≡ (newest + (places - p)) % places + 1
place-less newest t p h k e d = go (ltb (place_of t) p) (ltb p (place_of t)) refl refl
  where
    go : (a b : Bool) → ltb (place_of t) p ≡ a → ltb p (place_of t) ≡ b → (t + (places - p)) % places ≡ (newest + (places - p)) % places + 1
    go true b x y = omega (arith, ltb-true (place_of t) p x)
    go false true x y = omega (arith, ltb-true p (place_of t) y)
    go false false x y = absurd (d (omega (arith, ltb-false (place_of t) p x, ltb-false p (place_of t) y)))

-- a new message of tag t, upon an allowed record, whose answer and request have so many words
module _ (tags : TagRecord) (byte0 n request : ℕ) (ok : record_ok tags ≡ true) (new : expected tags (tag_of byte0) ≡ true) where
  abbrev then : TagRecord
  then = record_by true tags byte0 n request

  -- its tag comes behind the newest, or is 0 if none is held
  pub new-tag : (is_fresh tags ≡ false → tag_of byte0 ≡ next_tag tags.tag) × (is_fresh tags ≡ true → tag_of byte0 ≡ 0)
  new-tag = (λ f. eqb-true (tag_of byte0) (next_tag tags.tag) (sym (expected-by tags (tag_of byte0) f) ∙ new), λ f. eqb-true (tag_of byte0) 0 (sym (expected-fresh tags (tag_of byte0) f) ∙ new))

  -- it is held, and its lengths are its own
  pub kept-own : (holds then (tag_of byte0) ≡ true) × (words_at then (tag_of byte0) ≡ n) × (request_at then (tag_of byte0) ≡ request)
  unfolding words_at request_at
  kept-own =
      let m = more-few tags.held in
      let zero-back : back (tag_of byte0) (tag_of byte0) ≡ 0 = omega arith in (
        back-held then (tag_of byte0) (omega (arith, m.1, zero-back)),
        written-own tags.words (place_of (tag_of byte0)) n (omega arith),
        written-own tags.request (place_of (tag_of byte0)) request (omega arith),
      )

  -- what else is held was held, at another place
  pub record Older (u : ℕ) : Type 0 where
    pub was : holds tags u ≡ true
    pub apart : place_of (tag_of byte0) ≡ place_of u → ⊥
    pub words : words_at then u ≡ words_at tags u
    pub asked : request_at then u ≡ request_at tags u

  pub kept-older : (u : ℕ) → u < 16 → holds then u ≡ true → (u ≡ tag_of byte0 → ⊥) → Older u
  unfolding words_at request_at
  kept-older u s h d = go (is_fresh tags) refl
    where
      m : (one_more tags.held ≤ places) × (1 ≤ one_more tags.held) × (one_more tags.held ≤ tags.held + 1)
      m = more-few tags.held

      near : back (tag_of byte0) u < one_more tags.held
      near = (held_back then u h).1

      by : holds tags u ≡ true → (place_of (tag_of byte0) ≡ place_of u → ⊥) → Older u
      by w p =
          record {
            was = w;
            apart = p;
            words = written-other tags.words (place_of (tag_of byte0)) (place_of u) n (omega arith) p;
            asked = written-other tags.request (place_of (tag_of byte0)) (place_of u) request (omega arith) p;
          }

      go : (f : Bool) → is_fresh tags ≡ f → Older u
      go true f = absurd (d (alone (tag_of byte0) u (omega arith) s (omega (arith, near, m.2, eqb-true tags.held 0 f))))
      go false f =
          let b = one_less tags.tag (tag_of byte0) u (held-room tags ok f).tag s (new-tag.0 f) d in
          by (back-held tags u (omega (arith, b, near, m.2))) (apart (tag_of byte0) u (omega arith) s (omega (arith, near, m.0)) d)

  -- of what was held, all but the fourth still are
  pub still-held : (u : ℕ) → u < 16 → holds tags u ≡ true → back tags.tag u + 1 < places → holds then u ≡ true
  still-held u s h b =
      let w = held_back tags u h in
      back-held then u
      (rw (one_on tags.tag (tag_of byte0) u (held-room tags ok w.0).tag s (new-tag.0 w.0) b) (more-than (back tags.tag u) tags.held w.1 b))

  -- and the record is allowed
  pub then-fits : Lengths n request → record_ok then ≡ true
  then-fits l =
      held_fits then (record { few = (more-few tags.held).0; tag = omega arith; lengths = λ p h near. at p h near (eqb (place_of (tag_of byte0)) p) (is_fresh tags) refl refl })
    where
      at : (p : ℕ) → p < places → (tag_of byte0 + (places - p)) % places < one_more tags.held → (a f : Bool) → eqb (place_of (tag_of byte0)) p ≡ a → is_fresh tags ≡ f
          → Lengths (get_or then.words p 0) (get_or then.request p 0)
      at p h near true f e g =
          let q = eqb-true (place_of (tag_of byte0)) p e in
          let k : place_of (tag_of byte0) < places = omega arith in
          rw (← q, written-own tags.words (place_of (tag_of byte0)) n k, written-own tags.request (place_of (tag_of byte0)) request k) l
      at p h near false true e g =
          absurd (eqb-false (place_of (tag_of byte0)) p e (omega (arith, near, (more-few tags.held).2, eqb-true tags.held 0 g)))
      at p h near false false e g =
          let q = eqb-false (place_of (tag_of byte0)) p e in
          let r = held-room tags ok g in
          rw (written-other tags.words (place_of (tag_of byte0)) p n h q, written-other tags.request (place_of (tag_of byte0)) p request h q)
          (r.lengths p h (omega (arith, near, (more-few tags.held).2, place-less tags.tag (tag_of byte0) p r.tag h (new-tag.0 g) q)))
