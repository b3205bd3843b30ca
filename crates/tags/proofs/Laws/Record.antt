-- What an allowed record is like, which tags it holds, and what it holds after a message. The proofs of the controller's call cite these. Assumes nothing.
use Prim.Native.Nat.{ℕ, zero, suc, ◌+◌, ◌-◌, ◌*◌, ◌%◌, ◌≤◌, ◌<◌}
use mathlib.Core.Path.{◌≡◌, refl, sym, ◌∙◌}
use mathlib.Core.Bool.{Bool, true, false, cond, ◌&&◌, ◌||◌, false≢true}
use native.Mathlib.Omega.{arith}
use borrow.Author.Tests.{ltb-true, ltb-false, leb-true, leb-false, eqb-true, le-ltb, lt-ltb, le-leb, lt-leb}
use lib.Dec.{ltb, leb, eqb}
use lib.ListN.{get_or}
use Rattle.header.specs.declared.refusal.Refusal.{Refusal}
use Rattle.header.specs.Limits.{limit, limit_bytes}
use Rattle.header.specs.Header.{tag_of, discovery_of, next_tag}
use Rattle.header.specs.Refusal.{refusal}
use Rattle.tags.specs.declared.record.TagRecord.{TagRecord}
use Rattle.tags.specs.declared.rule.Verdict.TheVariants.{New, Repeat, Discovery}
use Rattle.std.specs.Prelude.{Ok, Err}
use Rattle.tags.specs.Rule.{Ruling, expected, rule_of}
use Rattle.tags.specs.Record.{places, place_of, is_fresh, mark_of, back, holds, words_at, request_at, words_ok, place_ok, lengths_ok, places_ok, held_ok, record_ok, kept_ok}

-- a length that is let by
pub words-room : (words : ℕ) → words_ok words ≡ true → (1 ≤ words) × (words ≤ limit)
unfolding words_ok
words-room words e = go (ltb words 1) refl e
  where
    go : (a : Bool) → ltb words 1 ≡ a → cond a false (leb words limit) ≡ true → (1 ≤ words) × (words ≤ limit)
    go true p q = absurd (false≢true q)
    go false p q = (ltb-false words 1 p, leb-true words limit q)

pub words-ok : (words : ℕ) → 1 ≤ words → words ≤ limit → words_ok words ≡ true
unfolding words_ok
words-ok words w l = rw (le-ltb words 1 w, le-leb words limit l)

-- a place's two lengths
pub record Lengths (n m : ℕ) : Type 0 where
  pub some : 1 ≤ n
  pub words : n ≤ limit
  pub asked : 1 ≤ m
  pub request : m ≤ limit

place-room : (held b words request : ℕ) → place_ok held b words request ≡ true → b < held → Lengths words request
unfolding place_ok
place-room held b words request e h = go (leb held b) (words_ok words) refl refl e
  where
    go : (x y : Bool) → leb held b ≡ x → words_ok words ≡ y → (x || (y && words_ok request)) ≡ true → Lengths words request
    go true y p q z = absurd (omega (arith, leb-true held b p))
    go false false p q z = absurd (false≢true z)
    go false true p q z =
        let w = words-room words q in
        let r = words-room request z in
        record { some = w.0; words = w.1; asked = r.0; request = r.1 }

place-fits : (held b words request : ℕ) → (b < held → Lengths words request) → place_ok held b words request ≡ true
unfolding place_ok
place-fits held b words request h = go (leb held b) refl
  where
    go : (x : Bool) → leb held b ≡ x → (x || (words_ok words && words_ok request)) ≡ true
    go true p = refl
    go false p =
        let l = h (leb-false held b p) in
        rw (words-ok words l.some l.words, words-ok request l.asked l.request)

-- all four of four
all-four : (a b c d : Bool) → (((a && b) && c) && d) ≡ true → (a ≡ true) × (b ≡ true) × (c ≡ true) × (d ≡ true)
all-four false b c d e = absurd (false≢true e)
all-four true false c d e = absurd (false≢true e)
all-four true true false d e = absurd (false≢true e)
all-four true true true d e = (refl, refl, refl, e)

-- one of four places
pub one-of-four : (P : ℕ → Type 0) → P 0 → P 1 → P 2 → P 3 → (p : ℕ) → p < places → P p
one-of-four P a b c d zero h = a
one-of-four P a b c d (suc zero) h = b
one-of-four P a b c d (suc (suc zero)) h = c
one-of-four P a b c d (suc (suc (suc zero))) h = d
one-of-four P a b c d (suc (suc (suc (suc p)))) h = absurd (omega arith)

-- of a place that is held both lengths are asked for
pub place-held : (held back words request : ℕ) → back < held
    → place_ok held back words request ≡ (words_ok words && words_ok request)
unfolding place_ok
place-held held back words request h = rw (lt-leb held back h)

-- a record that is let by, where it is not fresh
pub record Held (tags : TagRecord) : Type 0 where
  pub few : tags.held ≤ places
  pub tag : tags.tag < 16
  pub lengths : (p : ℕ) → p < places → (tags.tag + (places - p)) % places < tags.held → Lengths (get_or tags.words p 0) (get_or tags.request p 0)

pub held-room : (tags : TagRecord) → record_ok tags ≡ true → is_fresh tags ≡ false → Held tags
unfolding record_ok held_ok places_ok
held-room tags e f = go (ltb places tags.held) (leb 16 tags.tag) refl refl (rw f at e)
  where
    go : (a b : Bool) → ltb places tags.held ≡ a → leb 16 tags.tag ≡ b → cond a false (cond b false (places_ok tags)) ≡ true → Held tags
    go true b p q r = absurd (false≢true r)
    go false true p q r = absurd (false≢true r)
    go false false p q r =
        let f = all-four (lengths_ok tags 0) (lengths_ok tags 1) (lengths_ok tags 2) (lengths_ok tags 3) r in
        record {
          few = ltb-false places tags.held p;
          tag = leb-false 16 tags.tag q;
          lengths =
              one-of-four (λ s. (tags.tag + (places - s)) % places < tags.held → Lengths (get_or tags.words s 0) (get_or tags.request s 0))
              (place-room tags.held _ _ _ f.0) (place-room tags.held _ _ _ f.1) (place-room tags.held _ _ _ f.2) (place-room tags.held _ _ _ f.3);
        }

pub held_fits : (tags : TagRecord) → Held tags → record_ok tags ≡ true
unfolding record_ok held_ok places_ok
held_fits tags h = go (is_fresh tags)
  where
    at : (p : ℕ) → p < places → lengths_ok tags p ≡ true
    at p l = place-fits tags.held _ _ _ (h.lengths p l)

    go : (a : Bool) → cond a true (held_ok tags) ≡ true
    go true = refl
    go false =
        rw (le-ltb places tags.held h.few, lt-leb 16 tags.tag h.tag, at 0 (omega arith), at 1 (omega arith), at 2 (omega arith), at 3 (omega arith))

pub fresh-fits : (tags : TagRecord) → is_fresh tags ≡ true → record_ok tags ≡ true
unfolding record_ok
fresh-fits tags f = rw f

-- what is kept, where it is let by
pub record Rooms (s k : ℕ) (tags : TagRecord) : Type 0 where
  pub stored : places * limit ≤ s
  pub kept : places * limit_bytes ≤ k
  pub good : record_ok tags ≡ true

pub kept-room : (stored kept : ℕ) (tags : TagRecord) → kept_ok stored kept tags ≡ true → Rooms stored kept tags
unfolding kept_ok
kept-room stored kept tags e = go (record_ok tags) (ltb stored (places * limit)) refl refl e
  where
    go : (a b : Bool) → record_ok tags ≡ a → ltb stored (places * limit) ≡ b → cond a (cond b false (leb (places * limit_bytes) kept)) false ≡ true → Rooms stored kept tags
    go false b p r q = absurd (false≢true q)
    go true true p r q = absurd (false≢true q)
    go true false p r q = record { stored = ltb-false stored (places * limit) r; kept = leb-true (places * limit_bytes) kept q; good = p }

pub kept-ok : (stored kept : ℕ) (tags : TagRecord) → places * limit ≤ stored → places * limit_bytes ≤ kept → record_ok tags ≡ true → kept_ok stored kept tags ≡ true
unfolding kept_ok
kept-ok stored kept tags l k e = rw (e, le-ltb stored (places * limit) l, le-leb (places * limit_bytes) kept k)

-- a held tag: so far back from the newest
pub held_back : (tags : TagRecord) (tag : ℕ) → holds tags tag ≡ true → (is_fresh tags ≡ false) × (back tags.tag tag < tags.held)
unfolding holds
held_back tags tag e = go (is_fresh tags) refl e
  where
    go : (b : Bool) → is_fresh tags ≡ b → cond b false (ltb (back tags.tag tag) tags.held) ≡ true → (is_fresh tags ≡ false) × (back tags.tag tag < tags.held)
    go true f q = absurd (false≢true q)
    go false f q = (f, ltb-true (back tags.tag tag) tags.held q)

pub back-held : (tags : TagRecord) (tag : ℕ) → back tags.tag tag < tags.held → holds tags tag ≡ true
unfolding holds
back-held tags tag h = go (is_fresh tags) refl
  where
    go : (b : Bool) → is_fresh tags ≡ b → cond b false (ltb (back tags.tag tag) tags.held) ≡ true
    go true f = absurd (omega (arith, eqb-true tags.held 0 f))
    go false f = lt-ltb (back tags.tag tag) tags.held h

pub holds-fresh : (tags : TagRecord) (tag : ℕ) → is_fresh tags ≡ true → holds tags tag ≡ false
unfolding holds
holds-fresh tags tag f = rw f

-- its place is as far back, and so its lengths are right
place-back : (newest tag : ℕ) → newest < 16 → tag < 16 → back newest tag < places → (newest + (places - place_of tag)) % places ≡ back newest tag
place-back newest tag n t b = omega arith

pub held-lengths : (tags : TagRecord) (tag : ℕ) → record_ok tags ≡ true → tag < 16 → holds tags tag ≡ true → Lengths (words_at tags tag) (request_at tags tag)
unfolding words_at request_at
held-lengths tags tag e t h =
    let b = held_back tags tag h in
    let r = held-room tags e b.0 in
    let few : back tags.tag tag < places = omega (arith, b.1, r.few) in
    r.lengths (place_of tag) (omega arith) (rw (place-back tags.tag tag r.tag t few) b.1)

-- a repeat: its tag is held, and it is no discovery
pub record Again (tags : TagRecord) (byte0 tag : ℕ) : Type 0 where
  pub held : holds tags tag ≡ true
  pub clear : discovery_of byte0 ≡ false
  pub is : tag_of byte0 ≡ tag

pub rule-again : (tags : TagRecord) (byte0 tag : ℕ) → rule_of tags byte0 ≡ Ok (Repeat tag) → Again tags byte0 tag
unfolding rule_of
rule-again tags byte0 tag e = go (discovery_of byte0) (holds tags (tag_of byte0)) (expected tags (tag_of byte0)) refl refl e
  where
    go : (a b c : Bool) → discovery_of byte0 ≡ a → holds tags (tag_of byte0) ≡ b
        → cond {A = Ruling} a (Ok Discovery) (cond b (Ok (Repeat (tag_of byte0))) (cond c (Ok New) (Err (refusal 11)))) ≡ Ok (Repeat tag) → Again tags byte0 tag
    go true b c y z q = cc
    go false true c y z q = let t : tag_of byte0 ≡ tag = cc in record { held = rw (← t) z; clear = y; is = t }
    go false false true y z q = cc
    go false false false y z q = cc

-- a new message: its tag is the expected one, and it is no discovery
pub record Newly (tags : TagRecord) (byte0 : ℕ) : Type 0 where
  pub clear : discovery_of byte0 ≡ false
  pub other : holds tags (tag_of byte0) ≡ false
  pub expected : expected tags (tag_of byte0) ≡ true

pub rule-new : (tags : TagRecord) (byte0 : ℕ) → rule_of tags byte0 ≡ Ok New → Newly tags byte0
unfolding rule_of
rule-new tags byte0 e = go (discovery_of byte0) (holds tags (tag_of byte0)) (expected tags (tag_of byte0)) refl refl refl e
  where
    go : (a b c : Bool) → discovery_of byte0 ≡ a → holds tags (tag_of byte0) ≡ b → expected tags (tag_of byte0) ≡ c
        → cond {A = Ruling} a (Ok Discovery) (cond b (Ok (Repeat (tag_of byte0))) (cond c (Ok New) (Err (refusal 11)))) ≡ Ok New → Newly tags byte0
    go true b c x y z q = cc
    go false true c x y z q = cc
    go false false true x y z q = record { clear = x; other = y; expected = z }
    go false false false x y z q = cc

-- the verdict by the tag: a discovery's, that of no discovery, and the index of a refusal
module _ (tags : TagRecord) (byte0 : ℕ) where
  pub rule-finds : discovery_of byte0 ≡ true → rule_of tags byte0 ≡ Ok Discovery
  unfolding rule_of
  rule-finds e = rw e

  pub rule-plain : discovery_of byte0 ≡ false
      → rule_of tags byte0 ≡ cond (holds tags (tag_of byte0)) (Ok (Repeat (tag_of byte0))) (cond (expected tags (tag_of byte0)) (Ok New) (Err (refusal 11)))
  unfolding rule_of
  rule-plain e = rw e

  pub rule-eleven : (r : Refusal) → rule_of tags byte0 ≡ Err r → r ≡ refusal 11
  unfolding rule_of
  rule-eleven r e = go (discovery_of byte0) (holds tags (tag_of byte0)) (expected tags (tag_of byte0)) e
    where
      go : (a b c : Bool) → cond {A = Ruling} a (Ok Discovery) (cond b (Ok (Repeat (tag_of byte0))) (cond c (Ok New) (Err (refusal 11)))) ≡ Err r → r ≡ refusal 11
      go true b c q = cc
      go false true c q = cc
      go false false true q = cc
      go false false false q = let i : refusal 11 ≡ r = cc in sym i

-- a tag that is held, by a message that is no discovery, is a repeat
pub rule-repeats : (tags : TagRecord) (byte0 tag : ℕ) → Again tags byte0 tag → rule_of tags byte0 ≡ Ok (Repeat tag)
rule-repeats tags byte0 tag a = rule-plain tags byte0 a.clear ∙ rw (a.is, a.held)

-- a fresh record's tag, and another's
pub expected-fresh : (tags : TagRecord) (tag : ℕ) → is_fresh tags ≡ true → expected tags tag ≡ eqb tag 0
unfolding expected
expected-fresh tags tag f = rw f

pub expected-by : (tags : TagRecord) (tag : ℕ) → is_fresh tags ≡ false → expected tags tag ≡ eqb tag (next_tag tags.tag)
unfolding expected
expected-by tags tag f = rw f

-- a new tag is not held: it is fifteen back from the newest
pub new-not-held : (tags : TagRecord) (tag : ℕ) → record_ok tags ≡ true → expected tags tag ≡ true
    → holds tags tag ≡ false
unfolding holds
new-not-held tags tag ok e = go (is_fresh tags) refl
  where
    go : (f : Bool) → is_fresh tags ≡ f → cond f false (ltb (back tags.tag tag) tags.held) ≡ false
    go true f = refl
    go false f =
        let r = held-room tags ok f in
        let n = eqb-true tag (next_tag tags.tag) (sym (expected-by tags tag f) ∙ e) in
        le-ltb (back tags.tag tag) tags.held (omega (arith, r.few, r.tag, n))

-- word 1 of the advertisement
pub mark-fresh : (tags : TagRecord) → is_fresh tags ≡ true → mark_of tags ≡ 0
unfolding mark_of
mark-fresh tags f = rw f

pub mark-held : (tags : TagRecord) → is_fresh tags ≡ false → mark_of tags ≡ tags.tag + 16
unfolding mark_of
mark-held tags f = rw f

pub mark-small : (tags : TagRecord) → record_ok tags ≡ true → mark_of tags < 32
mark-small tags e = go (is_fresh tags) refl
  where
    go : (f : Bool) → is_fresh tags ≡ f → mark_of tags < 32
    go true f = rw (mark-fresh tags f) (omega arith)
    go false f = rw (mark-held tags f) (omega (arith, (held-room tags e f).tag))
