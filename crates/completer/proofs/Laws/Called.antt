-- The promises of a call: who changes what, and what is sent. Whoever stands above `serve` cites these. Assumes nothing.
use Prim.Native.Nat.{ℕ, ◌+◌, ◌*◌, ◌/◌, ◌≤◌, ◌<◌}
use mathlib.Core.Path.{◌≡◌, refl, sym, ap, ◌∙◌}
use mathlib.Core.Bool.{Bool, true, false, cond, ◌&&◌, and-eq-true_iff, false≢true}
use mathlib.Core.List.{List}
use native.Mathlib.Omega.{arith}
use native.Mathlib.Nat.{mul-suc, mul_comm, mul-le-mul_left}
use borrow.Author.Tests.{ltb-true, ltb-false, le-ltb, le-leb}
use lib.Dec.{ltb}
use lib.ListN.{length, take, drop, length-drop}
use lib.Seq.{length-take-le}
use Rattle.word.specs.Words.{put, Bytes, Words}
use Rattle.word.proofs.Runs.{words-front}
use Rattle.word.proofs.Parts.{put-read, put-before, put-behind}
use Rattle.word.proofs.Same.{same_self, same-equal, same-exactly}
use Rattle.header.specs.declared.refusal.Refusal.{Refusal}
use Rattle.header.specs.Refusal.{refusal}
use Rattle.header.specs.Limits.{limit, limit_bytes}
use Rattle.header.specs.Header.{tag_of}
use Rattle.message.specs.Walk.{read, request_of}
use Rattle.message.specs.Request.{Request, Reading, Means}
use Rattle.message.specs.Request as message
use Rattle.message.proofs.Laws.Exactly.{refusal-range}
use Rattle.message.proofs.Laws.Going.{read_first}
use Rattle.message.proofs.Laws.Back.{means-asked, written_read}
use Rattle.carrying.specs.Answers.{words_to}
use Rattle.carrying.proofs.Laws.Promises.{answer-fits}
use Rattle.tags.specs.declared.record.TagRecord.{TagRecord}
use Rattle.std.specs.Prelude.{Ok, Err}
use Rattle.tags.specs.declared.rule.Verdict.TheVariants.{New, Repeat, Discovery}
use Rattle.tags.specs.Rule.{Ruling, rule_of}
use Rattle.tags.specs.Record.{places, place_of, mark_of, most_memory, words_at, request_at, record_ok, kept_ok}
use Rattle.tags.proofs.Laws.Record.{held-lengths, mark-small, rule-again, rule-repeats, rule-eleven, rule-new}
use Rattle.tags.proofs.Laws.Kept.{kept-own, kept-older, still-held}
use Rattle.completer.specs.Controller.{Controller, request_in, answer_in, After}
use Rattle.completer.specs.Verdict.{lent_ok, judged, as_kept, held_to, verdict_by, verdict_of}
use Rattle.completer.specs.Serving.{answer_by, after_by, after}
use Rattle.completer.specs.Called.{Unchanged, RefusalKeeps, allowed, RefusedWhere, OtherBytes, TwelveExactly, tag_in, OthersStay, FourHeld, NewStores, RepeatSends, DiscoveryKeeps}
use Rattle.completer.proofs.Inner.Verdicts.{one, let_by, held_else, carrying, repeat-is}

-- the refusal that a verdict gives; number 0: none
abbrev refusal_of : Ruling → Refusal
refusal_of (Err r) = r
refusal_of (Ok v) = refusal 0

-- where something lent is not allowed, whatever the datagram is
one-first : (a b : Bool) (v : Ruling) → a && b ≡ false → refusal_of (cond a (cond b v one) one) ≡ refusal 1
one-first true true v e = absurd (false≢true (sym e))
one-first true false v e = refl
one-first false b v e = refl

-- where all is allowed, the datagram's
then-judged : (a b : Bool) (v : Ruling) → a && b ≡ true → refusal_of (cond a (cond b v one) one) ≡ refusal_of v
then-judged true true v e = refl
then-judged true false v e = absurd (false≢true e)
then-judged false b v e = absurd (false≢true e)

-- by its tag a message is refused with index 0, if at all
rule-at : (t : TagRecord) (byte0 : ℕ) → (refusal_of (rule_of t byte0)).at ≡ 0
rule-at t byte0 = go (rule_of t byte0) refl
  where
    go : (v : Ruling) → rule_of t byte0 ≡ v → (refusal_of v).at ≡ 0
    go (Err r) e = rw (rule-eleven t byte0 r e)
    go (Ok v) e = refl

-- the kept request, and what is not
pub kept_self : (a : List ℕ) → as_kept a a ≡ true
unfolding as_kept
kept_self a = same_self a

pub kept-equal : (a b : List ℕ) → as_kept a b ≡ true → a ≡ b
unfolding as_kept
kept-equal a b e = same-equal a b e

kept-differs : (a b : List ℕ) → as_kept a b ≡ false → a ≡ b → ⊥
unfolding as_kept
kept-differs a b e = (same-exactly a b).differ e

kept-unlike : (a b : List ℕ) → (a ≡ b → ⊥) → as_kept a b ≡ false
kept-unlike a b h = go (as_kept a b) refl
  where
    go : (t : Bool) → as_kept a b ≡ t → t ≡ false
    go true e = absurd (h (kept-equal a b e))
    go false e = refl

-- by its bytes a message is refused with index 0 too
held_at : (kept : List ℕ) (tags : TagRecord) (dg : List ℕ) (v : Ruling) → (refusal_of v).at ≡ 0 → (refusal_of (held_to kept tags dg v)).at ≡ 0
held_at kept tags dg (Err r) e = e
held_at kept tags dg (Ok New) e = refl
held_at kept tags dg (Ok Discovery) e = refl
held_at kept tags dg (Ok (Repeat tag)) e = go (as_kept (request_in kept tags tag) dg)
  where
    go : (b : Bool) → (refusal_of (cond b (Ok (Repeat tag)) (Err (refusal 12)))).at ≡ 0
    go true = refl
    go false = refl

-- a run at one place of a buffer leaves what stands at another
apart : (l : List ℕ) (size p q n : ℕ) (s : List ℕ) → p < places → q < places → places * size ≤ length l → n ≤ size → length s ≤ size → (p ≡ q → ⊥)
    → take n (drop (size * q) (put l (size * p) s)) ≡ take n (drop (size * q) l)
apart l size p q n s a b room few short d = go (ltb p q) (ltb q p) refl refl
  where
    on : (x y : ℕ) → x < y → size * x + size ≤ size * y
    on x y h = rw (← mul-suc size x) (mul-le-mul_left size h)

    at : size * p ≤ length l
    at = omega (arith, on p places a, mul_comm size places)

    go : (x y : Bool) → ltb p q ≡ x → ltb q p ≡ y → take n (drop (size * q) (put l (size * p) s)) ≡ take n (drop (size * q) l)
    go true y e f = ap (take n) (put-behind l (size * p) s at (size * q) (omega (arith, on p q (ltb-true p q e))))
    go false true e f = put-before l (size * p) s at (size * q) n (omega (arith, on q p (ltb-true q p f)))
    go false false e f = absurd (d (omega (arith, ltb-false p q e, ltb-false q p f)))

module _ (c : Controller) (o dg : List ℕ) where
  pub refusal-keeps : RefusalKeeps c o dg
  unfolding after
  refusal-keeps = go (verdict_of c o dg)
    where
      go : (v : Ruling) → ((after_by v c o dg).refusal.number ≡ 0 → ⊥) → Unchanged c o (after_by v c o dg)
      go (Err n) h = record { sent = refl; controller = refl; output = refl }
      go (Ok New) h = absurd (h refl)
      go (Ok (Repeat tag)) h = absurd (h refl)
      go (Ok Discovery) h = absurd (h refl)

  -- the call's refusal is its verdict's
  by-verdict : (v : Ruling) → (after_by v c o dg).refusal ≡ refusal_of v
  by-verdict (Err n) = refl
  by-verdict (Ok New) = refl
  by-verdict (Ok (Repeat tag)) = refl
  by-verdict (Ok Discovery) = refl

  -- the verdict on the datagram, where all that is lent is allowed
  abbrev held : Ruling
  held = held_to c.kept c.tags dg (judged c.tags (read dg))

  pub refused-where : RefusedWhere c o dg
  unfolding after verdict_by
  refused-where =
      record {
        lent = λ e. by-verdict v ∙ one-first a b held e;
        walked = λ r e w. by-verdict v ∙ then-judged a b held e ∙ ap (λ p. refusal_of (held_to c.kept c.tags dg (judged c.tags p))) w;
        others =
            λ r w.
            ap (λ (q : Refusal). q.at) (by-verdict v)
            ∙ zero (a && b) refl (held_at c.kept c.tags dg (judged c.tags (read dg)) (rw w (rule-at c.tags r.byte0)));
      }
    where
      a : Bool
      a = lent_ok (length c.memory) (length o)

      b : Bool
      b = kept_ok (length c.stored) (length c.kept) c.tags

      v : Ruling
      v = cond a (cond b held one) one

      zero : (k : Bool) → a && b ≡ k → (refusal_of held).at ≡ 0 → (refusal_of v).at ≡ 0
      zero true e z = ap (λ (q : Refusal). q.at) (then-judged a b held e) ∙ z
      zero false e z = ap (λ (q : Refusal). q.at) (one-first a b held e)

  -- what is known of a new message: what is lent, and that its tag is the expected one
  record NewIs : Type 0 where
    means : read dg ≡ Means (request_of dg)
    ok : record_ok c.tags ≡ true
    rule : rule_of c.tags (request_of dg).byte0 ≡ Ok New
    stored : places * limit ≤ length c.stored
    kept : places * limit_bytes ≤ length c.kept

  new_is : verdict_of c o dg ≡ Ok New → NewIs
  new_is e =
      let k = carrying {kept = c.kept} New (sym e) in
      let l = let_by {kept = c.kept} {tags = c.tags} {dg = dg} (sym e) (λ z. cc) in
      let j = held_else c.kept c.tags dg (judged c.tags (read dg)) New l.is in
      record { means = k.means; ok = k.good; rule = sym (ap (judged c.tags) k.means) ∙ j; stored = k.stored; kept = k.room }

  pub new-stores : NewStores c o dg
  unfolding after
  new-stores e =
      let n = new_is e in
      let answer = answer_by c (request_of dg) in
      let p : place_of (tag_in dg) < places = omega arith in
      let whole : 4 * (length dg / 4) ≡ length dg = omega (arith, (read_first dg _ n.means).0.whole) in
      let own = kept-own c.tags (request_of dg).byte0 (length answer) (length dg / 4) n.ok (rule-new c.tags (request_of dg).byte0 n.rule).expected in
      rw e
      (record {
        stored = rw own.1 (put-read c.stored (limit * place_of (tag_in dg)) answer (omega (arith, p, n.stored)));
        kept = rw (own.2, whole) (put-read c.kept (limit_bytes * place_of (tag_in dg)) dg (omega (arith, p, n.kept)));
        held = own.0;
        newest = refl;
        sent = words-front o answer;
      })

  -- a new message's answer has room at its place
  new-short : Words c.memory → Bytes dg → NewIs → length (answer_by c (request_of dg)) ≤ limit
  unfolding answer_by
  new-short w b n = (answer-fits (request_of dg) (mark_of c.tags) c.memory (written_read dg _ b n.means).0 w (omega (arith, mark-small c.tags n.ok))).short

  -- the other places stay
  pub others-stay : OthersStay c o dg
  unfolding after
  others-stay w b e tag s =
      let n = new_is e in
      let answer = answer_by c (request_of dg) in
      let p : place_of (tag_in dg) < places = omega arith in
      let q : place_of tag < places = omega arith in
      let most = (read_first dg _ n.means).0.most in
      let few = new-short w b n in
      rw e
      (λ h d.
      let u = kept-older c.tags (request_of dg).byte0 (length answer) (length dg / 4) n.ok (rule-new c.tags (request_of dg).byte0 n.rule).expected tag s h d in
      let l = held-lengths c.tags tag n.ok s u.was in
      record {
        was = u.was;
        stored = rw u.words (apart c.stored limit (place_of (tag_in dg)) (place_of tag) (words_at c.tags tag) answer p q n.stored l.words few u.apart);
        kept =
            rw u.asked
            (apart c.kept limit_bytes (place_of (tag_in dg)) (place_of tag) (4 * request_at c.tags tag) dg p q n.kept (omega (arith, l.request)) most u.apart);
      })

  pub four-held : FourHeld c o dg
  unfolding after
  four-held e tag s h b =
      let n = new_is e in
      rw e
      (still-held c.tags (request_of dg).byte0 (length (answer_by c (request_of dg))) (length dg / 4) n.ok (rule-new c.tags (request_of dg).byte0 n.rule).expected tag s h b)

  pub repeat-sends : RepeatSends c o dg
  unfolding after
  repeat-sends tag e =
      let r = repeat-is (length c.memory) (length c.stored) c.kept (length o) c.tags dg tag (sym e) in
      let h = r.held in
      let n = words_at c.tags tag in
      let l : length (answer_in c.stored c.tags tag) ≡ n =
      length-take-le n (drop (limit * place_of tag) c.stored) (simp length-drop (omega (arith, h.lengths.words, r.lent.stored))) in
      let asked : h.request ≡ request_of dg = let m = means-asked dg h.request h.reads in let z = h.reads in cc in
      let of : tag_in dg ≡ tag = rw (← asked) h.again.is in
      rw e
      (record {
        held = h.again.held;
        of = of;
        sent = rw (← ap (λ (k : ℕ). 4 * k) l) (words-front o (answer_in c.stored c.tags tag));
        same = kept-equal (request_in c.kept c.tags tag) dg r.same;
        controller = refl;
      })

  pub discovery-keeps : DiscoveryKeeps c o dg
  unfolding after
  discovery-keeps e = rw e (record { tags = refl; stored = refl; kept = refl })

  -- where all that is lent is allowed, the call goes by the verdict on the datagram
  pub verdict-is : allowed c o ≡ true → verdict_of c o dg ≡ held
  unfolding verdict_by
  verdict-is e = let t = (and-eq-true_iff (lent_ok (length c.memory) (length o)) _).0 e in rw (t.0, t.1)

  pub called-by : allowed c o ≡ true → (v : Ruling) → held ≡ v → after c o dg ≡ after_by v c o dg
  unfolding after
  called-by a v e = rw (verdict-is a, e)

-- 12, exactly when
module _ (c : Controller) (o dg : List ℕ) where
  -- a verdict on a message that was read, where its refusal is 12
  twelve-held : (r : Request) → read dg ≡ Means r → (v : Ruling) → rule_of c.tags r.byte0 ≡ v → (refusal_of (held_to c.kept c.tags dg v)).number ≡ 12
      → OtherBytes c dg
  twelve-held r m (Err x) e q = absurd (omega (arith, sym (ap (λ (y : Refusal). y.number) (rule-eleven c.tags r.byte0 x e)) ∙ q))
  twelve-held r m (Ok New) e q = absurd (omega arith)
  twelve-held r m (Ok Discovery) e q = absurd (omega arith)
  twelve-held r m (Ok (Repeat tag)) e q = go (as_kept (request_in c.kept c.tags tag) dg) refl q
    where
      go : (b : Bool) → as_kept (request_in c.kept c.tags tag) dg ≡ b → (refusal_of (cond b (Ok (Repeat tag)) (Err (refusal 12)))).number ≡ 12 → OtherBytes c dg
      go true z p = absurd (omega arith)
      go false z p =
          let a = rule-again c.tags r.byte0 tag e in
          record {
            request = r;
            reads = m;
            clear = a.clear;
            held = rw a.is a.held;
            differ = rw a.is (kept-differs (request_in c.kept c.tags tag) dg z);
          }

  pub twelve-exactly : TwelveExactly c o dg
  twelve-exactly = record { given = given; only = λ b e. only (allowed c o) refl b e }
    where
      given : allowed c o ≡ true → OtherBytes c dg → (after c o dg).refusal ≡ refusal 12
      given a x =
          let tag = tag_of x.request.byte0 in
          let again = rule-repeats c.tags x.request.byte0 tag (record { held = x.held; clear = x.clear; is = refl }) in
          ap (λ (f : After). f.refusal)
          (called-by c o dg a (Err (refusal 12)) (rw (x.reads, again, kept-unlike (request_in c.kept c.tags tag) dg x.differ)))

      read_as : Bytes dg → (p : Reading Request) → read dg ≡ p → (refusal_of (held_to c.kept c.tags dg (judged c.tags p))).number ≡ 12 → OtherBytes c dg
      read_as b (message.Refused r) m q = absurd (omega (arith, (refusal-range dg b r m).1, q))
      read_as b (Means r) m q = twelve-held r m (rule_of c.tags r.byte0) refl q

      only : (t : Bool) → allowed c o ≡ t → Bytes dg → (after c o dg).refusal.number ≡ 12 → (allowed c o ≡ true) × OtherBytes c dg
      only false a b e = absurd (omega (arith, sym (ap (λ (y : Refusal). y.number) ((refused-where c o dg).lent a)) ∙ e))
      only true a b e =
          let v = held_to c.kept c.tags dg (judged c.tags (read dg)) in
          let f = ap (λ (y : After). y.refusal.number) (called-by c o dg a v refl) ∙ ap (λ (y : Refusal). y.number) (by-verdict c o dg v) in
          (a, read_as b (read dg) refl (sym f ∙ e))

-- a refusal has a number
pub refused-number : (m s : ℕ) (kept : List ℕ) (o : ℕ) (tags : TagRecord) (dg : List ℕ) → Bytes dg → (r : Refusal) → verdict_by m s kept o tags dg ≡ Err r → r.number ≡ 0 → ⊥
unfolding verdict_by
refused-number m s kept o tags dg b r = go (lent_ok m o) (kept_ok s (length kept) tags)
  where
    number : (n : ℕ) → 0 < n → ◌≡◌ {A = Ruling} (Err (refusal n)) (Err r) → r.number ≡ 0 → ⊥
    number n h e z = let i : refusal n ≡ r = cc in omega (arith, ap (λ (q : Refusal). q.number) i, z)

    held_to-number : (byte0 : ℕ) (v : Ruling) → rule_of tags byte0 ≡ v → held_to kept tags dg v ≡ Err r → r.number ≡ 0 → ⊥
    held_to-number byte0 (Err x) e q z =
        let i : x ≡ r = cc in omega (arith, ap (λ (y : Refusal). y.number) (sym (rule-eleven tags byte0 x e) ∙ i), z)
    held_to-number byte0 (Ok New) e q z = cc
    held_to-number byte0 (Ok Discovery) e q z = cc
    held_to-number byte0 (Ok (Repeat tag)) e q z = by (as_kept (request_in kept tags tag) dg) q
      where
        by : (k : Bool) → cond {A = Ruling} k (Ok (Repeat tag)) (Err (refusal 12)) ≡ Err r → ⊥
        by true p = cc
        by false p = number 12 (omega arith) p z

    read_as : (p : Reading Request) → read dg ≡ p → held_to kept tags dg (judged tags p) ≡ Err r → r.number ≡ 0 → ⊥
    read_as (message.Refused x) m q z = let i : x ≡ r = cc in omega (arith, refusal-range dg b x m, ap (λ (y : Refusal). y.number) i, z)
    read_as (Means x) m q z = held_to-number x.byte0 (rule_of tags x.byte0) refl q z

    go : (x y : Bool) → cond x (cond y (held_to kept tags dg (judged tags (read dg))) one) one ≡ Err r → r.number ≡ 0 → ⊥
    go true true q z = read_as (read dg) refl q z
    go true false q z = number 1 (omega arith) q z
    go false y q z = number 1 (omega arith) q z

-- what is lent passes check 1
pub lent_fits : (memory output : ℕ) → 1 ≤ memory → memory ≤ most_memory → limit_bytes ≤ output → lent_ok memory output ≡ true
unfolding lent_ok
lent_fits memory output some most long = rw (le-ltb memory 1 some, le-ltb most_memory memory most, le-leb limit_bytes output long)

-- the answer by its record
pub answer-by : (c : Controller) (r : Request) → answer_by c r ≡ words_to r (mark_of c.tags) c.memory
unfolding answer_by
answer-by c r = refl
