-- What the controller's call goes by: check 1 passed, the verdict by the rule of tags, and the answer that it gives. Assumes nothing.
use Prim.Native.Nat.{ℕ, zero, suc, ◌+◌, ◌%◌, ◌<◌, ◌≤◌}
use mathlib.Core.Path.{◌≡◌, refl, sym, ap, ◌∙◌}
use mathlib.Core.Bool.{Bool, true, false, cond}
use mathlib.Core.Option.{some}
use mathlib.Core.List.{List, [], ◌∷◌}
use native.Mathlib.Omega.{arith}
use borrow.Author.Tests.{eqb-true, eqb-false, eq-eqb, ne_eqb}
use lib.Dec.{eqb}
use lib.ListN.{length, get_or, get_elem?}
use Rattle.word.specs.Words.{bytes_of}
use Rattle.word.proofs.Runs.{length-bytes}
use Rattle.header.specs.declared.Kind.{Kind}
use Rattle.header.specs.declared.Kind.TheVariants.{Nop, Write, Read, Response}
use Rattle.header.specs.Limits.{limit}
use Rattle.header.specs.Header.{tag_of}
use Rattle.header.specs.Refusal.{refusal}
use Rattle.header.proofs.Laws.Limits.{right}
use Rattle.message.specs.Request.{Command, Request, Fits}
use Rattle.message.specs.Walk.{read}
use Rattle.answer.specs.declared.Status.TheVariants.{Ok}
use Rattle.answer.specs.Answer.{Answered}
use Rattle.answer.proofs.Laws.Giving.{encoded-is}
use Rattle.memory.specs.Moves.{fails, moves_of, after_moves}
use Rattle.carrying.specs.Answers.{ok_words, done, failed, answers, answer_to}
use Rattle.carrying.proofs.Laws.Promises.{answers-none, answers-more, words-to, answer-fits}
use Rattle.std.specs.Prelude.{Ok, Err}
use Rattle.tags.specs.declared.rule.Verdict.TheVariants.{New, Repeat}
use Rattle.tags.specs.Rule.{Ruling, expected}
use Rattle.tags.specs.Record.{is_fresh, back, holds, mark_of}
use Rattle.tags.proofs.Laws.Record.{held-room, held_back, back-held, rule-plain, expected-fresh, expected-by, mark-small, kept-ok}
use Rattle.completer.specs.Verdict.{judged, held_to}
use Rattle.completer.specs.Serving.{answer_by, after_by, after}
use Rattle.completer.specs.Called.{allowed}
use Rattle.completer.specs.Controller.{Controller}
use Rattle.completer.proofs.Laws.Called.{lent_fits, called-by, answer-by}
use Rattle.initiator.specs.Outcome.{data_of}
use Rattle.once.specs.Tags.{tags_in, next_tag, Unlike, Back}
use Rattle.exchange.specs.Outcomes.{each, results_in}
use Rattle.exchange.specs.Terms.{Plain, Lendable, Sound}
use Rattle.exchange.specs.Sight.{Encodes, stored_at, stored_by}
use Rattle.exchange.proofs.Each.{each_at, each_in}
use Rattle.exchange.proofs.Codec.{first-is, encodes-judged, judged-headed}

-- word 1 of the advertisement is in no outcome
data-free : (kind : Kind) (a b : ℕ) (m : List ℕ) (c : Command) → data_of kind Ok (ok_words kind a m c) ≡ data_of kind Ok (ok_words kind b m c)
data-free Nop a b m c = refl
data-free Write a b m c = refl
data-free Read a b m c = refl
data-free Response a b m c = refl

pub mark-free : (kind : Kind) (a b : ℕ) (m : List ℕ) (cs : List Command) → results_in kind (answers kind a m cs) ≡ results_in kind (answers kind b m cs)
unfolding results_in
mark-free kind a b m [] = rw (answers-none kind a m, answers-none kind b m)
mark-free kind a b m (c ∷ cs) =
    rw (answers-more kind a m c cs, answers-more kind b m c cs) (go (fails kind (length m) c) (mark-free kind a b (after_moves m (moves_of kind c)) cs))
  where
    rest : ℕ → List Answered
    rest x = answers kind x (after_moves m (moves_of kind c)) cs

    go : (t : Bool) → results_in kind (rest a) ≡ results_in kind (rest b)
        → results_in kind (cond t failed (done kind a m c) ∷ cond t [] (rest a)) ≡ results_in kind (cond t failed (done kind b m c) ∷ cond t [] (rest b))
    go true e = refl
    go false e = rw (data-free kind a b m c, e)

-- what an allowed controller is lent passes check 1
module _ (c : Controller) (b : List ℕ) (h : Sound c) (l : Lendable b) where
  pub allowed-is : allowed c b ≡ true
  allowed-is = rw (lent_fits (length c.memory) (length b) h.some h.most l, kept-ok (length c.stored) (length c.kept) c.tags h.stored h.kept h.tags)

  -- so the call goes by the verdict on the datagram
  pub serving-is : (x : List ℕ) (v : Ruling) → judged c.tags (read x) ≡ v → after c b x ≡ after_by (held_to c.kept c.tags x v) c b x
  serving-is x v e = called-by c b x allowed-is (held_to c.kept c.tags x v) (ap (held_to c.kept c.tags x) e)

-- the tags of what f gives
tags-in : {A : Type 0} (n : ℕ) (f : ℕ → ℕ × A) → tags_in (each n f) ≡ each n (λ j. (f j).0)
unfolding each
tags-in zero f = refl
tags-in (suc n) f = ap (λ (l : List ℕ). (f 0).0 ∷ l) (tags-in n (λ k. f (suc k)))

-- how far back twice
back-back : (newest j : ℕ) → newest < 16 → j < 16 → back newest (back newest j) ≡ j
back-back newest j n h = omega arith

-- The tags that an allowed controller stores: how far back each is from the newest, and the next.
module _ (c : Controller) (h : Sound c) where
  tags-are : tags_in (stored_by c) ≡ each c.tags.held (back c.tags.tag)
  tags-are = tags-in c.tags.held (stored_at c)

  -- a record that holds some
  pub filled : (j : ℕ) → j < c.tags.held → (is_fresh c.tags ≡ false) × (c.tags.tag < 16) × (j < 4)
  filled j l =
      let f : is_fresh c.tags ≡ false = ne_eqb c.tags.held 0 (λ (z : c.tags.held ≡ 0). omega arith) in
      let r = held-room c.tags h.tags f in
      (f, r.tag, omega (arith, r.few))

  -- a fresh one stores none
  pub none-stored : is_fresh c.tags ≡ true → stored_by c ≡ []
  unfolding each
  none-stored f = rw (eqb-true c.tags.held 0 f)

  pub next-fresh : is_fresh c.tags ≡ true → next_tag (tags_in (stored_by c)) ≡ 0
  next-fresh f = rw (none-stored f)

  pub next-held : is_fresh c.tags ≡ false → next_tag (tags_in (stored_by c)) ≡ (c.tags.tag + 1) % 16
  unfolding each
  next-held f = rw tags-are (go c.tags.held (eqb-false c.tags.held 0 f))
    where
      go : (n : ℕ) → (n ≡ 0 → ⊥) → next_tag (each n (back c.tags.tag)) ≡ (c.tags.tag + 1) % 16
      go zero z = absurd (z refl)
      go (suc n) z = let l = (held-room c.tags h.tags f).tag in omega arith

  pub expected-is : (t : ℕ) → expected c.tags t ≡ eqb t (next_tag (tags_in (stored_by c)))
  expected-is t = go (is_fresh c.tags) refl
    where
      go : (b : Bool) → is_fresh c.tags ≡ b → expected c.tags t ≡ eqb t (next_tag (tags_in (stored_by c)))
      go true f = rw (expected-fresh c.tags t f, next-fresh f)
      go false f = rw (expected-by c.tags t f, next-held f)

  -- what is stored at a place is that far back
  pub back-stored : (j u : ℕ) → get_elem? (tags_in (stored_by c)) j ≡ some u → (j < c.tags.held) × (back c.tags.tag j ≡ u)
  back-stored j u e = each_in c.tags.held (back c.tags.tag) j u (ap (λ (l : List ℕ). get_elem? l j) (sym tags-are) ∙ e)

  pub goes_back : Back 4 (tags_in (stored_by c))
  goes_back j u e =
      let r = back-stored j u e in
      let f = filled j r.0 in
      let i = r.1 in
      let n = next-held f.0 in
      (omega arith, f.2, omega (arith, f.1, f.2))

  -- a tag that is held is stored, and one that is stored is held
  pub held-stored : (t : ℕ) → t < 16 → holds c.tags t ≡ true → get_elem? (tags_in (stored_by c)) (back c.tags.tag t) ≡ some t
  held-stored t s e =
      let b = held_back c.tags t e in
      let f = filled (back c.tags.tag t) b.1 in
      ap (λ (l : List ℕ). get_elem? l (back c.tags.tag t)) tags-are
      ∙ each_at c.tags.held (back c.tags.tag) (back c.tags.tag t) b.1
      ∙ ap some (back-back c.tags.tag t f.1 s)

  pub newest-stored : (tag : ℕ) → is_fresh c.tags ≡ false → c.tags.tag ≡ tag → get_elem? (tags_in (stored_by c)) 0 ≡ some tag
  newest-stored tag f e =
      let r = held-room c.tags h.tags f in
      let some-held : 0 < c.tags.held = omega (arith, eqb-false c.tags.held 0 f) in
      let i : back c.tags.tag 0 ≡ tag = omega (arith, r.tag) in
      ap (λ (l : List ℕ). get_elem? l 0) tags-are ∙ each_at c.tags.held (back c.tags.tag) 0 some-held ∙ ap some i

  pub stored-held : (j : ℕ) → j < c.tags.held → holds c.tags (back c.tags.tag j) ≡ true
  stored-held j l =
      let f = filled j l in
      back-held c.tags (back c.tags.tag j) (rw (back-back c.tags.tag j f.1 (omega (arith, f.2))) l)

  -- the verdict on a plain message, by its tag
  module _ {d : List ℕ} (p : Plain d) where
    abbrev t : ℕ
    t = tag_of (get_or d 0 0)

    by-tag : (a b : Bool) → holds c.tags t ≡ a → expected c.tags t ≡ b → judged c.tags (read d) ≡ cond a (Ok (Repeat t)) (cond b (Ok New) (Err (refusal 11)))
    by-tag a b e f =
        ap (judged c.tags) p.is ∙ rule-plain c.tags p.request.byte0 p.clear
        ∙ ap (λ (n : ℕ). cond (holds c.tags (tag_of n)) (Ok (Repeat (tag_of n))) (cond (expected c.tags (tag_of n)) (Ok New) (Err (refusal 11)))) (sym (first-is p))
        ∙ rw (e, f)

    pub is-again : holds c.tags t ≡ true → judged c.tags (read d) ≡ Ok (Repeat t)
    is-again e = by-tag true (expected c.tags t) e refl

    pub is-new : t ≡ next_tag (tags_in (stored_by c)) → (expected c.tags t ≡ true) × (judged c.tags (read d) ≡ Ok New)
    is-new e = let x = expected-is t ∙ eq-eqb t _ e in (x, by-tag false true (go (holds c.tags t) refl) x)
      where
        go : (b : Bool) → holds c.tags t ≡ b → holds c.tags t ≡ false
        go false q = q
        go true q =
            let b = held_back c.tags t q in
            let f = filled (back c.tags.tag t) b.1 in
            let n = next-held f.0 in
            absurd (omega (arith, f.1, f.2))

    pub is-late : (t ≡ next_tag (tags_in (stored_by c)) → ⊥) → Unlike (tags_in (stored_by c)) t → judged c.tags (read d) ≡ Err (refusal 11)
    is-late n u = by-tag false false (go (holds c.tags t) refl) (expected-is t ∙ ne_eqb t _ n)
      where
        go : (b : Bool) → holds c.tags t ≡ b → holds c.tags t ≡ false
        go false q = q
        go true q = absurd (u _ (held-stored t (omega arith) q))

-- the answer to a request that fits, over an allowed controller's memory
module _ (c : Controller) (h : Sound c) (r : Request) (f : Fits r) where
  abbrev pub items : List Answered
  items = answer_to r (mark_of c.tags) c.memory

  abbrev pub words : List ℕ
  words = answer_by c r

  pub encodes : Encodes r items (bytes_of words)
  encodes =
      record {
        fits = (answer-fits r (mark_of c.tags) c.memory f h.words (omega (arith, mark-small c.tags h.tags))).fits;
        is = rw (answer-by c r, words-to r (mark_of c.tags) c.memory) (sym (encoded-is r items));
      }

  pub short : length words ≤ limit
  short = rw (answer-by c r) (answer-fits r (mark_of c.tags) c.memory f h.words (omega (arith, mark-small c.tags h.tags))).short

  pub some_words : 0 < length words
  some_words = omega (arith, (right (length (bytes_of words)) (judged-headed r (bytes_of words) items (encodes-judged f encodes)).long).some, length-bytes words)
