-- The facts about the controller's call: new, again, late and quiet. Assumes nothing.
use Prim.Native.Nat.{ℕ, suc, ◌+◌, ◌*◌, ◌/◌, ◌%◌, ◌≤◌, ◌<◌}
use mathlib.Core.Path.{◌≡◌, refl, sym, ap, subst, ◌∙◌}
use mathlib.Core.Bool.{Bool, true, false}
use mathlib.Core.Option.{none, some, some-injective}
use mathlib.Core.List.{List, ◌∷◌}
use native.Mathlib.Omega.{arith}
use native.Mathlib.Decide.{dec_lt}
use borrow.Author.Tests.{eqb-true, ne_eqb}
use lib.Dec.{eqb}
use lib.ListN.{length, get_or, get_elem?, take}
use Rattle.word.specs.Words.{bytes_of}
use Rattle.word.proofs.Runs.{length-put, words-front}
use Rattle.header.specs.declared.Kind.TheVariants.{Write}
use Rattle.header.specs.declared.refusal.Refusal.{Refusal}
use Rattle.header.specs.Limits.{limit, limit_bytes}
use Rattle.header.specs.Header.{tag_of, kind_of, discovery_of}
use Rattle.header.specs.Refusal.{refusal}
use Rattle.header.proofs.Laws.Limits.{Right}
use Rattle.message.specs.Request.{Request, Reading, Refused, Means, Fits}
use Rattle.message.specs.Walk.{read, request_of}
use Rattle.message.proofs.Laws.Going.{read_first}
use Rattle.message.proofs.Laws.Back.{written_read}
use Rattle.message.proofs.Laws.Exactly.{refusal-range}
use Rattle.message.proofs.Laws.Back as message
use Rattle.memory.specs.Moves.{memory_after}
use Rattle.memory.proofs.Laws.Promises.{same_length, stays-words, quiet}
use Rattle.carrying.proofs.Laws.Promises.{answer-to}
use Rattle.std.specs.Prelude.{Ok, Err}
use Rattle.tags.specs.declared.rule.Verdict.TheVariants.{New, Repeat, Discovery}
use Rattle.tags.specs.Record.{places, place_of, is_fresh, back, holds, mark_of, one_more}
use Rattle.tags.specs.Rule.{expected, rule_of}
use Rattle.tags.proofs.Laws.Record.{held-room, rule-finds, back-held}
use Rattle.tags.proofs.Laws.Kept.{more-few, more-next, more-most, then-fits}
use Rattle.completer.specs.Serving.{after_by, after}
use Rattle.completer.specs.Verdict.{judged, held_to, verdict_of}
use Rattle.completer.specs.Called.{SameFor}
use Rattle.completer.specs.Controller.{Controller, with_memory, request_in, answer_in, After}
use Rattle.completer.proofs.Laws.Called.{kept_self, new-stores, others-stay, repeat-sends, verdict-is, called-by}
use Rattle.once.specs.Tags.{tags_in, next_tag, Unlike, Carried, Kept}
use Rattle.exchange.specs.Outcomes.{each, outcome_over}
use Rattle.exchange.specs.Ends.{ends, sent_in}
use Rattle.exchange.specs.Terms.{Plain, Lendable, finds_only, Finds, terms, Sound}
use Rattle.exchange.specs.Promise.{window}
use Rattle.exchange.specs.Sight.{Encodes, Answers, Strange, stored_at, stored_by, sight}
use Rattle.exchange.proofs.Codec.{asked_is, asked-fits, first-is}
use Rattle.exchange.proofs.Each.{each_long, each_in, each_same, each-front, each_all}
use Rattle.exchange.proofs.Going.{mark-free, allowed-is, serving-is, filled, next-held, stored-held, is-again, is-new, is-late, items, words, encodes, short, some_words}

-- one more in front, of four at most
one-front : {A : Type 0} (n : ℕ) (f g : ℕ → A) → n ≤ places → ((j : ℕ) → suc j < one_more n → f (suc j) ≡ g j)
    → each (one_more n) f ≡ take places (f 0 ∷ each n g)
unfolding each
one-front n f g few h = go (dec_lt n places)
  where
    by : (m : ℕ) → one_more n ≡ suc m → take 3 (each n g) ≡ each m g → each (one_more n) f ≡ take places (f 0 ∷ each n g)
    by m e k = rw (e, k) (ap (λ l. f 0 ∷ l) (each_same m (λ j. f (suc j)) g (λ j l. h j (omega (arith, e)))))

    go : Dec (n < places) → each (one_more n) f ≡ take places (f 0 ∷ each n g)
    go (yes l) = by n (more-next n l ∙ omega arith) (each_all 3 n g (omega arith))
    go (no l) = by 3 (more-most n (omega arith)) (each-front 3 n g (omega arith))

-- of four, all but the last stay
still-in : (n j : ℕ) → j < n → suc j < places → suc j < one_more n
still-in n j l k = go (dec_lt n places)
  where
    go : Dec (n < places) → suc j < one_more n
    go (yes h) = omega (arith, more-next n h)
    go (no h) = omega (arith, more-most n (omega arith))

-- so far back from the newest, and from the one behind it
back-small : (newest j : ℕ) → back newest j < 16
back-small newest j = omega arith

one-back : (newest t j : ℕ) → newest < 16 → t ≡ (newest + 1) % 16 → suc j < 4
    → (back t (suc j) ≡ back newest j) × (back t (back newest j) ≡ suc j) × (back newest j ≡ t → ⊥)
one-back newest t j n e l = (omega arith, omega arith, λ z. omega arith)

-- a new message
module _ (c : Controller) (b d : List ℕ) (h : Sound c) (l : Lendable b) (p : Plain d) (v : tag_of (get_or d 0 0) ≡ next_tag (tags_in (stored_by c))) where
  abbrev reply : List ℕ
  reply = words c h (request_of d) (asked-fits p)

  verdict-new : verdict_of c b d ≡ Ok New
  verdict-new = verdict-is c b d (allowed-is c b h l) ∙ ap (held_to c.kept c.tags d) (is-new c h p v).1

  does : after c b d ≡ after_by (Ok New) c b d
  does = serving-is c b h l d (Ok New) (is-new c h p v).1

  first-tag : tag_of (request_of d).byte0 ≡ tag_of (get_or d 0 0)
  first-tag = ap (λ (r : Request). tag_of r.byte0) (asked_is p) ∙ ap tag_of (sym (first-is p))

  says : Answers d (outcome_over c.memory d) (bytes_of reply)
  unfolding outcome_over
  says =
      record {
        items = items c h (request_of d) (asked-fits p);
        encodes = encodes c h (request_of d) (asked-fits p);
        says =
            rw (answer-to (request_of d) 0 c.memory, answer-to (request_of d) (mark_of c.tags) c.memory)
            (mark-free (kind_of (request_of d).byte0) 0 (mark_of c.tags) c.memory (request_of d).commands);
      }

  right : Right (length d)
  right = (read_first d p.request p.is).0

  pub sound-new : Sound (after_by (Ok New) c b d).controller
  sound-new =
      let n = same_length (request_of d) c.memory in
      let k = short c h (request_of d) (asked-fits p) in
      let z = some_words c h (request_of d) (asked-fits p) in
      let r = right in
      let x : expected c.tags (tag_of (request_of d).byte0) ≡ true = rw first-tag (is-new c h p v).0 in
      record {
        words = stays-words (request_of d) c.memory h.words;
        some = rw n h.some;
        most = rw n h.most;
        stored = rw (length-put c.stored (limit * place_of (tag_of (request_of d).byte0)) reply (omega (arith, h.stored))) h.stored;
        kept = rw (length-put c.kept (limit_bytes * place_of (tag_of (request_of d).byte0)) d (omega (arith, r.most, h.kept))) h.kept;
        tags =
            then-fits c.tags (request_of d).byte0 (length reply) (length d / 4) h.tags x
            (record { some = z; words = k; asked = omega (arith, r.some, r.whole); request = omega (arith, r.most) });
      }

  -- the controller after it, and its record
  abbrev then : Controller
  then = (after c b d).controller

  then-tag : then.tags.tag ≡ tag_of (get_or d 0 0)
  then-tag = ap (λ (a : After). a.controller.tags.tag) does ∙ first-tag

  then-held : then.tags.held ≡ one_more c.tags.held
  then-held = ap (λ (a : After). a.controller.tags.held) does

  -- the tag that was j back is one further back
  further : (j : ℕ) → suc j < one_more c.tags.held → (back then.tags.tag (suc j) ≡ back c.tags.tag j) × SameFor c then (back c.tags.tag j)
  further j k =
      let m = more-few c.tags.held in
      let f = filled c h j (omega (arith, m.2)) in
      let u = one-back c.tags.tag then.tags.tag j f.1 (then-tag ∙ v ∙ next-held c h f.0) (omega (arith, m.0)) in
      let near : back then.tags.tag (back c.tags.tag j) < then.tags.held = rw (u.1, then-held) k in (
        u.0,
        others-stay c b d h.words p.bytes verdict-new (back c.tags.tag j) (back-small c.tags.tag j)
            (back-held then.tags (back c.tags.tag j) near) (λ z. u.2 (z ∙ first-tag ∙ sym then-tag)),
      )

  first_back : back then.tags.tag 0 ≡ tag_of (request_of d).byte0
  first_back = let s : tag_of (get_or d 0 0) < 16 = omega arith in omega (arith, then-tag, first-tag)

  few : c.tags.held ≤ places
  few = go (is_fresh c.tags) refl
    where
      go : (f : Bool) → is_fresh c.tags ≡ f → c.tags.held ≤ places
      go true f = omega (arith, eqb-true c.tags.held 0 f)
      go false f = (held-room c.tags h.tags f).few

  pub does-new : Carried ends terms sight window c d (ends.serve c b d)
  does-new =
      let n = new-stores c b d verdict-new in
      record {
        answer = bytes_of reply;
        given = ap sent_in does ∙ ap some (words-front b reply);
        says = says;
        sound = subst (λ (a : After). Sound a.controller) (sym does) sound-new;
        memory = ap (λ (a : After). a.controller.memory) does;
        stored =
            ap (λ (m : ℕ). each m (stored_at then)) then-held
            ∙ one-front c.tags.held (stored_at then) (stored_at c) few (λ j k. let r = further j k in rw (r.0, r.1.stored))
            ∙ rw (first_back, n.stored, first-tag);
        holds = rw first_back n.kept;
        older =
            λ j e k i u.
            let r = further j (still-in c.tags.held j (omega (arith, each_long c.tags.held (stored_at c), i)) k) in
            rw (r.0, r.1.kept) u;
      }

-- what the call left as it was
kept_same : (c : Controller) → Sound c → Kept ends terms sight c c
kept_same c h = record { sound = h; memory = refl; stored = refl; holds = λ j d l. l }

module _ (c : Controller) (b : List ℕ) (h : Sound c) (l : Lendable b) where
  pub does-again : {d : List ℕ} (j : ℕ) (a : List ℕ) → Plain d → get_elem? (stored_by c) j ≡ some (tag_of (get_or d 0 0), a)
      → request_in c.kept c.tags (back c.tags.tag j) ≡ d → ((ends.serve c b d).1 ≡ some a) × Kept ends terms sight c (ends.serve c b d).0
  does-again {d} j a p e k =
      let r = each_in c.tags.held (stored_at c) j (tag_of (get_or d 0 0), a) e in
      let t = ap (λ (u : ℕ × List ℕ). u.0) r.1 in
      let held : holds c.tags (tag_of (get_or d 0 0)) ≡ true = rw (← t) (stored-held c h j r.0) in
      let same : request_in c.kept c.tags (tag_of (get_or d 0 0)) ≡ d = rw (← t) k in
      let y : held_to c.kept c.tags d (judged c.tags (read d)) ≡ Ok (Repeat (tag_of (get_or d 0 0))) = rw (is-again c h p held, same, kept_self d) in
      let s = repeat-sends c b d (tag_of (get_or d 0 0)) (verdict-is c b d (allowed-is c b h l) ∙ y) in
      let g = called-by c b d (allowed-is c b h l) (Ok (Repeat (tag_of (get_or d 0 0)))) y in
      let is : bytes_of (answer_in c.stored c.tags (tag_of (get_or d 0 0))) ≡ a = rw (← t) (ap (λ (u : ℕ × List ℕ). u.1) r.1) in (
        subst (λ (z : After). take z.sent z.output ≡ bytes_of (answer_in c.stored c.tags (tag_of (get_or d 0 0))) → sent_in z ≡ some a) (sym g)
            (λ q. ap some (q ∙ is)) s.sent,
        subst (Kept ends terms sight c) (sym s.controller) (kept_same c h),
      )

  pub does-late : {d : List ℕ} → Plain d → (tag_of (get_or d 0 0) ≡ next_tag (tags_in (stored_by c)) → ⊥) → Unlike (tags_in (stored_by c)) (tag_of (get_or d 0 0))
      → ((ends.serve c b d).1 ≡ none) × Kept ends terms sight c (ends.serve c b d).0
  does-late {d} p n u =
      let e = serving-is c b h l d (Err (refusal 11)) (is-late c h p n u) in
      (ap sent_in e, subst (λ (a : After). Kept ends terms sight c a.controller) (sym e) (kept_same c h))

  -- a quiet datagram: refused, or a discovery that is no write
  abbrev Quietly : List ℕ → After → Type 0
  Quietly x a = Kept ends terms sight c a.controller × ((y : List ℕ) → sent_in a ≡ some y → Strange y)

  refused : (x : List ℕ) (n : Refusal) → Finds x → read x ≡ Refused n → Quietly x (after c b x)
  refused x n f e =
      subst (Quietly x) (sym (serving-is c b h l x (Err n) (ap (judged c.tags) e)))
      (kept_same c h, λ y q. let z : eqb n.number 0 ≡ false = ne_eqb n.number 0 (λ i. absurd (omega (arith, (refusal-range x f.bytes n e).0))) in nothing (rw z at q))
    where
      nothing : {y : List ℕ} → none ≡ some y → Strange y
      nothing q = let i : ◌≡◌ {A = ℕ} 0 1 = cc in absurd (omega arith)

  found : (x : List ℕ) (r : Request) → Finds x → read x ≡ Means r → (discovery_of r.byte0 ≡ true) × (kind_of r.byte0 ≡ Write → ⊥) → Quietly x (after c b x)
  found x r f e q =
      subst (Quietly x) (sym (serving-is c b h l x (Ok Discovery) (ap (judged c.tags) e ∙ finds))) (
        record {
          sound = subst (λ (m : List ℕ). Sound (with_memory c m)) (sym same) h;
          memory = same;
          stored = refl;
          holds = λ j d u. u;
        },
        λ y z.
            record {
              request = request_of x;
              fits = fits;
              finds = rw is q.0;
              items = items c h (request_of x) fits;
              encodes = subst (Encodes (request_of x) (items c h (request_of x) fits)) (sym (words-front b (words c h (request_of x) fits)) ∙ some-injective _ _ z) (encodes c h (request_of x) fits);
            },
      )
    where
      is : request_of x ≡ r
      is = message.asked_is x r e

      fits : Fits (request_of x)
      fits = rw is (written_read x r f.bytes e).0

      finds : rule_of c.tags r.byte0 ≡ Ok Discovery
      finds = rule-finds c.tags r.byte0 q.0

      same : memory_after (request_of x) c.memory ≡ c.memory
      same = quiet (request_of x) c.memory (rw is q.1)

  pub does-quiet : {x : List ℕ} → Finds x → Quietly x (after c b x)
  does-quiet {x} f = go (read x) refl f.only
    where
      go : (p : Reading Request) → read x ≡ p → finds_only p → Quietly x (after c b x)
      go (Refused n) e q = refused x n f e
      go (Means r) e q = found x r f e q
