-- The theorems of specs/Lives.antt. Assumes nothing.
use Prim.Native.Nat.{ℕ}
use mathlib.Core.Path.{◌≡◌, refl, sym, ap, subst, ◌∙◌}
use mathlib.Core.Bool.{Bool, true, false, cond}
use mathlib.Core.Logic.{inl, inr}
use mathlib.Core.Option.{none, some, some-injective}
use mathlib.Core.List.{List, [], ◌∷◌, ◌++◌}
use native.Mathlib.Omega.{arith}
use lib.Dec.{eqb}
use Rattle.word.specs.Words.{bytes_of, Bytes}
use Rattle.word.proofs.Crossing.{bytes_below}
use Rattle.word.proofs.Runs.{words-front}
use Rattle.header.specs.declared.Kind.TheVariants.{Nop, Write}
use Rattle.header.specs.Header.{kind_of, discovery_of, next_tag}
use Rattle.header.specs.Refusal.{refusal}
use Rattle.message.specs.Request.{Request, Reading, Refused, Means, request_words}
use Rattle.message.specs.Walk.{read, request_of}
use Rattle.message.specs.Discovery.{discovery_byte, discovery_request, discovery_bytes}
use Rattle.message.proofs.Laws.Back.{asked_is}
use Rattle.message.proofs.Laws.Fixed.{discovery-kind, discovery-bit, discovery-read, same-discovery}
use Rattle.message.proofs.Laws.Pieces.{written_is}
use Rattle.answer.specs.Discovery.{discovery_answer}
use Rattle.memory.proofs.Laws.Promises.{quiet}
use Rattle.std.specs.Prelude.{Ok, Err}
use Rattle.tags.specs.declared.rule.Verdict.TheVariants.{Discovery}
use Rattle.tags.specs.Record.{is_fresh, mark_of}
use Rattle.tags.proofs.Laws.Record.{fresh-fits, held-room, mark-fresh, mark-held, mark-small, rule-finds}
use Rattle.completer.specs.Controller.{Controller, with_memory, After}
use Rattle.completer.specs.Serving.{after}
use Rattle.completer.specs.Verdict.{judged}
use Rattle.completer.proofs.Laws.Discovered.{discovery-answered}
use Rattle.initiator.specs.declared.sender.Moved.{Moved}
use Rattle.initiator.specs.Sender.{idle, started_at, start_of}
use Rattle.initiator.proofs.Laws.Starting.{fresh-starts, held-starts}
use Rattle.once.specs.World.{other}
use Rattle.once.specs.Laws.{Laws}
use Rattle.once.specs.Lives.{Others, asking, quietly, AllQuiet, happened, Renews}
use Rattle.once.proofs.Tags.{tagged-laws}
use Rattle.once.proofs.Lives as of-once
use Rattle.exchange.specs.Ends.{Loader, ends, sent_in}
use Rattle.exchange.specs.Terms.{finds_only, Finds, Lendable, terms, Sound}
use Rattle.exchange.specs.Promise.{Begins, window, ages, Night}
use Rattle.exchange.proofs.Going.{allowed-is, serving-is}
use Rattle.exchange.proofs.Started.{started-at}
use Rattle.exchange.proofs.Facts.{tagged, some-wait, not_wide, records-say}
use Rattle.exchange.proofs.Begins.{begins}
use Rattle.exchange.proofs.Never.{never-twelve}
use Rattle.exchange.proofs.Promise.{all_finished, never_stuck}
use Rattle.lives.specs.Lives.{learnt_in, ComesUp, restarts, left, sender_by, LivesMemory}
use Rattle.lives.specs.Lives.{LivesMoments, LivesStay, LivesEach, LivesStart, LivesFinish, LivesBegin}
use Rattle.lives.specs.Lives.{LivesBeginFresh, LivesBeginReset, LivesNever12}

-- Quiet datagrams leave the controller as it was.
module _ (c : Controller) (b : List ℕ) (h : Sound c) (l : Lendable b) where
  found-same : (x : List ℕ) (r : Request) → read x ≡ Means r → discovery_of r.byte0 ≡ true
      → (kind_of r.byte0 ≡ Write → ⊥) → (after c b x).controller ≡ c
  found-same x r e d k =
      let is = asked_is x r e in
      ap (λ (a : After). a.controller)
      (serving-is c b h l x (Ok Discovery) (ap (judged c.tags) e ∙ rule-finds c.tags r.byte0 d))
      ∙ ap (with_memory c) (quiet (request_of x) c.memory (rw is k))

  pub quiet_same : {x : List ℕ} → Finds x → (ends.serve c b x).0 ≡ c
  quiet_same {x} f = go (read x) refl f.only
    where
      go : (p : Reading Request) → read x ≡ p → finds_only p → (after c b x).controller ≡ c
      go (Refused n) e q =
          ap (λ (a : After). a.controller) (serving-is c b h l x (Err n) (ap (judged c.tags) e))
      go (Means r) e q = found-same x r e q.0 q.1

pub all_same : (c : Controller) (xs : Others ends) → Sound c → AllQuiet terms xs → quietly ends c xs ≡ c
all_same c [] h a = refl
all_same c (x ∷ xs) h a =
    let e = quiet_same c x.1 h a.0.1 a.0.0 in
    rw e (all_same c xs h a.1)

-- what there is where there is something
is_some : {X : Type 0} (b : Bool) (x y : X) → cond b (some x) none ≡ some y → y ≡ x
is_some true x y e = sym (some-injective _ _ e)
is_some false x y e = let z : ◌≡◌ {A = ℕ} 0 1 = cc in absurd (omega arith)

-- what is learnt is the sender of the answer, and nothing waits
learnt_is : (r : Moved) (s : Loader) → learnt_in r ≡ some s → (s.sender ≡ r.sender) × (s.waiting ≡ [])
learnt_is r s e =
    let z = is_some (eqb r.refusal.number 0) _ s e in
    (ap (λ (x : Loader). x.sender) z, ap (λ (x : Loader). x.waiting) z)

-- the mark of an allowed controller is not refused, and makes a sender at which none waits
pub mark-starts : (c : Controller) → Sound c
    → (n : ℕ) × (started_at (mark_of c.tags) ≡ record { refusal = refusal 0; sender = idle n })
mark-starts c h = go (is_fresh c.tags) refl
  where
    go : (f : Bool) → is_fresh c.tags ≡ f
        → (n : ℕ) × (started_at (mark_of c.tags) ≡ record { refusal = refusal 0; sender = idle n })
    go true z = (0, ap started_at (mark-fresh c.tags z) ∙ fresh-starts)
    go false z =
        let t = c.tags.tag in
        (next_tag t, ap started_at (mark-held c.tags z) ∙ held-starts t (held-room c.tags h.tags z).tag)

-- The fixed discovery is quiet, and what the controller answers to it makes a sender.
asks-quietly : Finds discovery_bytes
asks-quietly =
    record {
      bytes =
          subst Bytes (written_is discovery_byte discovery_request.commands ∙ same-discovery)
          (bytes_below (request_words discovery_byte discovery_request.commands));
      only = subst finds_only (sym discovery-read) (discovery-bit, λ e. no_write (sym discovery-kind ∙ e));
    }
  where
    no_write : Nop ≡ Write → ⊥
    no_write e = let z : ◌≡◌ {A = ℕ} 0 1 = cc in omega arith

module _ (c : Controller) (b : List ℕ) (h : Sound c) (l : Lendable b) where
  abbrev mark : ℕ
  mark = mark_of c.tags

  pub given_is : (ends.serve c b discovery_bytes).1 ≡ some (bytes_of (discovery_answer mark))
  given_is =
      ap sent_in (discovery-answered c b (allowed-is c b h l)) ∙ ap some (words-front b (discovery_answer mark))

  pub learns-it : restarts.learn (bytes_of (discovery_answer mark))
      ≡ some (record { sender = (started_at mark).sender; waiting = [] })
  learns-it =
      ap learnt_in (started-at mark (omega (arith, mark-small c.tags h.tags)))
      ∙ rw (ap (λ (m : Moved). m.refusal.number) (mark-starts c h).1)

up-sound : (c c' : Controller) → Sound c → c'.memory ≡ c.memory → ComesUp c c' → Sound c'
up-sound c c' h e u =
    record {
      words = rw e h.words;
      some = rw e h.some;
      most = rw e h.most;
      stored = u.stored;
      kept = u.kept;
      tags = fresh-fits c'.tags u.fresh;
    }

pub renews : Renews terms window ages restarts Sound Begins
renews =
    record {
      quiet =
          λ {c} {b} {x} h q l.
          let e = quiet_same c b h l q in (
            subst Sound (sym e) h,
            ap (λ (d : Controller). d.memory) e,
            λ s k. subst (λ (d : Controller). Begins d s) e k,
          );
      unasked = λ h f. record { sound = h; nothing = refl; pair = inl (record { tags = f; sender = refl }) };
      learns =
          λ {c} {b} {a} {s} h l g e.
          let is = learnt_is (start_of a) s e in
          record {
            sound = h;
            nothing = is.1;
            pair =
                inr (record {
                  earlier = c;
                  sound = h;
                  since = refl;
                  lent = b;
                  long = l;
                  answer = a;
                  given = g;
                  sender = is.0;
                });
          };
      heard = λ {c} {b} h l. (asks-quietly, _, _, given_is c b h l, learns-it c b h l);
      resets = λ {c} {c'} h u. (up-sound c c' h u.memory u, u.memory);
      ends = λ {c} {s} es b a. (records-say c s b es a).sound;
    }

pub laws : (c : Controller) (s : Loader) → Begins c s → Laws ends terms window ages c s
laws c s b = tagged-laws tagged some-wait not_wide (omega arith) (omega arith) c s (begins c s b)

pub lives-memory : LivesMemory
lives-memory c h = of-once.memory-of-lives renews laws c h

pub lives-moments : LivesMoments
lives-moments c = of-once.moments terms window ages restarts c

pub lives-stay : LivesStay
lives-stay = (of-once.parts_stay window restarts, of-once.part-grows window restarts)

pub lives-each : LivesEach
lives-each c h = of-once.each-life renews laws c h

pub lives-start : LivesStart
lives-start c h = of-once.each-starts renews laws c h

pub lives-finish : LivesFinish
lives-finish c h ls o es a l = let b = lives-start c h ls o es a l in (all_finished _ _ b, never_stuck _ _ b)

pub lives-begin : LivesBegin
lives-begin c h = of-once.life-begins renews laws c h

pub lives-begin-fresh : LivesBeginFresh
lives-begin-fresh c f = (f, tt)

pub lives-begin-reset : LivesBeginReset
lives-begin-reset c c' u = lives-begin-fresh c' u.fresh

-- 12 is never given in a night, so in no life.
pub lives-never-12 : LivesNever12
lives-never-12 c h =
    record {
      before =
          λ ls xs x b a q t.
          let r = of-once.first-quiet terms xs ((x, b) ∷ []) q in
          let l = lives-begin c h ls [] b [] a tt r.1.0.1 tt in
          let n = lives-start c h ls (asking [] b [] l.0) [] a l.1 in
          never-twelve (left c ls) l.0 n [] (other x b) r.1 x b refl
          (subst (λ (d : Controller). (after d b x).refusal.number ≡ 12) (all_same (left c ls) xs n.sound r.0) t);
      then =
          λ ls o es e a l x b k.
          let n = lives-start c h ls o (es ++ e ∷ []) a l in
          never-twelve (left c ls) (sender_by o) n (happened window restarts o es) e
          (subst (Night (left c ls) (sender_by o)) (of-once.happened-more window restarts o es (e ∷ [])) l.1) x b k;
    }
