-- What comes to the controller is all that is served (`comes-alone`), 12 is never given at an event of a night (`never-twelve`), and
-- an answer is a message's own (`answer-is-own`). Assumes nothing.
use Prim.Native.Nat.{ℕ, ◌+◌, ◌≤◌}
use mathlib.Core.Path.{◌≡◌, refl, sym, ap, subst, ◌∙◌}
use mathlib.Core.Bool.{Bool, true, false, cond, false≢true}
use mathlib.Core.Logic.{◌⊎◌, inl, inr}
use mathlib.Core.Option.{Option, none, some, some-injective}
use mathlib.Core.List.{List, [], ◌∷◌}
use native.Mathlib.Omega.{arith}
use lib.ListN.{get_or, get_elem?}
use Rattle.header.specs.Header.{tag_of}
use Rattle.header.specs.Refusal.{refusal}
use Rattle.message.specs.Request.{Means}
use Rattle.message.specs.Walk.{read}
use Rattle.message.proofs.Laws.Going.{read_first}
use Rattle.std.specs.Prelude.{Ok, Err}
use Rattle.tags.specs.declared.rule.Verdict.TheVariants.{New, Repeat}
use Rattle.tags.specs.Record.{back as back_from, holds}
use Rattle.tags.specs.Rule.{Ruling, expected}
use Rattle.tags.proofs.Laws.Record.{rule-plain}
use Rattle.completer.specs.Controller.{Controller, request_in, After}
use Rattle.completer.specs.Verdict.{as_kept, held_to, judged}
use Rattle.completer.specs.Serving.{accepts, after_by, after}
use Rattle.completer.proofs.Laws.Called.{kept-equal, called-by, twelve-exactly}
use Rattle.once.specs.World.{message, stranger, Event, offer, send, arrive, back, other, World, sent, given, start, step}
use Rattle.once.specs.Promise.{Allowed}
use Rattle.once.specs.Tags.{Says}
use Rattle.once.proofs.Runs.{always-append}
use Rattle.exchange.specs.Ends.{Loader, ends}
use Rattle.exchange.specs.Terms.{Finds, finds_only, terms}
use Rattle.exchange.specs.Sight.{sight}
use Rattle.exchange.specs.Promise.{window, ages, morning, lent_to, comes, Alone, ComesAlone, NeverTwelve, AnswerIsOwn}
use Rattle.exchange.proofs.Going.{held-stored, back-stored}
use Rattle.exchange.proofs.Facts.{records-say}

-- What comes is all that is served.
pub comes-alone : ComesAlone
comes-alone E w (offer d) = record { controller = refl; answers = inl refl }
comes-alone E w (send p) = record { controller = refl; answers = inl refl }
comes-alone E w (arrive j b) = by (sent E w j).1 refl
  where
    i : ℕ
    i = (sent E w j).0

    by : (y : Option E.Datagram) → (sent E w j).1 ≡ y → Alone E w (arrive j b)
    by none e = record { controller = rw e; answers = inr (message i, rw e) }
    by (some x) e = record { controller = rw e; answers = inr (message i, rw e) }
comes-alone E w (back n) = by (given E w n).1 refl
  where
    by : (y : Option E.Datagram) → (given E w n).1 ≡ y → Alone E w (back n)
    by none e = record { controller = rw e; answers = inl (rw e) }
    by (some a) e = record { controller = rw e; answers = inl (rw e) }
comes-alone E w (other datagram output) = record { controller = refl; answers = inr (stranger, refl) }

-- what comes was sent
was-sent : (output : List ℕ) (y : Option (List ℕ)) (x o : List ℕ) → lent_to output y ≡ some (x, o) → y ≡ some x
was-sent output none x o e = let z : ◌≡◌ {A = ℕ} 0 1 = cc in absurd (omega arith)
was-sent output (some z) x o e = ap (λ (u : List ℕ × List ℕ). some u.0) (some-injective _ _ e)

module _ (c : Controller) (s : Loader) (w : World ends) (says : Says ends terms sight window c s w) (x o : List ℕ) where
  -- what 12 says does not hold of a message that may arrive: its tag is held only where it is the kept request
  not-sent : (i : ℕ) (d : List ℕ) → get_elem? w.offered i ≡ some d → w.taken ≤ i + ages.request → x ≡ d
      → (after w.controller o x).refusal.number ≡ 12 → ⊥
  not-sent i d e old copy t =
      let p = says.plain i d e in
      let q = ((twelve-exactly w.controller o x).only (rw copy p.bytes) t).1 in
      let first : get_or d 0 0 ≡ q.request.byte0 = ap (λ (l : List ℕ). get_or l 0 0) (sym copy) ∙ (read_first x q.request q.reads).1 in
      let held : holds w.controller.tags (tag_of (get_or d 0 0)) ≡ true = rw first q.held in
      let at = held-stored w.controller says.sound (tag_of (get_or d 0 0)) (omega arith) held in
      let j = back_from w.controller.tags.tag (tag_of (get_or d 0 0)) in
      let tag : back_from w.controller.tags.tag j ≡ tag_of q.request.byte0 = (back-stored w.controller says.sound j _ at).1 ∙ ap tag_of first in
      q.differ (rw (← tag) (says.repeats i j d old e at) ∙ sym copy)

  -- nor of a discovery
  not_found : Finds x → (after w.controller o x).refusal.number ≡ 12 → ⊥
  not_found f t =
      let q = ((twelve-exactly w.controller o x).only f.bytes t).1 in
      let only : finds_only (Means q.request) = subst finds_only q.reads f.only in
      false≢true (sym q.clear ∙ only.0)

  not-twelve : (e : Event ends) → Allowed ends terms window ages w e → comes ends w e ≡ some (x, o) → (after w.controller o x).refusal.number ≡ 12 → ⊥
  not-twelve (offer d) a k = let z : ◌≡◌ {A = ℕ} 0 1 = cc in absurd (omega arith)
  not-twelve (send p) a k = let z : ◌≡◌ {A = ℕ} 0 1 = cc in absurd (omega arith)
  not-twelve (arrive j b) a k =
      let m = says.sent j x a.0 (was-sent b (sent ends w j).1 x o k) in
      not-sent (sent ends w j).0 m.0 m.1 a.1 m.2
  not-twelve (back n) a k = let z : ◌≡◌ {A = ℕ} 0 1 = cc in absurd (omega arith)
  not-twelve (other y b) a k =
      let z : y ≡ x = ap (λ (u : List ℕ × List ℕ). u.0) (some-injective _ _ k) in
      not_found (subst Finds z a.0)

-- 12 is never given.
pub never-twelve : NeverTwelve
never-twelve c s b es e n x o k =
    let p = always-append (step ends window) (Allowed ends terms window ages) (start ends c s) es (e ∷ []) n in
    not-twelve c s (morning c s es) (records-say c s b es p.0) x o e p.1.0 k

-- An answer is the message's own.
pub answer-is-own : AnswerIsOwn
answer-is-own c o x r a e z n = go (holds c.tags t) (expected c.tags t) refl refl
  where
    t : ℕ
    t = tag_of r.byte0

    -- held to the kept request, the verdict is this one
    by : (v : Ruling) → judged c.tags (read x) ≡ v → after c o x ≡ after_by (held_to c.kept c.tags x v) c o x
    by v q = called-by c o x a _ (ap (held_to c.kept c.tags x) q)

    ruled : (p q : Bool) → holds c.tags t ≡ p → expected c.tags t ≡ q → judged c.tags (read x) ≡ cond p (Ok (Repeat t)) (cond q (Ok New) (Err (refusal 11)))
    ruled p q f g = ap (judged c.tags) e ∙ rule-plain c.tags r.byte0 z ∙ rw (f, g)

    Again : Type 0
    Again = (request_in c.kept c.tags t ≡ x) × (after c o x ≡ after_by (Ok (Repeat t)) c o x)

    kept : (k : Bool) → as_kept (request_in c.kept c.tags t) x ≡ k → after c o x ≡ after_by (cond k (Ok (Repeat t)) (Err (refusal 12))) c o x → Again
    kept true q m = (kept-equal _ _ q, m)
    kept false q m = absurd (let i = sym (ap (λ (u : After). u.refusal.number) m) ∙ n in omega arith)

    go : (p q : Bool) → holds c.tags t ≡ p → expected c.tags t ≡ q → (after c o x ≡ accepts c o x) ⊎ Again
    go true q f g = inr (kept (as_kept (request_in c.kept c.tags t) x) refl (by (Ok (Repeat t)) (ruled true q f g)))
    go false true f g = inl (by (Ok New) (ruled false true f g))
    go false false f g = absurd (let m = sym (ap (λ (u : After). u.refusal.number) (by (Err (refusal 11)) (ruled false false f g))) ∙ n in omega arith)
