-- Calls one after another: what is held for a tag at the end is the last new message of that tag, with the answer that it got. Assumes nothing.
use Prim.Native.Nat.{ℕ}
use mathlib.Core.Path.{◌≡◌, refl, sym, ap, subst, ◌∙◌}
use mathlib.Core.Bool.{Bool, true, false}
use mathlib.Core.Logic.{◌⊎◌, inl, inr}
use mathlib.Core.List.{List, [], ◌∷◌}
use borrow.Author.Tests.{eqb-true, eqb-false}
use lib.Dec.{eqb}
use Rattle.word.specs.Words.{Words}
use Rattle.message.specs.Walk.{request_of}
use Rattle.memory.proofs.Laws.Promises.{stays-words}
use Rattle.std.specs.Prelude.{Ok, Err}
use Rattle.tags.specs.declared.rule.Verdict.TheVariants.{New, Repeat, Discovery}
use Rattle.tags.specs.Rule.{Ruling}
use Rattle.tags.specs.Record.{holds}
use Rattle.completer.specs.Controller.{Controller}
use Rattle.completer.specs.Verdict.{verdict_of}
use Rattle.completer.specs.Serving.{after_by, after}
use Rattle.completer.specs.Called.{tag_in, SameFor, served, LastNew, OwnAnswer}
use Rattle.completer.proofs.Laws.Called.{new-stores, others-stay}

-- what one call makes of what is held for a tag
module _ (c : Controller) (call : List ℕ × List ℕ) where
  abbrev next : Controller
  next = (after c call.0 call.1).controller

  by_call : (v : Ruling) → verdict_of c call.0 call.1 ≡ v → next ≡ (after_by v c call.0 call.1).controller
  unfolding after
  by_call v e = ap (λ (u : Ruling). (after_by u c call.0 call.1).controller) e

  -- memory stays one of words
  words-stay : Words c.memory → Words next.memory
  words-stay w = subst (λ (d : Controller). Words d.memory) (sym (by_call (verdict_of c call.0 call.1) refl)) (go (verdict_of c call.0 call.1))
    where
      go : (v : Ruling) → Words (after_by v c call.0 call.1).controller.memory
      go (Err r) = w
      go (Ok New) = stays-words (request_of call.1) c.memory w
      go (Ok (Repeat tag)) = w
      go (Ok Discovery) = stays-words (request_of call.1) c.memory w

  -- a call that is not new leaves all of it
  not_new : (v : Ruling) → verdict_of c call.0 call.1 ≡ v → (v ≡ Ok New → ⊥) → (tag : ℕ) → holds next.tags tag ≡ true → SameFor c next tag
  not_new v e h tag = subst (λ (d : Controller). holds d.tags tag ≡ true → SameFor c d tag) (sym (by_call v e)) (go v h)
    where
      go : (u : Ruling) → (u ≡ Ok New → ⊥) → holds (after_by u c call.0 call.1).controller.tags tag ≡ true → SameFor c (after_by u c call.0 call.1).controller tag
      go (Err r) n k = record { was = k; stored = refl; kept = refl }
      go (Ok New) n k = absurd (n refl)
      go (Ok (Repeat t)) n k = record { was = k; stored = refl; kept = refl }
      go (Ok Discovery) n k = record { was = k; stored = refl; kept = refl }

-- what is held for a tag stays over two steps
same-on : {c d e : Controller} {tag : ℕ} → SameFor c d tag → SameFor d e tag → SameFor c e tag
same-on p q = record { was = p.was; stored = q.stored ∙ p.stored; kept = q.kept ∙ p.kept }

pub own-answer : (c : Controller) (calls : List (List ℕ × List ℕ)) → OwnAnswer c calls
own-answer c [] w b tag s h = inr (record { was = h; stored = refl; kept = refl })
own-answer c (call ∷ calls) w b tag s h = go (own-answer (next c call) calls (words-stay c call w) b.1 tag s h)
  where
    d : Controller
    d = served c (call ∷ calls)

    -- a new message of this tag is the last, if what is held stays behind it
    is_last : verdict_of c call.0 call.1 ≡ Ok New → tag_in call.1 ≡ tag → SameFor (next c call) d tag → LastNew c (call ∷ calls) d tag
    is_last e t k =
        let n = new-stores c call.0 call.1 e in
        record {
          before = [];
          call = call;
          behind = calls;
          are = refl;
          new = e;
          of = t;
          kept = k.kept ∙ rw (← t) n.kept;
          stored = k.stored ∙ rw (← t) n.stored;
        }

    newly : verdict_of c call.0 call.1 ≡ Ok New → SameFor (next c call) d tag → (x : Bool) → eqb tag (tag_in call.1) ≡ x → LastNew c (call ∷ calls) d tag ⊎ SameFor c d tag
    newly e k true x = inl (is_last e (sym (eqb-true tag (tag_in call.1) x)) k)
    newly e k false x = inr (same-on (others-stay c call.0 call.1 w b.0 e tag s k.was (eqb-false tag (tag_in call.1) x)) k)

    by : (v : Ruling) → verdict_of c call.0 call.1 ≡ v → SameFor (next c call) d tag → LastNew c (call ∷ calls) d tag ⊎ SameFor c d tag
    by (Ok New) e k = newly e k (eqb tag (tag_in call.1)) refl
    by (Err r) e k = inr (same-on (not_new c call (Err r) e (λ q. cc) tag k.was) k)
    by (Ok (Repeat t)) e k = inr (same-on (not_new c call (Ok (Repeat t)) e (λ q. cc) tag k.was) k)
    by (Ok Discovery) e k = inr (same-on (not_new c call (Ok Discovery) e (λ q. cc) tag k.was) k)

    go : LastNew (next c call) calls d tag ⊎ SameFor (next c call) d tag → LastNew c (call ∷ calls) d tag ⊎ SameFor c d tag
    go (inl l) =
        inl
        (record {
          before = call ∷ l.before;
          call = l.call;
          behind = l.behind;
          are = ap (λ (r : List (List ℕ × List ℕ)). call ∷ r) l.are;
          new = l.new;
          of = l.of;
          kept = l.kept;
          stored = l.stored;
        })
    go (inr k) = by (verdict_of c call.0 call.1) refl k
