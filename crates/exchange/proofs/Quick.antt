-- The call as nights are computed: an allowed controller that is lent an allowed output passes check 1 by law, so that
-- no buffer is counted; and it stays allowed. Checked.antt plays by it. Assumes nothing.
use Prim.Native.Nat.{ℕ}
use mathlib.Core.Path.{◌≡◌, refl, sym, ◌∙◌}
use mathlib.Core.Bool.{Bool, true, false, cond}
use mathlib.Core.List.{List}
use borrow.Author.Tests.{eqb-true}
use lib.ListN.{get_or}
use Rattle.word.specs.Words.{Bytes}
use Rattle.header.specs.Header.{tag_of}
use Rattle.header.specs.Refusal.{refusal}
use Rattle.message.specs.Request.{Request, Reading, Refused, Means}
use Rattle.message.specs.Walk.{read, request_of}
use Rattle.memory.specs.Moves.{memory_after}
use Rattle.memory.proofs.Laws.Promises.{same_length, stays-words}
use Rattle.std.specs.Prelude.{Ok, Err}
use Rattle.tags.specs.declared.rule.Verdict.TheVariants.{New, Repeat, Discovery}
use Rattle.tags.specs.Rule.{Ruling, rule_of}
use Rattle.tags.proofs.Laws.Record.{rule-new}
use Rattle.completer.specs.Verdict.{judged, as_kept, held_to}
use Rattle.completer.specs.Serving.{after_by, after}
use Rattle.completer.specs.Controller.{Controller, with_memory, request_in, After}
use Rattle.once.specs.Tags.{tags_in, next_tag}
use Rattle.exchange.specs.Terms.{Plain, Lendable, Sound}
use Rattle.exchange.specs.Sight.{stored_by}
use Rattle.exchange.proofs.Codec.{first-is}
use Rattle.exchange.proofs.Going.{serving-is, expected-is}
use Rattle.exchange.proofs.Controller.{sound-new}

-- the call, where check 1 is passed
abbrev pub quick : Controller → List ℕ → List ℕ → After
quick c b x = after_by (held_to c.kept c.tags x (judged c.tags (read x))) c b x

module _ (c : Controller) (b x : List ℕ) (h : Sound c) (l : Lendable b) where
  pub quick-is : after c b x ≡ quick c b x
  quick-is = serving-is c b h l x (judged c.tags (read x)) refl

  sound-moved : Sound (with_memory c (memory_after (request_of x) c.memory))
  sound-moved =
      let n = same_length (request_of x) c.memory in
      record {
        words = stays-words (request_of x) c.memory h.words;
        some = rw n h.some;
        most = rw n h.most;
        stored = h.stored;
        kept = h.kept;
        tags = h.tags;
      }

  -- a message that is judged new is plain, and has the next tag
  sound-taken : Bytes x → (r : Request) → read x ≡ Means r → rule_of c.tags r.byte0 ≡ Ok New
      → Sound (after_by (Ok New) c b x).controller
  sound-taken y r m e =
      let n = rule-new c.tags r.byte0 e in
      let p : Plain x = record { bytes = y; request = r; is = m; clear = n.clear } in
      let t : tag_of (get_or x 0 0) ≡ next_tag (tags_in (stored_by c)) =
      rw (first-is p) (eqb-true _ _ (sym (expected-is c h (tag_of r.byte0)) ∙ n.expected)) in
      sound-new c b x h l p t

  pub sound-quick : Bytes x → Sound (quick c b x).controller
  sound-quick y = go (read x) refl
    where
      kept : (tag : ℕ) (k : Bool) → Sound (after_by (cond k (Ok (Repeat tag)) (Err (refusal 12))) c b x).controller
      kept tag true = h
      kept tag false = h

      by : (r : Request) → read x ≡ Means r → (v : Ruling) → rule_of c.tags r.byte0 ≡ v
          → Sound (after_by (held_to c.kept c.tags x v) c b x).controller
      by r m (Err n) e = h
      by r m (Ok New) e = sound-taken y r m e
      by r m (Ok (Repeat tag)) e = kept tag (as_kept (request_in c.kept c.tags tag) x)
      by r m (Ok Discovery) e = sound-moved

      go : (p : Reading Request) → read x ≡ p
          → Sound (after_by (held_to c.kept c.tags x (judged c.tags p)) c b x).controller
      go (Refused n) m = h
      go (Means r) m = by r m (rule_of c.tags r.byte0) refl
