-- A fresh pair, and a sender made from a discovery's answer, are a start as `once` has it. Assumes nothing.
use Prim.Native.Nat.{ℕ}
use mathlib.Core.Path.{◌≡◌, refl, sym, ap, ◌∙◌}
use mathlib.Core.Bool.{Bool, true, false}
use mathlib.Core.Logic.{◌⊎◌, inl, inr}
use mathlib.Core.Option.{some, some-injective}
use mathlib.Core.List.{List}
use native.Mathlib.Omega.{arith}
use Rattle.word.specs.Words.{bytes_of}
use Rattle.word.proofs.Runs.{words-front}
use Rattle.message.specs.Discovery.{discovery_bytes}
use Rattle.answer.specs.Discovery.{discovery_answer}
use Rattle.tags.specs.declared.record.TagRecord.{TagRecord}
use Rattle.tags.specs.Record.{is_fresh, mark_of}
use Rattle.tags.proofs.Laws.Record.{held-room, mark-fresh, mark-held, mark-small}
use Rattle.completer.specs.Controller.{Controller}
use Rattle.completer.specs.Serving.{after}
use Rattle.completer.proofs.Laws.Discovered.{discovery-answered}
use Rattle.initiator.specs.declared.sender.Sender.{Sender}
use Rattle.initiator.specs.declared.sender.Moved.{Moved}
use Rattle.initiator.specs.Sender.{idle, fresh_sender, started_at, start_of}
use Rattle.initiator.proofs.Laws.Starting.{started-fresh, started-held}
use Rattle.once.specs.Tags.{next_tag, tags_in, Start}
use Rattle.exchange.specs.Ends.{Loader, ends, sent_in}
use Rattle.exchange.specs.Terms.{terms, Sound}
use Rattle.exchange.specs.Sight.{stored_by, seen, sight}
use Rattle.exchange.specs.Promise.{FreshPair, Discovered, Begins}
use Rattle.exchange.proofs.Going.{allowed-is, next-fresh, next-held}
use Rattle.exchange.proofs.Started.{started-at}

-- the sender that is made where the record is this one
abbrev made_by : Controller → Sender
made_by c = idle (next_tag (tags_in (stored_by c)))

fresh-made : (c : Controller) → Sound c → is_fresh c.tags ≡ true → fresh_sender ≡ made_by c
fresh-made c h e = rw (next-fresh c h e)

mark_made : (c : Controller) → Sound c → (started_at (mark_of c.tags)).sender ≡ made_by c
mark_made c h = go (is_fresh c.tags) refl
  where
    go : (f : Bool) → is_fresh c.tags ≡ f → (started_at (mark_of c.tags)).sender ≡ made_by c
    go true z = rw (mark-fresh c.tags z) (started-fresh ∙ fresh-made c h z)
    go false z = rw (mark-held c.tags z) (started-held c.tags.tag (held-room c.tags h.tags z).tag ∙ rw (next-held c h z))

-- the answer to the fixed discovery
answer-is : {c : Controller} {s : Loader} (d : Discovered c s) → d.answer ≡ bytes_of (discovery_answer (mark_of c.tags))
answer-is {c} d =
    let e = d.earlier in
    let a = discovery-answered e d.lent (allowed-is e d.lent d.sound d.long) in
    let g : sent_in (after e d.lent discovery_bytes) ≡ some (bytes_of (discovery_answer (mark_of e.tags))) =
    ap sent_in a ∙ ap some (words-front d.lent (discovery_answer (mark_of e.tags))) in
    some-injective _ _ (sym d.given ∙ g) ∙ ap (λ (t : TagRecord). bytes_of (discovery_answer (mark_of t))) d.since

sender-made : (c : Controller) (s : Loader) → Begins c s → s.sender ≡ made_by c
sender-made c s b = go b.pair
  where
    go : FreshPair c s ⊎ Discovered c s → s.sender ≡ made_by c
    go (inl f) = f.sender ∙ fresh-made c b.sound f.tags
    go (inr d) =
        d.sender ∙ ap (λ (a : List ℕ). (start_of a).sender) (answer-is d)
        ∙ ap (λ (r : Moved). r.sender)
        (started-at (mark_of c.tags) (omega (arith, mark-small c.tags b.sound.tags)))
        ∙ mark_made c b.sound

-- none waits
pub begins-idle : (c : Controller) (s : Loader) → Begins c s → s.sender.waiting ≡ 0
begins-idle c s b = ap (λ (x : Sender). x.waiting) (sender-made c s b)

pub begins : (c : Controller) (s : Loader) → Begins c s → Start ends terms sight c s
begins c s b =
    record {
      sound = b.sound;
      nothing = ap seen b.nothing;
      next = rw (sender-made c s b, b.nothing);
    }
