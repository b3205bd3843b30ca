-- The theorems of specs/Promise.antt, but for `told-counts` (proofs/Counts.antt) and for `comes-alone`, `never-twelve` and
-- `answer-is-own` (proofs/Never.antt). Assumes nothing.
use Prim.Native.Nat.{suc, ◌+◌, ◌-◌, ◌%◌}
use mathlib.Core.Path.{◌≡◌, refl, sym, ap, subst, ◌∙◌}
use mathlib.Core.Bool.{Bool, true, false, cond}
use mathlib.Core.Option.{none, some}
use mathlib.Core.List.{List}
use native.Mathlib.Omega.{arith}
use lib.ListN.{length, get_or, get_elem?, take}
use Rattle.header.specs.Header.{kind_of}
use Rattle.message.specs.Walk.{request_of}
use Rattle.carrying.specs.Answers.{failed, answer_to}
use Rattle.carrying.proofs.Laws.Promises.{answers-then}
use Rattle.tags.specs.Record.{is_fresh}
use Rattle.completer.specs.Controller.{Controller}
use Rattle.once.specs.World.{finished}
use Rattle.once.specs.Promise.{made}
use Rattle.once.specs.Tags.{tags_in}
use Rattle.once.proofs.Keeps.{results_at}
use Rattle.once.proofs.Stored.{next_small}
use Rattle.once.proofs.Tagged.{tagged-safety, tagged-progress, tagged-extends}
use Rattle.exchange.specs.Promise.{morning, Memory, tag_held, LastAccepted, FinishedOutcomes, OutcomeThen, UpToError, OutcomeCounts, OnlyItsOwn, AllFinished, NeverStuck, SomeFits, Tags}
use Rattle.exchange.specs.Sight.{stored_by}
use Rattle.exchange.specs.Terms.{terms, Sound}
use Rattle.exchange.specs.Outcomes.{Outcome, outcome_over}
use Rattle.exchange.specs.Ends.{ends}
use Rattle.exchange.proofs.Codec.{result-at, asked-fits}
use Rattle.exchange.proofs.Counts.{up-to-error}
use Rattle.exchange.proofs.Going.{none-stored, back-stored, newest-stored, stored-held}
use Rattle.exchange.proofs.Waiting.{to-agree, agree-next, seen-length}
use Rattle.exchange.proofs.Sender.{offers-it}
use Rattle.exchange.proofs.Taking.{only-own}
use Rattle.exchange.proofs.Example.{nop-fits}
use Rattle.exchange.proofs.Facts.{some-wait, not_wide, tagged, records-say}
use Rattle.exchange.proofs.Begins.{begins}

pub memory : Memory
memory c s b es n =
    let p = tagged-safety tagged some-wait not_wide c s (begins c s b) es n in
    record { k = p.k; least = p.finished-or; most = p.more; offered = p.offered; memory = p.memory }

-- the newest tag that the record holds is the first that `once` sees
newest-is : (c : Controller) → Sound c → get_elem? (tags_in (stored_by c)) 0 ≡ tag_held c
newest-is c h = go (is_fresh c.tags) refl
  where
    go : (f : Bool) → is_fresh c.tags ≡ f → get_elem? (tags_in (stored_by c)) 0 ≡ cond f none (some c.tags.tag)
    go true f = rw (none-stored c h f)
    go false f = newest-stored c h c.tags.tag f refl

pub last-accepted : LastAccepted
last-accepted c s b es n =
    let p = records-say c s b es n in
    let w = morning c s es in
    record {
      offered = p.within;
      memory = p.memory;
      first = λ e. sym (newest-is w.controller p.sound) ∙ ap (λ l. get_elem? (tags_in l) 0) (p.kept e) ∙ newest-is c b.sound;
      last = λ i message e h. sym (newest-is w.controller p.sound) ∙ p.last i 0 message (omega (arith, e)) (omega arith) h;
      four =
          λ i message l m e.
          let j = w.taken - suc i in
          let at = p.last i j message (omega arith) (omega arith) e in
          let r = back-stored w.controller p.sound j _ at in
          record {
            held = rw (← r.1) (stored-held w.controller p.sound j r.0);
            kept = rw (← r.1) (p.repeats i j message (omega arith) e at);
          };
    }

pub finished-outcomes : FinishedOutcomes
finished-outcomes c s b es n =
    let p = tagged-safety tagged some-wait not_wide c s (begins c s b) es n in
    record { offered = omega (arith, p.finished-or, p.offered); are = p.outcomes }

pub outcome-then : OutcomeThen
unfolding outcome_over
outcome-then memory message before c behind e ok =
    let items = answer_to (request_of message) 0 memory in
    (get_or items (length before) failed, result-at (kind_of (request_of message).byte0) items (length before), answers-then (request_of message) 0 memory before c behind e ok)

pub outcome-counts : OutcomeCounts
outcome-counts c s b es n i o e =
    let w = morning c s es in
    let p = finished-outcomes c s b es n in
    let r = results_at terms c.memory w.offered (finished ends w) i o (sym (ap (λ (l : List Outcome). get_elem? l i) p.are) ∙ e) in
    let plain = (records-say c s b es n).plain i r.0 r.1 in
    let m = made terms c.memory (take i w.offered) in
    record {
      message = r.0;
      is = r.1;
      many = subst (λ (x : Outcome). UpToError m r.0 (length x)) (sym r.2) (up-to-error m r.0 (asked-fits plain));
    }

pub only-its-own : OnlyItsOwn
only-its-own c s b es n = only-own (records-say c s b es n).order

pub some_fits : SomeFits
some_fits s h w = let f = nop-fits s in record { fits = f; accepted = offers-it s _ h w f }

pub all_finished : AllFinished
all_finished c s b = tagged-progress tagged some-wait not_wide c s (begins c s b)

pub never_stuck : NeverStuck
never_stuck c s b = tagged-extends tagged some-wait not_wide c s (begins c s b)

pub tags : Tags
tags c s b es n =
    let p = records-say c s b es n in
    let w = morning c s es in
    let first = agree-next s (rw (begins c s b).next (next_small (tags_in (stored_by c)))) in
    let now = agree-next w.sender (omega (arith, p.next)) in
    let agree = to-agree w.sender.sender w.sender.waiting now.0 in
    record {
      tags = λ i message e. p.tags i message e ∙ ap (λ m. (m + i) % 16) first.1;
      next = sym now.1 ∙ p.next ∙ ap (λ m. (m + finished ends w) % 16) first.1;
      waiting = omega (arith, agree.many, seen-length w.sender.waiting, p.waits);
    }
