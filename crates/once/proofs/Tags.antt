-- Tags modulo 16, up to W messages waiting, give the laws: `tagged-laws`, cited by Tagged.antt. Twice W is at most 16,
-- and the ages at most 15 and 16; Sharp.antt shows that none of these may be one more. Assumes nothing.
use Prim.Native.Nat.{ℕ, ◌+◌, ◌≤◌, ◌<◌}
use mathlib.Core.Path.{sym}
use mathlib.Core.List.{List}
use native.Mathlib.Omega.{arith}
use Rattle.once.proofs.Bounds.{most_requests, most_answers}
use Rattle.once.specs.World.{Ends}
use Rattle.once.specs.Promise.{Terms, Ages}
use Rattle.once.specs.Laws.{Laws}
use Rattle.once.specs.Tags.{Sight, Start, Tagged}
use Rattle.once.specs.Wrapped.{Wrap, wrapped, wrapped_terms, Crosses}
use Rattle.once.proofs.Rows.{Numbered}
use Rattle.once.proofs.Stored.{Took, start-next, took-start, took-kept, took-next, took-again, took-late}
use Rattle.once.proofs.Waiting.{Has, has-start, has-waits, has-still, has-later, has-offers, has-full}
use Rattle.once.proofs.Waiting.{has-oldest, has-sends, has-hears}
use Rattle.once.proofs.Wrapped.{wrapped-laws}

module _ {E : Ends} {T : Terms E} {S : Sight E T} {W : ℕ} {A : Ages} (F : Tagged E T S W) (pos : 0 < W)
    (wide : W + W ≤ 16) (requests : A.request ≤ most_requests) (answers : A.answer ≤ most_answers) (c₀ : E.Controller) (s₀ : E.Sender)
    (begun : Start E T S c₀ s₀) where
  open E use {Message, Datagram, Controller, Sender}

  -- what the two ends are when the first messages are accepted and finished
  abbrev pub Accepted : List Message → Controller → Type 0
  Accepted ds c = Took F pos wide c₀ s₀ ds c

  abbrev pub Finished : List Message → ℕ → ℕ → Sender → Type 0
  Finished ds k f s = Has F wide (T.memory c₀) s₀ ds k f s

  -- Tags modulo 16 give the laws.
  pub tagged-laws : Laws E T W A c₀ s₀
  tagged-laws =
      record {
        Numbered = Numbered S s₀;
        Copy = S.Copy;
        Answer = S.Answer;
        Strange = S.Strange;
        Took = Accepted;
        Has = Finished;
        took-none = took-start F pos wide c₀ s₀ begun;
        has-none = has-start F wide (T.memory c₀) s₀ (sym (start-next F pos wide c₀ s₀ begun)) begun.nothing;
        carried = λ k. k.memory;
        next = took-next F pos wide c₀ s₀;
        again = took-again F pos wide c₀ s₀;
        late =
            λ i k e h o p l.
            took-late F pos wide c₀ s₀ i k (k.row i _ e) (λ z. omega arith) (λ z. h) (omega arith) (omega arith) p l;
        early =
            λ i k n h o p l.
            took-late F pos wide c₀ s₀ i k n (λ z. omega arith) (λ z. absurd (omega arith)) (omega arith) (omega arith)
            p l;
        quiet = λ k q l. let r = F.quiet k.sound l q in (took-kept F pos wide c₀ s₀ k r.0, r.1);
        offers = has-offers F wide (T.memory c₀) s₀;
        full = has-full F wide (T.memory c₀) s₀;
        oldest = has-oldest F wide (T.memory c₀) s₀;
        sends = has-sends F wide (T.memory c₀) s₀;
        hears =
            λ i h l e old y.
            has-hears F wide (T.memory c₀) s₀ i h l e (λ z. let t = old z in omega arith) y;
        ignores =
            λ h y.
            let q = F.strange (has-waits F wide (T.memory c₀) s₀ h) y in
            (q.nothing, has-still F wide (T.memory c₀) s₀ h q.still);
        later = has-later F wide (T.memory c₀) s₀;
        within = λ h. h.within;
      }

  -- what the words of these laws mean
  pub took-is : {ds : List Message} {c : Controller} → tagged-laws.Took ds c → Accepted ds c
  unfolding tagged-laws
  took-is k = k

  pub has-is : {ds : List Message} {k f : ℕ} {s : Sender} → tagged-laws.Has ds k f s → Finished ds k f s
  unfolding tagged-laws
  has-is h = h

  pub copy_is : {d : Message} {x : Datagram} → tagged-laws.Copy d x → S.Copy d x
  unfolding tagged-laws
  copy_is p = p

  -- The laws hold also with the datagrams wrapped.
  pub tagged-wrapped : (X : Wrap Datagram) (head : Sender → ℕ → X.Head)
      → Crosses E X S.Copy S.Answer S.Strange → Laws (wrapped E X head) (wrapped_terms E X head T) W A c₀ s₀
  unfolding tagged-laws
  tagged-wrapped X head through = wrapped-laws E X head tagged-laws through
