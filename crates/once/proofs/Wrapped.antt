-- Ends that meet the laws meet them with their datagrams wrapped: `wrapped-laws`. Promise.antt then gives the promise of the frames.
-- Assumes nothing.
use Prim.Native.Nat.{ℕ}
use mathlib.Core.Path.{◌≡◌, refl, sym, ◌∙◌, ap}
use mathlib.Core.Option.{Option, none, some}
use mathlib.Core.List.{List, []}
use native.Mathlib.Omega.{arith}
use Rattle.once.specs.World.{Ends}
use Rattle.once.specs.Promise.{Terms, Ages}
use Rattle.once.specs.Laws.{Answered, Refused, Laws}
use Rattle.once.specs.Wrapped.{Wrap, wrap_any, serve_any, take_any, wrapped, wrapped_terms, Crosses}

module _ (E : Ends) (X : Wrap E.Datagram) (head : E.Sender → ℕ → X.Head) where
  -- what a wrapped answer says is what the answer says
  answered-wrapped : {Is : E.Controller → Type 0} {Says : E.Datagram → Type 0} (c : E.Controller) (b : E.Lent × X.Head) (x : X.Frame) (y : E.Datagram) →
      X.unwrap x ≡ some y → ((a : E.Datagram) → Says a → X.unwrap (X.wrap b.1 a) ≡ some a) → Answered E Is Says (E.serve c b.0 y) →
      Answered (wrapped E X head) Is (λ z. (a : E.Datagram) × (X.unwrap z ≡ some a) × Says a) (serve_any E X c b (X.unwrap x))
  answered-wrapped c b x y e t q =
      rw e
      record {
        answer = X.wrap b.1 q.answer;
        given = ap (wrap_any E X b.1) q.given;
        says = (q.answer, t q.answer q.says, q.says);
        state = q.state;
      }

  -- what is refused is refused wrapped
  refused-wrapped : {Is : E.Controller → Type 0} (c : E.Controller) (b : E.Lent × X.Head) (x : X.Frame) (y : E.Datagram) → X.unwrap x ≡ some y →
      Refused E Is (E.serve c b.0 y) → Refused (wrapped E X head) Is (serve_any E X c b (X.unwrap x))
  refused-wrapped c b x y e q = rw e record { nothing = ap (wrap_any E X b.1) q.nothing; state = q.state }

  -- what is wrapped was there
  unwrapped : (h : X.Head) (y : Option E.Datagram) (x : X.Frame) → wrap_any E X h y ≡ some x → (z : E.Datagram) × (y ≡ some z) × (X.wrap h z ≡ x)
  unwrapped h none x e = let z : ◌≡◌ {A = ℕ} 0 1 = cc in absurd (omega arith)
  unwrapped h (some z) x e = (z, refl, cc)

  module _ {T : Terms E} {W : ℕ} {A : Ages} {c₀ : E.Controller} {s₀ : E.Sender} (L : Laws E T W A c₀ s₀)
      (through : Crosses E X L.Copy L.Answer L.Strange) where
    -- a quiet datagram changes nothing wrapped, and its answer answers no message
    quiet-wrapped : {ds : List E.Message} (c : E.Controller) (b : E.Lent × X.Head) (y : Option E.Datagram) → L.Took ds c →
        ((z : E.Datagram) → y ≡ some z → T.Quiet z) → T.Lendable b.0 →
        L.Took ds (serve_any E X c b y).0 × ((x : X.Frame) → (serve_any E X c b y).1 ≡ some x → (a : E.Datagram) → X.unwrap x ≡ some a → L.Strange a)
    quiet-wrapped c b none k q l = (k, λ x e a g. let z : ◌≡◌ {A = ℕ} 0 1 = cc e in absurd (omega arith))
    quiet-wrapped c b (some y) k q l =
        let r = L.quiet k (q y refl) l in
        (r.0, λ x e a g. let u = unwrapped b.1 _ x e in through.strangers b.1 (r.1 u.0 u.1) (ap X.unwrap u.2 ∙ g))

    -- what answers no message does nothing wrapped
    ignores-wrapped : {ds : List E.Message} {k f : ℕ} (s : E.Sender) (y : Option E.Datagram) → L.Has ds k f s →
        ((a : E.Datagram) → y ≡ some a → L.Strange a) → ((take_any E X s y).1 ≡ []) × L.Has ds k f (take_any E X s y).0
    ignores-wrapped s none h q = (refl, h)
    ignores-wrapped s (some a) h q = L.ignores h (q a refl)

    pub wrapped-laws : Laws (wrapped E X head) (wrapped_terms E X head T) W A c₀ s₀
    wrapped-laws =
        record {
          Numbered = L.Numbered;
          Copy = λ d x. (y : E.Datagram) × (X.unwrap x ≡ some y) × L.Copy d y;
          Answer = λ d o x. (a : E.Datagram) × (X.unwrap x ≡ some a) × L.Answer d o a;
          Strange = λ x. (a : E.Datagram) → X.unwrap x ≡ some a → L.Strange a;
          Took = L.Took;
          Has = L.Has;
          took-none = L.took-none;
          has-none = L.has-none;
          carried = L.carried;
          next = λ {ds} {c} {d} {x} {b} k n p l. answered-wrapped c b x p.0 p.1 (λ a q. through.answers b.1 q) (L.next k n p.2 l);
          again = λ {ds} {c} i {d} {x} {b} k e h p l. answered-wrapped c b x p.0 p.1 (λ a q. through.answers b.1 q) (L.again i k e h p.2 l);
          late = λ {ds} {c} i {d} {x} {b} k e h o p l. refused-wrapped c b x p.0 p.1 (L.late i k e h o p.2 l);
          early = λ {ds} {c} i {d} {x} {b} k n h o p l. refused-wrapped c b x p.0 p.1 (L.early i k n h o p.2 l);
          quiet = λ {ds} {c} {x} {b} k q l. quiet-wrapped c b (X.unwrap x) k q l;
          offers = L.offers;
          full = L.full;
          oldest =
              λ {ds} {k} {f} {s} h e.
              let q = L.oldest h e in
              (X.wrap (head s 0) q.0, ap (wrap_any E X (head s 0)) q.1, (q.0, through.messages (head s 0) q.2, q.2));
          sends =
              λ {ds} {k} {f} p {s} {x} h l e.
              let u = unwrapped (head s p) (E.send s p) x e in
              let q = L.sends p h l u.1 in
              (q.0, q.1, (u.0, ap X.unwrap (sym u.2) ∙ through.messages (head s p) q.2, q.2));
          hears =
              λ i h l e o y.
              let q = L.hears i h l e o y.2 in
              rw y.1 record { upto = q.upto; up = q.up; oldest = q.oldest; outcomes = q.outcomes; state = q.state };
          ignores = λ {ds} {k} {f} {s} {a} h q. ignores-wrapped s (X.unwrap a) h q;
          later = L.later;
          within = L.within;
        }
