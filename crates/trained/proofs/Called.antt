-- The theorem of specs/Called.antt; and a life that makes the table's calls offers its attempt's messages:
-- `calls-load`. Assumes nothing.
use Prim.Native.Nat.{ℕ, suc}
use mathlib.Core.Path.{◌≡◌, refl, sym, ap, subst, ◌∙◌}
use mathlib.Core.Logic.{inl}
use mathlib.Core.List.{List, [], ◌∷◌, ◌++◌, append-nil, append_assoc}
use native.Mathlib.Omega.{arith}
use borrow.Author.Tests.{eq-eqb}
use lib.Dec.{eqb}
use Rattle.word.specs.Words.{Words}
use Rattle.message.proofs.Laws.Going.{read_first}
use Rattle.completer.specs.Controller.{Controller}
use Rattle.initiator.specs.Places.{new_tag}
use Rattle.initiator.proofs.Laws.Asked.{asks-tag}
use Rattle.initiator.proofs.Laws.Places.{new_is}
use Rattle.once.specs.Runs.{run}
use Rattle.once.specs.World.{Event, offer, send, arrive, back, other, World, sent, given, heard, step}
use Rattle.once.specs.World.{start as begin}
use Rattle.once.specs.Promise.{Allowed}
use Rattle.once.specs.Lives.{Others, others, Opening, unasked, asking, Life, unheard, begun, Lives, happened, next}
use Rattle.once.proofs.Runs.{run-append, always-append}
use Rattle.once.proofs.Lives.{happened-more, all_sound}
use Rattle.exchange.specs.Ends.{Loader, ends}
use Rattle.exchange.specs.Terms.{terms, Sound}
use Rattle.exchange.specs.Promise.{Begins, window, ages, Night, morning}
use Rattle.exchange.proofs.Begins.{begins-idle as none-waits}
use Rattle.exchange.proofs.Facts.{records-say}
use Rattle.lives.specs.Lives.{restarts, sender_by, world, Lived, AllLived}
use Rattle.lives.proofs.Lives.{lives-start, renews, laws}
use Rattle.layout.specs.declared.Stage.TheVariants.{Clear}
use Rattle.layout.specs.Layout.{request_at}
use Rattle.layout.proofs.Laws.Layout.{request-tag, request-plain}
use Rattle.table.specs.declared.attempt.Next.TheVariants.{Send}
use Rattle.table.specs.declared.attempt.Attempt.{Attempt}
use Rattle.table.specs.Calls.{beginning}
use Rattle.table.proofs.Laws.Calls.{begins-idle}
use Rattle.trained.specs.Attempts.{Attempts}
use Rattle.trained.specs.Called.{taken_with, Calls, held_by, GivenFits}
use Rattle.trained.specs.Loading.{Loads, AllLoad}
use Rattle.trained.proofs.Giving.{given_is}
use Rattle.trained.proofs.Keeping.{Sure, Kept, offered-kept, heard-kept, came-kept}

-- it may be offered
pub given-fits : GivenFits
given-fits start room rows a then s message w e g =
    let h = given_is start room rows a then message w g in
    let r = request_at h.stage a.sender.next start rows in
    let tag : ℕ = a.sender.next in
    let new : new_tag s.sender ≡ tag =
    ap new_tag (sym e) ∙ new_is a.sender ∙ omega (arith, h.idle, h.small) in
    let first = (read_first message r h.means).1 in
    record {
      bytes = h.bytes;
      asked =
          sym (asks-tag (eqb (new_tag s.sender)) message r h.means r.byte0 (sym first)
          (request-plain h.stage tag start rows h.small))
          ∙ eq-eqb _ _ (new ∙ sym (request-tag h.stage tag start rows h.small));
    }

module _ (c : Controller) (s₀ : Loader) where
  -- what the two records say, at each moment on the way
  abbrev AllSure : World ends → List (Event ends) → Type 0
  AllSure w [] = Sure c s₀ w
  AllSure w (e ∷ es) = Sure c s₀ w × AllSure (step ends window w e) es

  first-sure : (w : World ends) (es : List (Event ends)) → AllSure w es → Sure c s₀ w
  first-sure w [] v = v
  first-sure w (e ∷ es) v = v.0

  all-sure : Begins c s₀ → (es pre : List (Event ends)) → Night c s₀ (pre ++ es) → AllSure (morning c s₀ pre) es
  all-sure b [] pre n = records-say c s₀ b pre (subst (Night c s₀) (append-nil pre) n)
  all-sure b (e ∷ es) pre n = (
    records-say c s₀ b pre
        (always-append (step ends window) (Allowed ends terms window ages) (begin ends c s₀) pre (e ∷ es) n).0,
    subst (λ (w : World ends). AllSure w es) (run-append (step ends window) (begin ends c s₀) pre (e ∷ []))
        (all-sure b es (pre ++ e ∷ []) (subst (Night c s₀) (sym (append_assoc pre (e ∷ []) es)) n)),
  )

  module _ (start room : ℕ) (rows : List ℕ) (words : Words rows) where
    all-kept : (es : List (Event ends)) (w : World ends) (a : Attempt) → AllSure w es
        → (g : Calls start room rows a w es) → Kept start rows a w
        → Kept start rows (held_by start room rows a w es g) (run (step ends window) w es)
    all-kept [] w a v g k = k
    all-kept (offer d ∷ es) w a v g k =
        all-kept es (step ends window w (offer d)) g.0 v.1 g.2
        (offered-kept start rows w a g.0 d v.0 (given_is start room rows a g.0 d words g.1) k)
    all-kept (send p ∷ es) w a v g k =
        all-kept es (step ends window w (send p)) a v.1 g
        (record { sender = k.sender; next = k.next; waits = k.waits; loads = k.loads })
    all-kept (arrive j b ∷ es) w a v g k =
        all-kept es (step ends window w (arrive j b)) a v.1 g
        (came-kept start rows w a b (sent ends w j).0 (sent ends w j).1 k)
    all-kept (back n ∷ es) w a v g k =
        let x = (given ends w n).1 in
        all-kept es (step ends window w (back n)) (taken_with rows a w.sender x) v.1 g
        (heard-kept start rows w a x v.0 (first-sure (heard ends w x) es v.1) k)
    all-kept (other x b ∷ es) w a v g k =
        all-kept es (step ends window w (other x b)) a v.1 g
        (record { sender = k.sender; next = k.next; waits = k.waits; loads = k.loads })

-- what comes before the loader has heard changes nothing of it
others-kept : (start : ℕ) (rows : List ℕ) (xs : Others ends) (w : World ends) (a : Attempt) → Kept start rows a w
    → Kept start rows a (run (step ends window) w (others xs))
others-kept start rows [] w a k = k
others-kept start rows (x ∷ xs) w a k = others-kept start rows xs (step ends window w (other x.0 x.1)) a k

begins-kept : (start : ℕ) (rows : List ℕ) (c : Controller) (o : Opening ends) → (sender_by o).waiting ≡ []
    → (sender_by o).sender.waiting ≡ 0 → Kept start rows (beginning (sender_by o).sender) (world c o [])
begins-kept start rows c unasked e z = record { sender = refl; next = refl; waits = inl e; loads = tt }
begins-kept start rows c (asking xs b ys s) e z =
    let w : World ends = begin ends c s in
    let a = beginning s.sender in
    let ask : Event ends = other restarts.ask b in
    let v : World ends = run (step ends window) w (others xs) in
    let first : Kept start rows a v =
    others-kept start rows xs w a
    (record {
      sender = ap (λ (x : Attempt). x.sender) (begins-idle s.sender z);
      next = refl;
      waits = inl e;
      loads = tt;
    }) in
    let then : Kept start rows a (run (step ends window) (step ends window v ask) (others ys)) =
    others-kept start rows ys (step ends window v ask) a first in
    subst (Kept start rows a)
    (sym (run-append (step ends window) w (others xs) (ask ∷ others ys))
    ∙ ap (run (step ends window) w) (sym (append-nil (others xs ++ ask ∷ others ys)))) then

-- all that a life offers is its attempt's; and so in lives, one after another
abbrev pub Attempted : ℕ → List ℕ → Controller → Life ends → Type 0
Attempted start rows c (unheard xs) = Unit {0}
Attempted start rows c (begun o es) = Attempts start rows (Send Clear) (world c o es).outcomes (world c o es).offered

abbrev pub AllAttempted : ℕ → (ℕ → List ℕ) → ℕ → Controller → Lives ends → Type 0
AllAttempted start rows n c [] = Unit {0}
AllAttempted start rows n c (l ∷ ls) =
    Attempted start (rows n) c l.0 × AllAttempted start rows (suc n) (next window restarts c l) ls

-- a life that makes the table's calls: its attempt and the world say the same
pub life-kept : (start room : ℕ) (rows : List ℕ) (c : Controller) (o : Opening ends) (es : List (Event ends)) → Sound c
    → Words rows → Lived c (begun o es) → (g : Loads start room rows c (begun o es))
    → Kept start rows (held_by start room rows (beginning (sender_by o).sender) (world c o []) es g) (world c o es)
life-kept start room rows c o es h w l g =
    let b = lives-start c h [] o es tt l in
    let more = happened-more window restarts o [] es in
    let n = subst (Night c (sender_by o)) more l.1 in
    let a = beginning (sender_by o).sender in
    let first = begins-kept start rows c o b.nothing (none-waits c (sender_by o) b) in
    let r =
    all-kept c (sender_by o) start room rows w es (world c o []) a
    (all-sure c (sender_by o) b es (happened window restarts o []) n) g first in
    let whole : run (step ends window) (world c o []) es ≡ world c o es =
    sym (run-append (step ends window) (begin ends c (sender_by o)) (happened window restarts o []) es)
    ∙ ap (run (step ends window) (begin ends c (sender_by o))) (sym more) in
    subst (Kept start rows (held_by start room rows a (world c o []) es g)) whole r

-- and it offers its attempt's messages
pub calls-load : (start room : ℕ) (rows : List ℕ) (c : Controller) (l : Life ends) → Sound c → Words rows → Lived c l
    → Loads start room rows c l → Attempted start rows c l
calls-load start room rows c (unheard xs) h w l g = tt
calls-load start room rows c (begun o es) h w l g = (life-kept start room rows c o es h w l g).loads

pub all-load : (start : ℕ) (room : ℕ → ℕ) (rows : ℕ → List ℕ) → ((n : ℕ) → Words (rows n)) → (ls : Lives ends) (n : ℕ)
    (c : Controller) → Sound c → AllLived c ls → AllLoad start room rows n c ls → AllAttempted start rows n c ls
all-load start room rows w [] n c h a g = tt
all-load start room rows w (l ∷ ls) n c h a g = (
  calls-load start (room n) (rows n) c l.0 h (w n) a.0.0 g.0,
  all-load start room rows w ls (suc n) (next window restarts c l) (all_sound renews laws c (l ∷ []) h (a.0, tt))
      a.1 g.1,
)

-- what was called up to a moment of a life
pub calls-first : (start room : ℕ) (rows : List ℕ) (es more : List (Event ends)) (a : Attempt) (w : World ends)
    → Calls start room rows a w (es ++ more) → Calls start room rows a w es
calls-first start room rows [] more a w g = tt
calls-first start room rows (offer d ∷ es) more a w g =
    (g.0, g.1, calls-first start room rows es more g.0 (step ends window w (offer d)) g.2)
calls-first start room rows (send p ∷ es) more a w g =
    calls-first start room rows es more a (step ends window w (send p)) g
calls-first start room rows (arrive j b ∷ es) more a w g =
    calls-first start room rows es more a (step ends window w (arrive j b)) g
calls-first start room rows (back n ∷ es) more a w g =
    calls-first start room rows es more (taken_with rows a w.sender (given ends w n).1)
    (step ends window w (back n)) g
calls-first start room rows (other x b ∷ es) more a w g =
    calls-first start room rows es more a (step ends window w (other x b)) g
