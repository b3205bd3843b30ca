-- What an attempt and the world say of each other, and that each event keeps it: `offered-kept`, `heard-kept`,
-- `came-kept`. Assumes nothing.
use Prim.Native.Nat.{ℕ, zero, suc, ◌+◌}
use mathlib.Core.Path.{◌≡◌, refl, sym, ap, subst, ◌∙◌}
use mathlib.Core.Bool.{Bool, true, false, cond}
use mathlib.Core.Logic.{◌⊎◌, inl, inr}
use mathlib.Core.Option.{Option, none, some}
use mathlib.Core.List.{List, [], ◌∷◌, ◌++◌, append-nil}
use native.Mathlib.Omega.{arith}
use borrow.Author.Tests.{lt-ltb, eq-eqb, eqb-true, eqb-false}
use lib.Dec.{eqb}
use lib.ListN.{length, take, drop, get_or, get_elem?}
use lib.Seq.{take-nil, drop-nil}
use Rattle.header.specs.Header.{tag_of}
use Rattle.completer.specs.Controller.{Controller}
use Rattle.initiator.specs.declared.sender.Sender.{Sender}
use Rattle.initiator.specs.declared.sender.Moved.{Moved}
use Rattle.initiator.specs.declared.sender.Taken.{Taken}
use Rattle.initiator.specs.Sender.{offer_of, take_of}
use Rattle.once.specs.World.{offer, World, finished, room, came, heard, step}
use Rattle.once.specs.Tags.{asked, answered, Waits, Says}
use Rattle.exchange.specs.Outcomes.{Outcome, told}
use Rattle.exchange.specs.Ends.{Waiting, Loader, ends, offered_in, awaits, with_answer, taken_in, take_by, outcomes_in}
use Rattle.exchange.specs.Terms.{terms}
use Rattle.exchange.specs.Promise.{window}
use Rattle.exchange.specs.Sight.{seen, sight}
use Rattle.exchange.proofs.Waiting.{seen-length}
use Rattle.exchange.proofs.Sender.{agree}
use Rattle.exchange.proofs.Taking.{only-own}
use Rattle.layout.specs.declared.Stage.TheVariants.{Clear}
use Rattle.table.specs.declared.attempt.Next.{Next}
use Rattle.table.specs.declared.attempt.Next.TheVariants.{Send}
use Rattle.table.specs.declared.attempt.Attempt.{Attempt}
use Rattle.table.specs.Calls.{Taken as Took}
use Rattle.table.specs.Attempt.{told_of, next_by}
use Rattle.table.specs.Calls.{taken_of}
use Rattle.table.specs.Promises.{came_to}
use Rattle.table.proofs.Laws.Calls.{taken_refused, taken-accepted}
use Rattle.trained.specs.Attempts.{told_bys, Attempts}
use Rattle.trained.specs.Called.{lent_of, taken_with}
use Rattle.trained.proofs.Attempting.{told_same, came-on, attempts-later, attempts-more}
use Rattle.trained.proofs.Giving.{Given}

-- nothing waits, or one message, and that is not answered
abbrev pub OneWaits : List Waiting → Type 0
OneWaits l = (l ≡ []) ⊎ ((m : List ℕ) × (l ≡ asked m ∷ []))

-- The attempt and the world say the same: the sender's record, what comes next, and what was offered.
pub record Agreed (start : ℕ) (rows : List ℕ) (a : Attempt) (s : Loader) (os : List Outcome)
    (ds : List (List ℕ)) : Type 0 where
  pub sender : a.sender ≡ s.sender
  pub next : a.next ≡ came_to rows (Send Clear) (told_bys os)
  pub waits : OneWaits s.waiting
  pub loads : Attempts start rows (Send Clear) os ds

none-there : {A : Type 0} (l : List A) → length l ≡ 0 → l ≡ []
none-there [] h = refl
none-there (x ∷ l) h = absurd (omega arith)

-- what the two records say, at any moment of a night
abbrev pub Sure : Controller → Loader → World ends → Type 0
Sure c s w = Says ends terms sight window c s w

module _ (start : ℕ) (rows : List ℕ) where
  abbrev pub Kept : Attempt → World ends → Type 0
  Kept a w = Agreed start rows a w.sender w.outcomes w.offered

  pub came-kept : (w : World ends) (a : Attempt) (b : List ℕ) (i : ℕ) (x : Option (List ℕ)) → Kept a w
      → Kept a (came ends w b i x)
  came-kept w a b i none k = k
  came-kept w a b i (some x) k = k

module _ (start : ℕ) (rows : List ℕ) where
  -- a message is offered
  pub offered-kept : {c : Controller} {s₀ : Loader} (w : World ends) (a then : Attempt) (d : List ℕ) → Sure c s₀ w
      → Given start rows a d then → Kept start rows a w
      → Kept start rows then (step ends window w (offer d))
  offered-kept w a then d v g k =
      let s = w.sender in
      let r : Moved = offer_of s.sender d in
      let ok : r.refusal.number ≡ 0 = ap (λ (x : Sender). (offer_of x d).refusal.number) (sym k.sender) ∙ g.fits in
      let idle : s.sender.waiting ≡ 0 = ap (λ (x : Sender). x.waiting) (sym k.sender) ∙ g.idle in
      let nobody : s.waiting ≡ [] = none-there s.waiting (sym (agree v.order).many ∙ idle) in
      let all : length w.outcomes ≡ length w.offered =
      omega (arith, v.waits, seen-length s.waiting, ap length nobody) in
      let has : room ends window w ≡ true =
      lt-ltb (length w.offered) (finished ends w + window) (omega (arith, all)) in
      let now : offered_in r s d ≡ record { sender = r.sender; waiting = asked d ∷ [] } =
      ap (λ (b : Bool). cond {A = Loader} b (record { sender = r.sender; waiting = s.waiting ++ asked d ∷ [] }) s)
      (eq-eqb _ 0 ok)
      ∙ ap (λ (l : List Waiting). record { sender = r.sender; waiting = l ++ asked d ∷ [] }) nobody in
      let after : Loader = record { sender = r.sender; waiting = asked d ∷ [] } in
      let one : Agreed start rows then after w.outcomes (w.offered ++ d ∷ []) =
      record {
        sender = g.sender ∙ ap (λ (x : Sender). (offer_of x d).sender) k.sender;
        next = g.same ∙ k.next;
        waits = inr (d, refl);
        loads =
            attempts-more rows start w.offered (Send Clear) w.outcomes d g.stage k.loads all
            (sym k.next ∙ g.next)
            (record { tag = a.sender.next; small = g.small; means = g.means });
      } in
      let grown : Bool → List (List ℕ) = λ b. cond b (w.offered ++ d ∷ []) w.offered in
      subst (λ (x : Loader). Agreed start rows then x w.outcomes (grown (room ends window w))) (sym now)
      (subst (λ (b : Bool). Agreed start rows then after w.outcomes (grown b)) (sym has) one)

  -- an answer that the sender refuses changes nothing
  module _ (w : World ends) (a : Attempt) (answer : List ℕ) (k : Kept start rows a w) where
    abbrev tag : ℕ
    tag = tag_of (get_or answer 0 0)

    abbrev r : List ℕ → Taken
    r m = take_of w.sender.sender m answer

    -- the world, and the attempt, after it
    abbrev After : Attempt → Loader × List Outcome → Type 0
    After b x = Agreed start rows b x.0 (w.outcomes ++ x.1) w.offered

    refused-kept : (m : List ℕ) {x : Loader × List Outcome} → ((r m).refusal.number ≡ 0 → ⊥) → x ≡ (w.sender, [])
        → After (taken_of a m answer rows).attempt x
    refused-kept m n e =
        let same : (r m).refusal.number ≡ (take_of a.sender m answer).refusal.number =
        ap (λ (x : Sender). (take_of x m answer).refusal.number) (sym k.sender) in
        let stays : (taken_of a m answer rows).attempt ≡ a =
        ap (λ (t : Took). t.attempt) (taken_refused a m answer rows (λ z. n (same ∙ z))) in
        subst (After (taken_of a m answer rows).attempt) (sym e)
        (subst (λ (b : Attempt). After b (w.sender, [])) (sym stays)
        (subst (λ (os : List Outcome). Agreed start rows a w.sender os w.offered) (sym (append-nil w.outcomes))
        k))

    -- one that it accepts ends the message that waits
    accepted-kept : (m : List ℕ) {x : Loader × List Outcome} → (r m).refusal.number ≡ 0
        → x ≡ (record { sender = (r m).sender; waiting = [] }, told m answer ∷ [])
        → After (taken_of a m answer rows).attempt x
    accepted-kept m {x} z e =
        let t =
        taken-accepted a m answer rows (ap (λ (u : Sender). (take_of u m answer).refusal.number) k.sender ∙ z) in
        let came : Next = came_to rows (Send Clear) (told_bys w.outcomes) in
        subst (After (taken_of a m answer rows).attempt) (sym e)
        (record {
          sender = ap (λ (u : Took). u.attempt.sender) t ∙ ap (λ (u : Sender). (take_of u m answer).sender) k.sender;
          next =
              ap (λ (u : Took). u.attempt.next) t ∙ ap (λ (n : Next). next_by rows n (told_of m answer)) k.next
              ∙ ap (next_by rows came) (told_same m answer)
              ∙ sym (came-on rows w.outcomes (told m answer) (Send Clear));
          waits = inl refl;
          loads = attempts-later rows start w.offered (Send Clear) w.outcomes (told m answer ∷ []) k.loads;
        })

    -- an answer comes
    module _ (order : Waits ends terms sight window w.sender)
        (order' : Waits ends terms sight window (ends.take w.sender answer).0) where
      abbrev lent : List Waiting
      lent = w.sender.waiting

      -- to no message that waits
      to_none : awaits tag lent ≡ none
          → After (taken_of a (lent_of lent) answer rows).attempt (ends.take w.sender answer)
      to_none e =
          refused-kept (lent_of lent)
          (only-own order (lent_of lent) answer (λ d q i. absurd (none-some (sym e ∙ q)))).refused
          (ap (λ (m : Option (List ℕ)). take_by m w.sender answer) e)
        where
          none-some : {d : List ℕ} → none ≡ some d → ⊥
          none-some q = let z : ◌≡◌ {A = ℕ} 0 1 = cc in omega arith

      -- to the one that waits
      to_one : (m : List ℕ) → ends.take w.sender answer ≡ taken_in (r m) w.sender (answered m answer ∷ [])
          → After (taken_of a m answer rows).attempt (ends.take w.sender answer)
      to_one m e = go (eqb (r m).refusal.number 0) refl
        where
          left : List Waiting → Loader
          left l = record { sender = (r m).sender; waiting = l }

          ended : ℕ → Loader × List Outcome
          ended n = (left (drop n (answered m answer ∷ [])), outcomes_in (take n (answered m answer ∷ [])))

          by : (n : ℕ) → ends.take w.sender answer ≡ ended n
              → ends.take w.sender answer ≡ (record { sender = (r m).sender; waiting = [] }, told m answer ∷ [])
          by zero x =
              let e = ap (λ (u : Loader × List Outcome). get_elem? (seen u.0.waiting) 0) x in
              absurd (order'.first m (told m answer) e)
          by (suc n) x =
              x ∙ ap (λ (l : List Waiting). (left l, outcomes_in (take (suc n) (answered m answer ∷ [])))) (drop-nil n)
              ∙ ap (λ (l : List Waiting). (left [], told m answer ∷ outcomes_in l)) (take-nil n)

          go : (b : Bool) → eqb (r m).refusal.number 0 ≡ b
              → After (taken_of a m answer rows).attempt (ends.take w.sender answer)
          go true z =
              accepted-kept m (eqb-true _ 0 z)
              (by (r m).ended (e ∙ ap (λ (b : Bool). cond b (ended (r m).ended) (w.sender, [])) z))
          go false z =
              refused-kept m (eqb-false _ 0 z) (e ∙ ap (λ (b : Bool). cond b (ended (r m).ended) (w.sender, [])) z)

      taken-kept : After (taken_of a (lent_of lent) answer rows).attempt (ends.take w.sender answer)
      taken-kept = go k.waits
        where
          own : (m : List ℕ) → lent ≡ asked m ∷ [] → (b : Bool) → eqb (tag_of (get_or m 0 0)) tag ≡ b
              → After (taken_of a (lent_of lent) answer rows).attempt (ends.take w.sender answer)
          own m e true q =
              subst (λ (x : List ℕ). After (taken_of a x answer rows).attempt (ends.take w.sender answer))
              (sym (ap lent_of e))
              (to_one m
              (ap (λ (x : Option (List ℕ)). take_by x w.sender answer)
              (ap (awaits tag) e ∙ ap (λ (b : Bool). cond b (some m) none) q)
              ∙ ap (taken_in (r m) w.sender)
              (ap (with_answer tag answer) e ∙ ap (λ (b : Bool). cond b (answered m answer ∷ []) (asked m ∷ [])) q)))
          own m e false q = to_none (ap (awaits tag) e ∙ ap (λ (b : Bool). cond b (some m) none) q)

          go : OneWaits lent → After (taken_of a (lent_of lent) answer rows).attempt (ends.take w.sender answer)
          go (inl e) = to_none (ap (awaits tag) e)
          go (inr o) = own o.0 o.1 (eqb (tag_of (get_or o.0 0 0)) tag) refl

  -- a copy of what the controller gave comes to the sender, or nothing comes
  pub heard-kept : {c : Controller} {s₀ : Loader} (w : World ends) (a : Attempt) (x : Option (List ℕ)) → Sure c s₀ w
      → Sure c s₀ (heard ends w x) → Kept start rows a w
      → Kept start rows (taken_with rows a w.sender x) (heard ends w x)
  heard-kept w a none v v' k = k
  heard-kept w a (some answer) v v' k = taken-kept w a answer k v.order v'.order
