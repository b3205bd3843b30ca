-- [13]'s promises of an attempt alone. Assumes nothing.
use Prim.Native.Nat.{ℕ, ◌<◌}
use mathlib.Core.Path.{◌≡◌, refl, sym, ap, subst, ◌∙◌}
use mathlib.Core.Bool.{Bool, true, false, cond}
use mathlib.Core.List.{List, [], ◌∷◌, ◌++◌}
use mathlib.Core.Logic.{◌⊎◌, inl, inr}
use native.Mathlib.Omega.{arith}
use borrow.Author.Tests.{eq-eqb, eqb-true, eqb-false}
use lib.Dec.{eqb}
use lib.ListN.{length, take, drop, get_or}
use Rattle.word.specs.Words.{Words}
use Rattle.word.proofs.Parts.{put-behind}
use Rattle.header.specs.declared.refusal.Refusal.{Refusal}
use Rattle.header.specs.Limits.{tag_count}
use Rattle.header.specs.Header.{tag_of}
use Rattle.header.specs.Refusal.{refusal}
use Rattle.message.specs.Request.{Means, written}
use Rattle.message.specs.Walk.{read}
use Rattle.message.proofs.Laws.Going.{read_first}
use Rattle.initiator.specs.declared.sender.Sender.{Sender}
use Rattle.initiator.specs.declared.sender.Moved.{Moved}
use Rattle.initiator.specs.declared.sender.Taken.{Taken as Took}
use Rattle.initiator.specs.Asking.{asks_as}
use Rattle.initiator.specs.Places.{sender_ok, new_tag, with_one}
use Rattle.initiator.specs.Sender.{idle, offer_of}
use Rattle.initiator.proofs.Laws.Asked.{asks-tag}
use Rattle.initiator.proofs.Laws.Checked.{offer-fine, take-stopped}
use Rattle.initiator.proofs.Laws.Places.{ok-next, new_is, one-waiting}
use Rattle.layout.specs.declared.Stage.TheVariants.{Clear, Rows, Back, Mark}
use Rattle.layout.specs.Layout.{request_at}
use Rattle.layout.proofs.Laws.Layout.{request-tag, request-plain}
use Rattle.layout.proofs.Laws.Writing.{written-is-read}
use Rattle.table.specs.declared.attempt.Next.{Next}
use Rattle.table.specs.declared.attempt.Next.TheVariants.{Send, Done}
use Rattle.table.specs.declared.attempt.Next.TheVariants as next
use Rattle.table.specs.declared.attempt.Attempt.{Attempt}
use Rattle.table.specs.Calls.{Made}
use Rattle.table.specs.Calls.{Taken}
use Rattle.table.specs.Attempt.{Told, told_of, next_of, next_by}
use Rattle.table.specs.Calls.{message_fault, made_of, made_to, taken_of, offered_of, answered_of, given_with, refused_with, next_bytes, taken_by}
use Rattle.initiator.specs.Sender.{take_of}
use Rattle.initiator.proofs.Laws.Promises.{accepted-plain}
use Rattle.table.specs.Promises.{came_to, Well, AsSent, EveryRow, FirstNot, CameExactly, BegunWaiting}
use Rattle.table.specs.Promises.{Came, begins, cleared, wrote, compared, marked}
use Rattle.table.specs.Promises.{not-cleared, not_written, not-as-sent, not-marked}
use Rattle.table.specs.Promises.{Ready, MessageReady, MessageStays, RefusedStays, AcceptedGoesOn, made_from, taken_from, ResultsTell}
use Rattle.table.specs.Promises.{Call, gives, takes, attempt_after, heard_of, heard_in, AnyCalls}
use Rattle.table.proofs.Laws.Came.{after-clear, not-clear, after-rows, not-rows, rows-or, after-back}
use Rattle.table.proofs.Laws.Came.{not_back, back-or, after-mark, not-mark, well-or}
use Rattle.table.proofs.Laws.Calls.{begins-stopped, Fine, fine, fault-sender, made-refusal, made-refused}
use Rattle.table.proofs.Laws.Calls.{made-next, made-to-refused, made-fine, made-to-fine, made_bytes}
use Rattle.table.proofs.Laws.Calls.{taken_refused, taken-accepted, taken-refusal}

-- an attempt that is done or has ended stays so
done-stays : (rows : List ℕ) (more : List Told) → came_to rows Done more ≡ Done
done-stays rows [] = refl
done-stays rows (told ∷ more) = done-stays rows more

ended-stays : (rows : List ℕ) (n : ℕ) (more : List Told) → came_to rows (next.Ended n) more ≡ next.Ended n
ended-stays rows n [] = refl
ended-stays rows n (told ∷ more) = ended-stays rows n more

module _ (rows : List ℕ) where
  -- what an outcome makes of it, and what then comes
  on : {x y : Next} (more : List Told) → x ≡ y → came_to rows x more ≡ came_to rows y more
  on more e = ap (λ (x : Next). came_to rows x more) e

  ends : {x : Next} (n : ℕ) (more : List Told) → x ≡ next.Ended n → came_to rows x more ≡ next.Ended n
  ends n more e = on more e ∙ ended-stays rows n more

  came-by : {outcomes : List Told} {x y : Next} → y ≡ x → Came rows outcomes x → Came rows outcomes y
  came-by {outcomes} e k = subst (Came rows outcomes) (sym e) k

  -- what came of these outcomes, stage by stage
  from-mark : (a b c : Told) → Well a 0 → EveryRow (Well b) → EveryRow (AsSent rows c) → (more : List Told)
      → Came rows (a ∷ b ∷ c ∷ more) (came_to rows (Send Mark) more)
  from-mark a b c p q r [] = compared p q r
  from-mark a b c p q r (d ∷ more) = go (well-or d 0)
    where
      go : Well d 0 ⊎ (Well d 0 → ⊥) → Came rows (a ∷ b ∷ c ∷ d ∷ more) (came_to rows (next_of rows Mark d) more)
      go (inl s) = came-by (on more (after-mark rows d s) ∙ done-stays rows more) (marked p q r s)
      go (inr s) = came-by (ends 25 more (not-mark rows d s)) (not-marked p q r s)

  from_back : (a b : Told) → Well a 0 → EveryRow (Well b) → (more : List Told)
      → Came rows (a ∷ b ∷ more) (came_to rows (Send Back) more)
  from_back a b p q [] = wrote p q
  from_back a b p q (c ∷ more) = go (back-or rows c)
    where
      go : EveryRow (AsSent rows c) ⊎ ((number : ℕ) × FirstNot (AsSent rows c) number)
          → Came rows (a ∷ b ∷ c ∷ more) (came_to rows (next_of rows Back c) more)
      go (inl r) = came-by (on more (after-back rows c r)) (from-mark a b c p q r more)
      go (inr f) = came-by (ends f.0 more (not_back rows c f.0 f.1)) (not-as-sent p q f.1)

  from-rows : (a : Told) → Well a 0 → (more : List Told) → Came rows (a ∷ more) (came_to rows (Send Rows) more)
  from-rows a p [] = cleared p
  from-rows a p (b ∷ more) = go (rows-or rows b)
    where
      go : EveryRow (Well b) ⊎ ((number : ℕ) × FirstNot (Well b) number)
          → Came rows (a ∷ b ∷ more) (came_to rows (next_of rows Rows b) more)
      go (inl q) = came-by (on more (after-rows rows b q)) (from_back a b p q more)
      go (inr f) = came-by (ends f.0 more (not-rows rows b f.0 f.1)) (not_written p f.1)

  from-clear : (outcomes : List Told) → Came rows outcomes (came_to rows (Send Clear) outcomes)
  from-clear [] = begins
  from-clear (a ∷ more) = go (well-or a 0)
    where
      go : Well a 0 ⊎ (Well a 0 → ⊥) → Came rows (a ∷ more) (came_to rows (next_of rows Clear a) more)
      go (inl p) = came-by (on more (after-clear rows a p)) (from-rows a p more)
      go (inr p) = came-by (ends 25 more (not-clear rows a p)) (not-cleared p)

  -- and nothing else
  to-rows : (a : Told) (more : List Told) → Well a 0
      → came_to rows (Send Clear) (a ∷ more) ≡ came_to rows (Send Rows) more
  to-rows a more p = on more (after-clear rows a p)

  to_back : (a b : Told) (more : List Told) → Well a 0 → EveryRow (Well b)
      → came_to rows (Send Clear) (a ∷ b ∷ more) ≡ came_to rows (Send Back) more
  to_back a b more p q = to-rows a (b ∷ more) p ∙ on more (after-rows rows b q)

  to-mark : (a b c : Told) (more : List Told) → Well a 0 → EveryRow (Well b) → EveryRow (AsSent rows c)
      → came_to rows (Send Clear) (a ∷ b ∷ c ∷ more) ≡ came_to rows (Send Mark) more
  to-mark a b c more p q r = to_back a b (c ∷ more) p q ∙ on more (after-back rows c r)

  only : (outcomes : List Told) (x : Next) → Came rows outcomes x → came_to rows (Send Clear) outcomes ≡ x
  only _ _ begins = refl
  only _ _ (cleared {a} p) = to-rows a [] p
  only _ _ (wrote {a} {b} p q) = to_back a b [] p q
  only _ _ (compared {a} {b} {c} p q r) = to-mark a b c [] p q r
  only _ _ (marked {a} {b} {c} {d} {more} p q r s) =
      to-mark a b c (d ∷ more) p q r ∙ on more (after-mark rows d s) ∙ done-stays rows more
  only _ _ (not-cleared {a} {more} p) = ends 25 more (not-clear rows a p)
  only _ _ (not_written {a} {b} {more} {number} p f) =
      to-rows a (b ∷ more) p ∙ ends number more (not-rows rows b number f)
  only _ _ (not-as-sent {a} {b} {c} {more} {number} p q f) =
      to_back a b (c ∷ more) p q ∙ ends number more (not_back rows c number f)
  only _ _ (not-marked {a} {b} {c} {d} {more} p q r s) =
      to-mark a b c (d ∷ more) p q r ∙ ends 25 more (not-mark rows d s)

pub came-exactly : CameExactly
came-exactly rows sender outcomes = (from-clear rows outcomes, only rows outcomes)

-- begun where a message waits: 37
stopped-is : sender_ok (idle tag_count) ≡ false
stopped-is = go (sender_ok (idle tag_count)) refl
  where
    go : (t : Bool) → sender_ok (idle tag_count) ≡ t → t ≡ false
    go true e = let n = ok-next (idle tag_count) e in absurd (omega arith)
    go false e = refl

pub begun-waiting : BegunWaiting
begun-waiting s h = rw (begins-stopped s h) (
  λ start room rows out e. made-refusal _ start room rows out ∙ fault-sender _ start room (length out) e stopped-is,
  λ message answer rows. taken-refusal _ message answer rows
      ∙ ap (λ (x : Took). x.refusal) (take-stopped (idle tag_count) message answer stopped-is),
)

-- a message that is made may be offered, and waits then
module _ (a : Attempt) (start room long : ℕ) (rows : List ℕ) (f : Fine a start room long) (w : Words rows) where
  abbrev m : List ℕ
  m = written (request_at f.stage a.sender.next start rows)

  small : a.sender.next < tag_count
  small = ok-next a.sender f.ok

  means : read m ≡ Means (request_at f.stage a.sender.next start rows)
  means = (written-is-read f.stage a.sender.next start room rows f.set-up small w).0

  asks : asks_as (eqb (new_tag a.sender)) (read m) ≡ true
  asks =
      let q = request_at f.stage a.sender.next start rows in
      let first : q.byte0 ≡ get_or m 0 0 = sym (read_first m q means).1 in
      let new : new_tag a.sender ≡ a.sender.next = new_is a.sender ∙ omega (arith, f.idle, small) in
      sym
      (asks-tag (eqb (new_tag a.sender)) m q means q.byte0 first
      (request-plain f.stage a.sender.next start rows small))
      ∙ eq-eqb (new_tag a.sender) (tag_of q.byte0)
      (new ∙ sym (request-tag f.stage a.sender.next start rows small))

  pub message-offered : offer_of a.sender m ≡ record { refusal = refusal 0; sender = with_one a.sender }
  message-offered = offer-fine a.sender m small (omega (arith, f.idle)) asks

  ready : {made : Made} {out : List ℕ} → take made.length out ≡ m
      → made.attempt.sender ≡ (offer_of a.sender m).sender
      → made.attempt.next ≡ a.next → Ready a start rows f.stage made out
  ready {made} {out} t s n =
      let with-one : (offer_of a.sender m).sender ≡ with_one a.sender =
      ap (λ (x : Moved). x.sender) message-offered in
      record {
        means = ap read t ∙ means;
        offered =
            ap (λ (x : List ℕ). (offer_of a.sender x).refusal) t ∙ ap (λ (x : Moved). x.refusal) message-offered;
        sender = s ∙ ap (λ (x : List ℕ). (offer_of a.sender x).sender) (sym t);
        waits = ap (λ (x : Sender). x.waiting) (s ∙ with-one) ∙ one-waiting a.sender ∙ omega (arith, f.idle);
        next = n ∙ f.next;
      }

pub message-ready : MessageReady
message-ready a start room rows out w e =
    let z : message_fault a start room (length out) ≡ 0 = sym (made-refusal a start room rows out) ∙ e in
    let f = fine a start room (length out) z in
    let g = made-fine a start room rows out f.stage f.next z in (
      f.stage,
      f.next,
      ready a start room (length out) rows f w (made_bytes a start room rows out f.stage f.next z)
          (ap (λ (x : Made). x.attempt.sender) g) (ap (λ (x : Made). x.attempt.next) g),
    )

-- what lies behind it stays; refused, all does
pub message-stays : MessageStays
message-stays a start room rows out =
    (go (eqb fault 0) refl, λ h. stays (λ z. h (made-refusal a start room rows out ∙ z)))
  where
    fault : ℕ
    fault = message_fault a start room (length out)

    stays : (fault ≡ 0 → ⊥) → (made_to a start room rows out ≡ out) × ((made_of a start room rows out).attempt ≡ a)
    stays h =
        (made-to-refused a start room rows out h, ap (λ (x : Made). x.attempt) (made-refused a start room rows out h))

    go : (t : Bool) → eqb fault 0 ≡ t
        → drop (made_of a start room rows out).length (made_to a start room rows out)
        ≡ drop (made_of a start room rows out).length out
    go true e =
        let z = eqb-true fault 0 e in
        let f = fine a start room (length out) z in
        let m = written (request_at f.stage a.sender.next start rows) in
        let long : (made_of a start room rows out).length ≡ length m =
        ap (λ (x : Made). x.length) (made-fine a start room rows out f.stage f.next z) in
        ap (drop (made_of a start room rows out).length) (made-to-fine a start room rows out f.stage f.next z)
        ∙ put-behind out 0 m (omega arith) (made_of a start room rows out).length (omega (arith, long))
    go false e =
        ap (drop (made_of a start room rows out).length) (made-to-refused a start room rows out (eqb-false fault 0 e))

-- a result tells all that its call comes to
pub message-tells : (a : Attempt) (start room : ℕ) (rows out : List ℕ)
    → made_from a (offered_of (made_of a start room rows out)) ≡ made_of a start room rows out
unfolding made_of
message-tells a start room rows out = go (eqb fault 0) refl
  where
    fault : ℕ
    fault = message_fault a start room (length out)

    m : List ℕ
    m = next_bytes a.next a.sender.next start rows

    go : (b : Bool) → eqb fault 0 ≡ b → made_from a (offered_of (cond b (given_with m a) (refused_with fault a))) ≡ cond b (given_with m a) (refused_with fault a)
    go true e = refl
    go false e = rw e refl

pub take-tells : (a : Attempt) (message answer rows : List ℕ)
    → taken_from a (answered_of (taken_of a message answer rows)) ≡ taken_of a message answer rows
unfolding taken_of
take-tells a message answer rows = go (eqb took.refusal.number 0) refl
  where
    took : Took
    took = take_of a.sender message answer

    next : Next
    next = next_by rows a.next (told_of message answer)

    go : (b : Bool) → eqb took.refusal.number 0 ≡ b → taken_from a (answered_of (taken_by took a next)) ≡ taken_by took a next
    go true e = rw (e, accepted-plain a.sender message answer (eqb-true took.refusal.number 0 e)) refl
    go false e = rw e (rw e refl)

pub results-tell : ResultsTell
results-tell = record { message = message-tells; take = take-tells }

-- a refused answer ends nothing; by an accepted one the attempt goes on
pub refused-stays : RefusedStays
refused-stays a message answer rows h =
    ap (λ (x : Taken). x.attempt)
    (taken_refused a message answer rows
    (λ z. h (ap (λ (r : Refusal). r.number) (taken-refusal a message answer rows) ∙ z)))

pub accepted-goes-on : AcceptedGoesOn
accepted-goes-on a message answer rows e =
    ap (λ (x : Taken). x.attempt.next)
    (taken-accepted a message answer rows
    (ap (λ (r : Refusal). r.number) (sym (taken-refusal a message answer rows)) ∙ e))

-- any calls at all: by each of them the attempt comes to what it told
module _ (rows : List ℕ) where
  came-on : (x : Next) (told more : List Told) → came_to rows x (told ++ more) ≡ came_to rows (came_to rows x told) more
  came-on x [] more = refl
  came-on x (t ∷ told) more = came-on (next_by rows x t) told more

  one-call : (start room : ℕ) (a : Attempt) (call : Call)
      → (attempt_after start room rows a call).next ≡ came_to rows a.next (heard_of rows a call)
  one-call start room a (gives out) = made-next a start room rows out
  one-call start room a (takes message answer) = go (eqb (taken_of a message answer rows).refusal.number 0) refl
    where
      go : (t : Bool) → eqb (taken_of a message answer rows).refusal.number 0 ≡ t
          → (taken_of a message answer rows).attempt.next
          ≡ came_to rows a.next (cond t (told_of message answer ∷ []) [])
      go true e = accepted-goes-on a message answer rows (eqb-true _ 0 e)
      go false e = ap (λ (x : Attempt). x.next) (refused-stays a message answer rows (eqb-false _ 0 e))

pub any-calls : AnyCalls
any-calls start room rows a [] = refl
any-calls start room rows a (call ∷ more) =
    any-calls start room rows (attempt_after start room rows a call) more
    ∙ on rows (heard_in start room rows (attempt_after start room rows a call) more) (one-call rows start room a call)
    ∙ sym (came-on rows a.next (heard_of rows a call) _)
