-- The premises of lives, decided by computation, and the lives played by `quick`: `lives-so`. Cited by Example.antt and
-- Sharp.antt. Assumes nothing.
use Prim.Native.Nat.{ℕ, ◌*◌, ◌≤◌}
use mathlib.Core.Path.{◌≡◌, refl, sym, ap, subst, ◌∙◌}
use mathlib.Core.Bool.{Bool, true, false, cond, not, ◌&&◌, false≢true}
use mathlib.Core.Option.{Option, none, some, some-injective}
use mathlib.Core.List.{List, [], ◌∷◌}
use native.Mathlib.Omega.{arith}
use borrow.Author.Tests.{eqb-true}
use lib.Dec.{eqb}
use lib.ListN.{length}
use Rattle.word.specs.Words.{bytes_of}
use Rattle.header.specs.Limits.{limit, limit_bytes}
use Rattle.answer.specs.Discovery.{discovery_answer}
use Rattle.tags.specs.Record.{places, is_fresh, mark_of}
use Rattle.completer.specs.Controller.{Controller}
use Rattle.completer.specs.Verdict.{as_kept}
use Rattle.completer.proofs.Laws.Called.{kept-equal}
use Rattle.initiator.specs.declared.sender.Sender.{Sender}
use Rattle.initiator.specs.declared.sender.Moved.{Moved}
use Rattle.initiator.specs.Sender.{idle, started_at}
use Rattle.once.specs.World.{World, Event, other, start}
use Rattle.once.specs.Promise.{Allowed, AllowedRun}
use Rattle.once.specs.Lives.{Others, Opening, unasked, asking, Life, unheard, begun, Ending, restart, reset, Lives}
use Rattle.once.specs.Lives.{others, AllQuiet, happened, end_of, next}
use Rattle.once.specs.Lives as lives
use Rattle.once.proofs.Checked.{both_true}
use Rattle.once.proofs.Lives.{asked-quiet, all_sound}
use Rattle.exchange.specs.Ends.{Waiting, Loader, ends}
use Rattle.exchange.specs.Terms.{terms, Sound}
use Rattle.exchange.specs.Promise.{window, ages}
use Rattle.exchange.proofs.Checked.{Lends, allowed?, allowed-so, played?, played-so}
use Rattle.lives.specs.Lives.{restarts, left, sender_by, Lived, AllLived}
use Rattle.eleven.specs.Eleven.{at, Seen, seen_of, seen_in}
use Rattle.lives.proofs.Lives.{mark-starts, given_is, learns-it, all_same, renews, laws}

-- what is looked at in the end
abbrev look : World ends → Controller × Seen
look w = (w.controller, record { taken = w.taken; outcomes = w.outcomes; memory = w.controller.memory })

abbrev plays? : World ends → List (Event ends) → Option (Controller × Seen)
plays? w es = played? (Allowed ends terms window ages) (allowed? ages) (allowed-so ages) look w es

-- what is lent in a life has an allowed length, and so have the buffers of a controller that comes up; and in all lives
abbrev pub LentIn : Life ends → Type 0
LentIn (unheard xs) = Lends (others xs)
LentIn (begun o es) = Lends (happened window restarts o es)

abbrev LongAt : Ending ends → Type 0
LongAt restart = Unit {0}
LongAt (reset c) = (places * limit ≤ length c.stored) × (places * limit_bytes ≤ length c.kept)

abbrev pub AllLent : Lives ends → Life ends → Type 0
AllLent [] l = LentIn l
AllLent (k ∷ ls) l = LentIn k.0 × LongAt k.1 × AllLent ls l

first_of : {u v : Controller × Seen} → u ≡ v → u.0 ≡ v.0
first_of e = ap (λ (u : Controller × Seen). u.0) e

second-of : {u v : Controller × Seen} → u ≡ v → u.1 ≡ v.1
second-of e = ap (λ (u : Controller × Seen). u.1) e

no-some : {X Y : Type 0} {x : X} → none ≡ some x → Y
no-some e = let z : ◌≡◌ {A = ℕ} 0 1 = cc in absurd (omega arith)

-- each premise as a test, and that it tests the premise
abbrev quiet? : Controller → Others ends → Bool
quiet? c [] = true
quiet? c (x ∷ xs) = allowed? ages (start ends c (at 0)) (other x.0 x.1) && quiet? c xs

quiet-so : (c : Controller) (xs : Others ends) → Lends (others xs) → quiet? c xs ≡ true → AllQuiet terms xs
quiet-so c [] l e = tt
quiet-so c (x ∷ xs) l e =
    let p = both_true _ (quiet? c xs) e in
    (allowed-so ages (start ends c (at 0)) (other x.0 x.1) l.0 p.0, quiet-so c xs l.1 p.1)

-- a sender at which nothing waits, of the next tag that a discovery's answer gives
abbrev learns : Controller → ℕ
learns c = (started_at (mark_of c.tags)).sender.next

abbrev empty? : {X : Type 0} → List X → Bool
empty? [] = true
empty? (x ∷ l) = false

abbrev idle? : ℕ → Loader → Bool
idle? n s =
    not s.sender.second && (not s.sender.third && (not s.sender.fourth
    && (empty? s.waiting && (eqb s.sender.waiting 0 && eqb s.sender.next n))))

idle-so : (n : ℕ) (s : Loader) → idle? n s ≡ true → at n ≡ s
idle-so n s e = go s.sender.second s.sender.third s.sender.fourth s.waiting e
  where
    m : ℕ
    m = s.sender.next

    k : ℕ
    k = s.sender.waiting

    go : (a b c : Bool) (l : List Waiting)
        → (not a && (not b && (not c && (empty? l && (eqb k 0 && eqb m n))))) ≡ true
        → at n ≡ record { sender = record { next = m; waiting = k; second = a; third = b; fourth = c }; waiting = l }
    go true b c l q = absurd (false≢true q)
    go false true c l q = absurd (false≢true q)
    go false false true l q = absurd (false≢true q)
    go false false false (x ∷ l) q = absurd (false≢true q)
    go false false false [] q =
        let p = both_true (eqb k 0) _ q in
        rw (eqb-true k 0 p.0, eqb-true m n p.1)

-- so that an allowed controller's answer makes it
abbrev opens? : Controller → Opening ends → Bool
opens? c unasked = is_fresh c.tags
opens? c (asking xs b ys s) = idle? (learns c) s

learnt-idle : (c : Controller) → Sound c → (started_at (mark_of c.tags)).sender ≡ idle (learns c)
learnt-idle c h =
    let s = ap (λ (m : Moved). m.sender) (mark-starts c h).1 in
    s ∙ ap (λ (t : Sender). idle t.next) (sym s)

opens-so : (c : Controller) (o : Opening ends) (es : List (Event ends)) → Sound c → opens? c o ≡ true
    → AllowedRun ends terms window ages c (sender_by o) (happened window restarts o es) → Lived c (begun o es)
opens-so c unasked es h e a = (e, a)
opens-so c (asking xs b ys s) es h e a =
    let q = asked-quiet terms window ages restarts c xs b ys s es a in (
      (
        bytes_of (discovery_answer (mark_of c.tags)),
        rw (all_same c xs h q.0) (given_is c b h q.1),
        learns-it c b h q.1 ∙ ap (λ (t : Sender). some (record { sender = t; waiting = [] })) (learnt-idle c h)
            ∙ ap some (idle-so (learns c) s e),
      ),
      a,
    )

-- the end of a life, c being the controller then
abbrev up? : Controller → Ending ends → Bool
up? c restart = true
up? c (reset c') = as_kept c'.memory c.memory && is_fresh c'.tags

abbrev up_as : Controller → Ending ends → Controller
up_as c restart = c
up_as c (reset c') = c'

up-so : (c : Controller) (e : Ending ends) → LongAt e → up? c e ≡ true → lives.Ended terms window ages restarts c e
up-so c restart l q = tt
up-so c (reset c') l q =
    let a = both_true (as_kept c'.memory c.memory) _ q in
    record { memory = kept-equal _ _ a.0; stored = l.0; kept = l.1; fresh = a.1 }

-- a life, played: the controller at its end, and what is seen; one that has not heard leaves the controller as it was
abbrev unheard_as : Controller → Seen
unheard_as c = record { taken = 0; outcomes = []; memory = c.memory }

abbrev life? : Controller → Life ends → Option (Controller × Seen)
life? c (unheard xs) = cond (quiet? c xs) (some (c, unheard_as c)) none
life? c (begun o es) = cond (opens? c o) (plays? (start ends c (sender_by o)) (happened window restarts o es)) none

record Lived? (c : Controller) (l : Life ends) (r : Controller × Seen) : Type 0 where
  lived : Lived c l
  end : end_of window restarts c l ≡ r.0
  seen : seen_of c l ≡ r.1

life-so : (c : Controller) (l : Life ends) (r : Controller × Seen) → Sound c → LentIn l → life? c l ≡ some r
    → Lived? c l r
life-so c (unheard xs) r h l e = go (quiet? c xs) refl e
  where
    go : (b : Bool) → quiet? c xs ≡ b → cond b (some (c, unheard_as c)) none ≡ some r → Lived? c (unheard xs) r
    go true z q =
        let i = some-injective _ _ q in
        let a = quiet-so c xs l z in
        let s = all_same c xs h a in
        record { lived = a; end = s ∙ first_of i; seen = ap unheard_as s ∙ second-of i }
    go false z q = no-some q
life-so c (begun o es) r h l e = go (opens? c o) refl e
  where
    go : (b : Bool) → opens? c o ≡ b
        → cond b (plays? (start ends c (sender_by o)) (happened window restarts o es)) none ≡ some r
        → Lived? c (begun o es) r
    go true z q =
        let p =
        played-so (Allowed ends terms window ages) (allowed? ages) (allowed-so ages) look (start ends c (sender_by o))
        (happened window restarts o es) r h l q in
        record { lived = opens-so c o es h z p.allowed; end = first_of p.seen; seen = second-of p.seen }
    go false z q = no-some q

-- and lives, one after another
abbrev then? : {X Y : Type 0} → Option X → (X → Option Y) → Option Y
then? none f = none
then? (some x) f = f x

then-so : {X Y : Type 0} (x : Option X) (f : X → Option Y) (y : Y) → then? x f ≡ some y
    → (a : X) × (x ≡ some a) × (f a ≡ some y)
then-so none f y e = no-some e
then-so (some a) f y e = (a, refl, e)

-- what is seen of a life comes first
abbrev behind : Seen → Option (List Seen) → Option (List Seen)
behind s more = then? more (λ n. some (s ∷ n))

abbrev pub lives? : Controller → Lives ends → Life ends → Option (List Seen)
lives? c [] l = then? (life? c l) (λ r. some (r.1 ∷ []))
lives? c (k ∷ ls) l =
    then? (life? c k.0) (λ r. cond (up? r.0 k.1) (behind r.1 (lives? (up_as r.0 k.1) ls l)) none)

pub record AllLived? (c : Controller) (ls : Lives ends) (l : Life ends) (m : List Seen) : Type 0 where
  pub before : AllLived c ls
  pub last : Lived (left c ls) l
  pub seen : seen_in c ls l ≡ m

-- the life k, ended by x, and those that follow
module _ (c : Controller) (h : Sound c) (k : Life ends) (x : Ending ends) (r : Controller × Seen)
    (q : Lived? c k r) where
  abbrev d : Controller
  d = next window restarts c (k, x)

  then_is : d ≡ up_as r.0 x
  then_is = go x
    where
      go : (x : Ending ends) → next window restarts c (k, x) ≡ up_as r.0 x
      go restart = q.end
      go (reset c') = refl

  ends_so : LongAt x → up? r.0 x ≡ true → lives.Ended terms window ages restarts (end_of window restarts c k) x
  ends_so g e =
      subst (λ (y : Controller). lives.Ended terms window ages restarts y x) (sym q.end) (up-so r.0 x g e)

  more-so : (ls : Lives ends) (l : Life ends) (m : List Seen) (b : Bool) → LongAt x → up? r.0 x ≡ b
      → cond b (behind r.1 (lives? (up_as r.0 x) ls l)) none ≡ some m
      → ((n : List Seen) → Sound d → lives? d ls l ≡ some n → AllLived? d ls l n) → AllLived? c ((k, x) ∷ ls) l m
  more-so ls l m true g e f rest =
      let p = then-so (lives? (up_as r.0 x) ls l) (λ n. some (r.1 ∷ n)) m f in
      let sound = all_sound renews laws c ((k, x) ∷ []) h ((q.lived, ends_so g e), tt) in
      let a = rest p.0 sound (ap (λ (y : Controller). lives? y ls l) then_is ∙ p.1) in
      record {
        before = ((q.lived, ends_so g e), a.before);
        last = a.last;
        seen = rw (a.seen, q.seen) (some-injective _ _ p.2);
      }
  more-so ls l m false g e f rest = no-some f

pub lives-so : (c : Controller) (ls : Lives ends) (l : Life ends) (m : List Seen) → Sound c → AllLent ls l
    → lives? c ls l ≡ some m → AllLived? c ls l m
lives-so c [] l m h t e =
    let p = then-so (life? c l) (λ r. some (r.1 ∷ [])) m e in
    let q = life-so c l p.0 h t p.1 in
    record { before = tt; last = q.lived; seen = rw q.seen (some-injective _ _ p.2) }
lives-so c ((k, x) ∷ ls) l m h t e =
    let p =
    then-so (life? c k) (λ r. cond (up? r.0 x) (behind r.1 (lives? (up_as r.0 x) ls l)) none) m e in
    more-so c h k x p.0 (life-so c k p.0 h t.0 p.1) ls l m (up? p.0.0 x) t.1 refl p.2
    (λ n g i. lives-so (next window restarts c (k, x)) ls l n g t.2 i)
