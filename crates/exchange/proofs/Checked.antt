-- The premises of a night, decided by computation, and the night played by `quick`: `played-so`. Cited by Example.antt,
-- Incident.antt and Sharp.antt. Assumes nothing.
use Prim.Native.Nat.{ℕ, ◌+◌, ◌*◌, ◌≤◌}
use mathlib.Core.Path.{◌≡◌, refl, sym, ap, subst, ◌∙◌}
use mathlib.Core.Bool.{Bool, true, false, cond, ◌&&◌, false≢true}
use mathlib.Core.Option.{Option, none, some, some-injective}
use mathlib.Core.List.{List, [], ◌∷◌}
use native.Mathlib.Omega.{arith}
use borrow.Author.Tests.{ltb-true, leb-true, lt-ltb}
use lib.Dec.{eqb, ltb, leb}
use lib.ListN.{length, replicate, length-replicate}
use Rattle.word.specs.Words.{Below}
use Rattle.word.proofs.Runs.{below_none, below-cons}
use Rattle.header.specs.declared.Kind.{Kind}
use Rattle.header.specs.declared.Kind.TheVariants.{Nop, Write, Read, Response}
use Rattle.header.specs.Limits.{limit, limit_bytes}
use Rattle.header.specs.Header.{kind_of, discovery_of}
use Rattle.message.specs.Request.{Request, Reading, Refused, Means}
use Rattle.message.specs.Walk.{read}
use Rattle.tags.specs.declared.record.TagRecord.{TagRecord}
use Rattle.tags.specs.Record.{places, most_memory, record_ok}
use Rattle.completer.specs.Controller.{lent, After}
use Rattle.initiator.specs.Asking.{asks_as}
use Rattle.initiator.specs.Places.{new_tag}
use Rattle.once.specs.Runs.{run, Always}
use Rattle.once.specs.World.{World, Event, offer, send, arrive, back, other, Origin, message, stranger}
use Rattle.once.specs.World.{accepted, finished, sent, given, gave, came, heard, room, step}
use Rattle.once.specs.Promise.{Ages, Timely, Allowed}
use Rattle.once.proofs.Checked.{both_true}
use Rattle.exchange.specs.Ends.{sent_in, serve_by, ends}
use Rattle.exchange.specs.Terms.{finds_only, Lendable, terms, Sound}
use Rattle.exchange.specs.Promise.{window, ages}
use Rattle.exchange.specs.Sharp.{Near, ByOldest}
use Rattle.exchange.proofs.Quick.{quick, quick-is, sound-quick}

-- each premise as a test, and that it tests the premise
abbrev pub below? : ℕ → List ℕ → Bool
below? n [] = true
below? n (x ∷ xs) = ltb x n && below? n xs

pub below-so : (n : ℕ) (l : List ℕ) → below? n l ≡ true → Below n l
below-so n [] e = below_none n
below-so n (x ∷ xs) e =
    let p = both_true (ltb x n) _ e in
    below-cons n x xs (ltb-true x n p.0) (below-so n xs p.1)

abbrev changes_not? : Kind → Bool
changes_not? Nop = true
changes_not? Write = false
changes_not? Read = true
changes_not? Response = true

changes-not : (k : Kind) → changes_not? k ≡ true → k ≡ Write → ⊥
changes-not Nop e q = let z : ◌≡◌ {A = ℕ} 0 1 = cc in omega arith
changes-not Write e q = false≢true e
changes-not Read e q = let z : ◌≡◌ {A = ℕ} 0 1 = cc in omega arith
changes-not Response e q = let z : ◌≡◌ {A = ℕ} 0 1 = cc in omega arith

abbrev finds? : Reading Request → Bool
finds? (Refused n) = true
finds? (Means r) = discovery_of r.byte0 && changes_not? (kind_of r.byte0)

finds-so : (p : Reading Request) → finds? p ≡ true → finds_only p
finds-so (Refused n) e = tt
finds-so (Means r) e = let p = both_true (discovery_of r.byte0) _ e in (p.0, changes-not (kind_of r.byte0) p.1)

-- a run of n is long enough, and a controller of the least buffers is allowed
pub long : (n x : ℕ) → n ≤ length (replicate n x)
long n x = omega (arith, length-replicate n x)

pub least-sound : (memory : List ℕ) (x : ℕ) (tags : TagRecord)
    → below? 4294967296 memory && (leb 1 (length memory) && leb (length memory) most_memory) ≡ true
    → record_ok tags ≡ true → Sound (lent memory (replicate (places * limit) x) (replicate (places * limit_bytes) x) tags)
least-sound memory x tags e ok =
    let p = both_true (below? 4294967296 memory) _ e in
    let q = both_true (leb 1 (length memory)) _ p.1 in
    record {
      words = below-so 4294967296 memory p.0;
      some = leb-true _ _ q.0;
      most = leb-true _ _ q.1;
      stored = long (places * limit) x;
      kept = long (places * limit_bytes) x;
      tags = ok;
    }

-- what is lent at an event has an allowed length, and so at all of some events
abbrev pub LentAt : Event ends → Type 0
LentAt (offer d) = Unit {0}
LentAt (send p) = Unit {0}
LentAt (arrive j b) = Lendable b
LentAt (back n) = Unit {0}
LentAt (other x b) = Lendable b

abbrev pub Lends : List (Event ends) → Type 0
Lends [] = Unit {0}
Lends (offer d ∷ es) = Lends es
Lends (send p ∷ es) = Lends es
Lends (arrive j b ∷ es) = Lendable b × Lends es
Lends (back n ∷ es) = Lends es
Lends (other x b ∷ es) = Lendable b × Lends es

pub lends_first : (e : Event ends) (es : List (Event ends)) → Lends (e ∷ es) → LentAt e × Lends es
lends_first (offer d) es l = (tt, l)
lends_first (send p) es l = (tt, l)
lends_first (arrive j b) es l = l
lends_first (back n) es l = (tt, l)
lends_first (other x b) es l = l

-- where a message waits, the test passes
abbrev waits? : World ends → Bool → Bool
waits? w b = cond (ltb (finished ends w) (length w.offered)) b true

module _ (A : Ages) where
  abbrev timely? : World ends → Origin → Bool
  timely? w (message i) = waits? w (leb (length w.offered) (i + A.answer))
  timely? w stranger = true

  timely-so : (w : World ends) (o : Origin) → timely? w o ≡ true → Timely ends terms window A w o
  timely-so w (message i) e = λ h. leb-true _ _ (rw (lt-ltb (finished ends w) (length w.offered) h) at e)
  timely-so w stranger e = tt

  abbrev pub allowed? : World ends → Event ends → Bool
  allowed? w (offer d) =
      cond (room ends window w) (below? 256 d && asks_as (eqb (new_tag w.sender.sender)) (read d)) true
  allowed? w (send p) = ltb p window
  allowed? w (arrive j b) = ltb j (length w.air) && leb w.taken ((sent ends w j).0 + A.request)
  allowed? w (back n) = ltb n (length w.answers) && timely? w (given ends w n).0
  allowed? w (other x b) = below? 256 x && finds? (read x)

  pub allowed-so : (w : World ends) (e : Event ends) → LentAt e → allowed? w e ≡ true → Allowed ends terms window A w e
  allowed-so w (offer d) l e =
      λ h.
      let p = both_true (below? 256 d) _ (rw h at e) in
      record { bytes = below-so 256 d p.0; asked = p.1 }
  allowed-so w (send p) l e = ltb-true p window e
  allowed-so w (arrive j b) l e =
      let p = both_true (ltb j (length w.air)) _ e in
      (ltb-true _ _ p.0, leb-true _ _ p.1, l)
  allowed-so w (back n) l e =
      let p = both_true (ltb n (length w.answers)) _ e in
      (ltb-true _ _ p.0, timely-so w (given ends w n).0 p.1)
  allowed-so w (other x b) l e =
      let p = both_true (below? 256 x) _ e in
      (record { bytes = below-so 256 x p.0; only = finds-so (read x) p.1 }, l)

-- with answers aged by the oldest that waits
abbrev near? : World ends → Origin → Bool
near? w (message i) = waits? w (ltb (finished ends w) (i + ages.answer))
near? w stranger = true

near-so : (w : World ends) (o : Origin) → near? w o ≡ true → Near w o
near-so w (message i) e = λ h. ltb-true _ _ (rw (lt-ltb (finished ends w) (length w.offered) h) at e)
near-so w stranger e = tt

abbrev pub by-oldest? : World ends → Event ends → Bool
by-oldest? w (offer d) = allowed? ages w (offer d)
by-oldest? w (send p) = allowed? ages w (send p)
by-oldest? w (arrive j b) = allowed? ages w (arrive j b)
by-oldest? w (back n) = ltb n (length w.answers) && near? w (given ends w n).0
by-oldest? w (other x b) = allowed? ages w (other x b)

pub by-oldest-so : (w : World ends) (e : Event ends) → LentAt e → by-oldest? w e ≡ true → ByOldest w e
by-oldest-so w (offer d) l e = allowed-so ages w (offer d) l e
by-oldest-so w (send p) l e = allowed-so ages w (send p) l e
by-oldest-so w (arrive j b) l e = allowed-so ages w (arrive j b) l e
by-oldest-so w (back n) l e =
    let p = both_true (ltb n (length w.answers)) _ e in
    (ltb-true _ _ p.0, near-so w (given ends w n).0 p.1)
by-oldest-so w (other x b) l e = allowed-so ages w (other x b) l e

-- what comes to the controller is bytes
abbrev bytes? : Option (List ℕ) → Bool
bytes? none = true
bytes? (some x) = below? 256 x

abbrev pub whole? : World ends → Event ends → Bool
whole? w (offer d) = true
whole? w (send p) = true
whole? w (arrive j b) = bytes? (sent ends w j).1
whole? w (back n) = true
whole? w (other x b) = below? 256 x

-- an event, the controller's call being `quick`
abbrev came_quick : World ends → List ℕ → ℕ → Option (List ℕ) → World ends
came_quick w b i none = gave ends w (message i) w.taken (w.controller, none)
came_quick w b i (some x) = gave ends w (message i) (accepted i w.taken) (serve_by quick w.controller b x)

abbrev pub quickly : World ends → Event ends → World ends
quickly w (offer d) = step ends window w (offer d)
quickly w (send p) = step ends window w (send p)
quickly w (arrive j b) = came_quick w b (sent ends w j).0 (sent ends w j).1
quickly w (back n) = step ends window w (back n)
quickly w (other x b) = gave ends w stranger w.taken (serve_by quick w.controller b x)

-- it is the event, and an allowed controller stays allowed
pub quickly-is : (w : World ends) (e : Event ends) → Sound w.controller → LentAt e → whole? w e ≡ true
    → (step ends window w e ≡ quickly w e) × Sound (quickly w e).controller
quickly-is w (offer d) h l y = (refl, h)
quickly-is w (send p) h l y = (refl, h)
quickly-is w (arrive j b) h l y = go (sent ends w j).1 y
  where
    i : ℕ
    i = (sent ends w j).0

    go : (x : Option (List ℕ)) → bytes? x ≡ true
        → (came ends w b i x ≡ came_quick w b i x) × Sound (came_quick w b i x).controller
    go none t = (refl, h)
    go (some x) t = (
      ap (λ (a : After). gave ends w (message i) (accepted i w.taken) (a.controller, sent_in a))
          (quick-is w.controller b x h l),
      sound-quick w.controller b x h l (below-so 256 x t),
    )
quickly-is w (back n) h l y = (refl, go (given ends w n).1)
  where
    go : (a : Option (List ℕ)) → Sound (heard ends w a).controller
    go none = h
    go (some a) = h
quickly-is w (other x b) h l y = (
  ap (λ (a : After). gave ends w stranger w.taken (a.controller, sent_in a)) (quick-is w.controller b x h l),
  sound-quick w.controller b x h l (below-so 256 x y),
)

-- A night that passes a test of the premises is allowed with them; `look` is what is looked at in the end. The night is
-- computed once for both.
module _ (Premises : World ends → Event ends → Type 0) (test : World ends → Event ends → Bool)
    (so : (w : World ends) (e : Event ends) → LentAt e → test w e ≡ true → Premises w e)
    {A : Type 0} (look : World ends → A) where
  abbrev pub played? : World ends → List (Event ends) → Option A
  played? w [] = some (look w)
  played? w (e ∷ es) = cond (test w e && whole? w e) (played? (quickly w e) es) none

  -- what is then known of it
  pub record Known (w : World ends) (es : List (Event ends)) (end : A) : Type 0 where
    pub allowed : Always (step ends window) Premises w es
    pub is : run (step ends window) w es ≡ run quickly w es
    pub seen : look (run (step ends window) w es) ≡ end
    pub sound : Sound (run (step ends window) w es).controller

  pub played-so : (w : World ends) (es : List (Event ends)) (end : A) → Sound w.controller → Lends es
      → played? w es ≡ some end → Known w es end
  played-so w [] end h l e = record { allowed = tt; is = refl; seen = some-injective _ _ e; sound = h }
  played-so w (x ∷ es) end h l e =
      let m = lends_first x es l in
      go m.0 (test w x && whole? w x) refl e (λ k. played-so (quickly w x) es end k m.1)
    where
      go : LentAt x → (b : Bool) → test w x && whole? w x ≡ b → cond b (played? (quickly w x) es) none ≡ some end
          → (Sound (quickly w x).controller → played? (quickly w x) es ≡ some end → Known (quickly w x) es end)
          → Known w (x ∷ es) end
      go l true t q r =
          let u = both_true (test w x) _ t in
          let s = quickly-is w x h l u.1 in
          let k = subst (λ (v : World ends). Known v es end) (sym s.0) (r s.1 q) in
          record {
            allowed = (so w x l u.0, k.allowed);
            is = k.is ∙ ap (λ (v : World ends). run quickly v es) s.0;
            seen = k.seen;
            sound = k.sound;
          }
      go l false t q r = let z : ◌≡◌ {A = ℕ} 0 1 = cc in absurd (omega arith)
