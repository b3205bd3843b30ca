-- The premises of the runs of specs/Example.antt, decided by computation: `may-so`. Cited by Example.antt and
-- Sharp.antt. Assumes nothing.
use Prim.Native.Nat.{ℕ, zero, suc, ◌+◌, ◌%◌}
use mathlib.Core.Path.{◌≡◌, refl}
use mathlib.Core.Bool.{Bool, true, false, cond, ◌&&◌}
use mathlib.Core.List.{List, [], ◌∷◌}
use native.Mathlib.Omega.{arith}
use borrow.Author.Tests.{ltb-true, leb-true, eqb-true, lt-ltb}
use lib.Dec.{eqb, ltb, leb}
use lib.ListN.{length}
use Rattle.once.specs.Runs.{Always}
use Rattle.once.specs.World.{World, Event, offer, send, arrive, back, other, Origin, message, stranger}
use Rattle.once.specs.World.{start, finished, sent, given, room, step}
use Rattle.once.specs.Promise.{Ages, usual, Timely}
use Rattle.once.specs.Pair.{Datagram, request, discovery, answer, found, Quiet}
use Rattle.once.specs.Example.{numbers, controller, sender, pair, about, May, Aged, Near, ByOldest}

-- two tests pass if both do
pub both_true : (a b : Bool) → (a && b) ≡ true → (a ≡ true) × (b ≡ true)
both_true true b e = (refl, e)
both_true false b e = let z : ◌≡◌ {A = ℕ} 0 1 = cc in absurd (omega arith)

-- each premise as a test, and that it tests the premise
abbrev quiet? : Datagram numbers → Bool
quiet? (request t x) = false
quiet? (discovery zero) = true
quiet? (discovery (suc x)) = false
quiet? (answer t o) = true
quiet? (found o) = true

quiet-so : (x : Datagram numbers) → quiet? x ≡ true → Quiet numbers x
quiet-so (request t x) e = let z : ◌≡◌ {A = ℕ} 0 1 = cc in absurd (omega arith)
quiet-so (discovery zero) e = λ m. refl
quiet-so (discovery (suc x)) e = let z : ◌≡◌ {A = ℕ} 0 1 = cc in absurd (omega arith)
quiet-so (answer t o) e = tt
quiet-so (found o) e = tt

module _ (W : ℕ) where
  -- where a message waits, the test passes
  abbrev waits? : World (pair W) → Bool → Bool
  waits? w b = cond (ltb (finished (pair W) w) (length w.offered)) b true

  abbrev timely? : Ages → World (pair W) → Origin → Bool
  timely? A w (message i) = waits? w (leb (length w.offered) (i + A.answer))
  timely? A w stranger = true

  timely-so : (A : Ages) (w : World (pair W)) (o : Origin) → timely? A w o ≡ true → Timely (pair W) (about W) W A w o
  timely-so A w (message i) e = λ h. leb-true _ _ (rw (lt-ltb (finished (pair W) w) (length w.offered) h) at e)
  timely-so A w stranger e = tt

  abbrev pub allowed? : Ages → World (pair W) → Event (pair W) → Bool
  allowed? A w (offer d) =
      cond (room (pair W) W w)
      (ltb d.0 16 && eqb d.0 ((w.sender.next + length w.sender.waiting) % 16)) true
  allowed? A w (send p) = ltb p W
  allowed? A w (arrive j b) =
      ltb j (length w.air) && (leb w.taken ((sent (pair W) w j).0 + A.request) && ltb 0 b)
  allowed? A w (back n) = ltb n (length w.answers) && timely? A w (given (pair W) w n).0
  allowed? A w (other x b) = quiet? x && ltb 0 b

  pub allowed-so : (A : Ages) (w : World (pair W)) (e : Event (pair W)) → allowed? A w e ≡ true → Aged W A w e
  allowed-so A w (offer d) e =
      λ h. let p = both_true (ltb d.0 16) _ (rw h at e) in (ltb-true _ _ p.0, eqb-true _ _ p.1)
  allowed-so A w (send p) e = ltb-true p W e
  allowed-so A w (arrive j b) e =
      let p = both_true (ltb j (length w.air)) _ e in
      let q = both_true (leb w.taken ((sent (pair W) w j).0 + A.request)) _ p.1 in
      (ltb-true _ _ p.0, leb-true _ _ q.0, ltb-true _ _ q.1)
  allowed-so A w (back n) e =
      let p = both_true (ltb n (length w.answers)) _ e in
      (ltb-true _ _ p.0, timely-so A w (given (pair W) w n).0 p.1)
  allowed-so A w (other x b) e = let p = both_true (quiet? x) _ e in (quiet-so x p.0, ltb-true _ _ p.1)

  -- with answers aged by the oldest that waits
  abbrev near? : World (pair W) → Origin → Bool
  near? w (message i) = waits? w (ltb (finished (pair W) w) (i + usual.answer))
  near? w stranger = true

  near-so : (w : World (pair W)) (o : Origin) → near? w o ≡ true → Near W w o
  near-so w (message i) e = λ h. ltb-true _ _ (rw (lt-ltb (finished (pair W) w) (length w.offered) h) at e)
  near-so w stranger e = tt

  abbrev pub by-oldest? : World (pair W) → Event (pair W) → Bool
  by-oldest? w (offer d) = allowed? usual w (offer d)
  by-oldest? w (send p) = allowed? usual w (send p)
  by-oldest? w (arrive j b) = allowed? usual w (arrive j b)
  by-oldest? w (back n) = ltb n (length w.answers) && near? w (given (pair W) w n).0
  by-oldest? w (other x b) = allowed? usual w (other x b)

  pub by-oldest-so : (w : World (pair W)) (e : Event (pair W)) → by-oldest? w e ≡ true → ByOldest W w e
  by-oldest-so w (offer d) e = allowed-so usual w (offer d) e
  by-oldest-so w (send p) e = allowed-so usual w (send p) e
  by-oldest-so w (arrive j b) e = allowed-so usual w (arrive j b) e
  by-oldest-so w (back n) e =
      let p = both_true (ltb n (length w.answers)) _ e in
      (ltb-true _ _ p.0, near-so w (given (pair W) w n).0 p.1)
  by-oldest-so w (other x b) e = allowed-so usual w (other x b) e

  -- A run that passes a test of the premises is allowed with them.
  module _ (Premises : World (pair W) → Event (pair W) → Type 0) (test : World (pair W) → Event (pair W) → Bool)
      (so : (w : World (pair W)) (e : Event (pair W)) → test w e ≡ true → Premises w e) where
    abbrev pub always? : World (pair W) → List (Event (pair W)) → Bool
    always? w [] = true
    always? w (e ∷ es) = test w e && always? (step (pair W) W w e) es

    always-so : (w : World (pair W)) (es : List (Event (pair W))) → always? w es ≡ true
        → Always (step (pair W) W) Premises w es
    always-so w [] e = tt
    always-so w (x ∷ es) e =
        let p = both_true (test w x) _ e in
        (so w x p.0, always-so (step (pair W) W w x) es p.1)

    pub may-so : (es : List (Event (pair W))) → always? (start (pair W) controller sender) es ≡ true
        → May W Premises es
    may-so es e = always-so (start (pair W) controller sender) es e
