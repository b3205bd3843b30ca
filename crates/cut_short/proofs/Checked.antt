-- A life that makes the table's calls, decided by computation and played by `quickly`, once for all of its moments:
-- `loads-so`. Cited by Example.antt and Sharp.antt. Assumes nothing.
use Prim.Native.Nat.{ℕ, zero, suc, ◌<◌}
use mathlib.Core.Path.{◌≡◌, refl, sym, ap, subst, ◌∙◌}
use mathlib.Core.Bool.{Bool, true, false, cond, ◌&&◌}
use mathlib.Core.Option.{Option, none, some, some-injective}
use mathlib.Core.List.{List, [], ◌∷◌}
use native.Mathlib.Omega.{arith}
use borrow.Author.Tests.{eqb-true}
use lib.Dec.{eqb}
use lib.ListN.{length, get_or, take, drop, take-append-drop}
use Rattle.completer.specs.Controller.{Controller}
use Rattle.completer.specs.Verdict.{as_kept}
use Rattle.completer.proofs.Laws.Called.{kept-equal}
use Rattle.once.specs.Runs.{run}
use Rattle.once.specs.World.{Event, offer, send, arrive, back, other, World, given, step}
use Rattle.once.specs.World.{start as begin}
use Rattle.once.specs.Lives.{Opening, begun, Lives, happened}
use Rattle.once.proofs.Checked.{both_true}
use Rattle.once.proofs.Runs.{run-append}
use Rattle.once.proofs.Lives.{happened-more}
use Rattle.exchange.specs.Ends.{ends}
use Rattle.exchange.specs.Terms.{Sound}
use Rattle.exchange.specs.Promise.{window}
use Rattle.exchange.specs.Example.{output}
use Rattle.exchange.proofs.Checked.{LentAt, Lends, lends_first, whole?, quickly, quickly-is}
use Rattle.lives.specs.Lives.{restarts, left, sender_by, world}
use Rattle.table.specs.declared.attempt.Attempt.{Attempt}
use Rattle.table.specs.Calls.{beginning, made_of, made_to}
use Rattle.trained.specs.Called.{taken_with, Calls}
use Rattle.trained.specs.Loading.{Loads}
use Rattle.trained.specs.Promise.{Training, memory_now}
use Rattle.trained.proofs.Promise.{at-every-moment}

-- memory behind each event, counted from 0
abbrev pub memories : World ends → List (Event ends) → List (List ℕ)
memories w [] = []
memories w (e ∷ es) = (step ends window w e).controller.memory ∷ memories (step ends window w e) es

at-moment : (w : World ends) (es : List (Event ends)) (n : ℕ) → n < length es
    → (run (step ends window) w (take (suc n) es)).controller.memory ≡ get_or (memories w es) n []
at-moment w [] n h = absurd (omega arith)
at-moment w (e ∷ es) zero h = refl
at-moment w (e ∷ es) (suc n) h = at-moment (step ends window w e) es n (omega arith)

-- what stands first is there where the rest is
abbrev behind : {X : Type 0} → X → Option (List X) → Option (List X)
behind x none = none
behind x (some l) = some (x ∷ l)

behind-so : {X : Type 0} (x : X) (o : Option (List X)) (m : List X) → behind x o ≡ some m
    → (l : List X) × (o ≡ some l) × (x ∷ l ≡ m)
behind-so x none m e = let z : ◌≡◌ {A = ℕ} 0 1 = cc in absurd (omega arith)
behind-so x (some l) m e = (l, refl, some-injective _ _ e)

module _ (start room : ℕ) (rows : List ℕ) where
  -- whether an event is the table's call: `message` gave what is offered, in the output; and the attempt then
  abbrev calls? : Attempt → Event ends → Bool
  calls? a (offer d) =
      let made = made_of a start room rows output in
      eqb made.refusal 0 && as_kept d (take made.length (made_to a start room rows output))
  calls? a (send p) = true
  calls? a (arrive j b) = true
  calls? a (back n) = true
  calls? a (other x b) = true

  abbrev then : Attempt → World ends → Event ends → Attempt
  then a w (offer d) = (made_of a start room rows output).attempt
  then a w (send p) = a
  then a w (arrive j b) = a
  then a w (back n) = taken_with rows a w.sender (given ends w n).1
  then a w (other x b) = a

  call-so : (a : Attempt) (w : World ends) (e : Event ends) (es : List (Event ends)) → calls? a e ≡ true
      → Calls start room rows (then a w e) (step ends window w e) es → Calls start room rows a w (e ∷ es)
  call-so a w (offer d) es t k =
      let p = both_true (eqb (made_of a start room rows output).refusal 0) _ t in (
        (made_of a start room rows output).attempt,
        record { out = output; fine = eqb-true _ 0 p.0; bytes = kept-equal _ _ p.1; attempt = refl },
        k,
      )
  call-so a w (send p) es t k = k
  call-so a w (arrive j b) es t k = k
  call-so a w (back n) es t k = k
  call-so a w (other x b) es t k = k

  -- the events, played: memory behind each
  abbrev pub called? : Attempt → World ends → List (Event ends) → Option (List (List ℕ))
  called? a w [] = some []
  called? a w (e ∷ es) =
      cond (calls? a e && whole? w e) (behind (quickly w e).controller.memory (called? (then a w e) (quickly w e) es))
      none

  pub record Called (a : Attempt) (w : World ends) (es : List (Event ends)) (ms : List (List ℕ)) : Type 0 where
    pub calls : Calls start room rows a w es
    pub is : run (step ends window) w es ≡ run quickly w es
    pub seen : memories w es ≡ ms
    pub sound : Sound (run quickly w es).controller

  called-so : (es : List (Event ends)) (a : Attempt) (w : World ends) (ms : List (List ℕ)) → Sound w.controller
      → Lends es → called? a w es ≡ some ms → Called a w es ms
  called-so [] a w ms h l e = record { calls = tt; is = refl; seen = some-injective _ _ e; sound = h }
  called-so (x ∷ es) a w ms h l e =
      let m = lends_first x es l in
      go m.0 (calls? a x && whole? w x) refl e (λ ns k. called-so es (then a w x) (quickly w x) ns k m.1)
    where
      go : LentAt x → (b : Bool) → calls? a x && whole? w x ≡ b
          → cond b (behind (quickly w x).controller.memory (called? (then a w x) (quickly w x) es)) none ≡ some ms
          → ((ns : List (List ℕ)) → Sound (quickly w x).controller
          → called? (then a w x) (quickly w x) es ≡ some ns → Called (then a w x) (quickly w x) es ns)
          → Called a w (x ∷ es) ms
      go l true t q r =
          let u = both_true (calls? a x) _ t in
          let s = quickly-is w x h l u.1 in
          let p = behind-so _ (called? (then a w x) (quickly w x) es) ms q in
          let v = r p.0 s.1 p.1 in
          let k = subst (λ (y : World ends). Called (then a w x) y es p.0) (sym s.0) v in
          record {
            calls = call-so a w x es u.0 k.calls;
            is = k.is ∙ ap (λ (y : World ends). run quickly y es) s.0;
            seen =
                ap (λ (y : World ends). y.controller.memory ∷ memories (step ends window w x) es) s.0
                ∙ ap (λ (n : List (List ℕ)). (quickly w x).controller.memory ∷ n) k.seen ∙ p.2;
            sound = v.sound;
          }
      go l false t q r = let z : ◌≡◌ {A = ℕ} 0 1 = cc in absurd (omega arith)

-- a life, played: its opening, and then
abbrev pub opened : Controller → Opening ends → World ends
opened c o = run quickly (begin ends c (sender_by o)) (happened window restarts o [])

abbrev pub ended : Controller → Opening ends → List (Event ends) → World ends
ended c o es = run quickly (opened c o) es

module _ (start room : ℕ) (rows : List ℕ) (c : Controller) (o : Opening ends) (es : List (Event ends)) where
  abbrev a : Attempt
  a = beginning (sender_by o).sender

  abbrev pub opens? : Option (List (List ℕ))
  opens? = called? start room rows a (begin ends c (sender_by o)) (happened window restarts o [])

  abbrev pub loads? : Option (List (List ℕ))
  loads? = called? start room rows a (opened c o) es

  -- it makes the table's calls; memory behind each event of it, and the world in the end
  pub record Loaded (ms : List (List ℕ)) : Type 0 where
    pub loads : Loads start room rows c (begun o es)
    pub seen : memories (world c o []) es ≡ ms
    pub is : world c o es ≡ ended c o es
    pub sound : Sound (ended c o es).controller

  pub loads-so : (ns ms : List (List ℕ)) → Sound c → Lends (happened window restarts o []) → Lends es
      → opens? ≡ some ns → loads? ≡ some ms → Loaded ms
  loads-so ns ms h l m e f =
      let p = called-so start room rows (happened window restarts o []) a (begin ends c (sender_by o)) ns h l e in
      let q = called-so start room rows es a (opened c o) ms p.sound m f in
      let k = subst (λ (w : World ends). Called start room rows a w es ms) (sym p.is) q in
      record {
        loads = k.calls;
        seen = k.seen;
        is =
            ap (run (step ends window) (begin ends c (sender_by o))) (happened-more window restarts o [] es)
            ∙ run-append (step ends window) (begin ends c (sender_by o)) (happened window restarts o []) es
            ∙ k.is ∙ ap (λ (w : World ends). run quickly w es) p.is;
        sound = q.sound;
      }

-- and so at every moment of it: what had happened behind event n
module _ {start : ℕ} {room : ℕ → ℕ} {rows : ℕ → List ℕ} {c : Controller} {ls : Lives ends} (o : Opening ends)
    (es : List (Event ends)) (h : Training start room rows c ls (begun o es)) where
  pub trains-to : (n : ℕ) → Training start room rows c ls (begun o (take n es))
  trains-to n =
      (at-every-moment start room rows c ls).then o (take n es) (drop n es)
      (subst (λ (x : List (Event ends)). Training start room rows c ls (begun o x)) (sym (take-append-drop n es)) h)

  pub memory-at : (n : ℕ) → n < length es
      → memory_now c ls (begun o (take (suc n) es)) ≡ get_or (memories (world (left c ls) o []) es) n []
  memory-at n l =
      let b : World ends = begin ends (left c ls) (sender_by o) in
      let to = take (suc n) es in
      ap (λ (x : List (Event ends)). (run (step ends window) b x).controller.memory)
      (happened-more window restarts o [] to)
      ∙ ap (λ (w : World ends). w.controller.memory)
      (run-append (step ends window) b (happened window restarts o []) to)
      ∙ at-moment (world (left c ls) o []) es n l
