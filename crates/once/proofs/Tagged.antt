-- What two ends keep of which the facts of specs/Tags.antt hold: the promise, up to W messages waiting, and what their
-- records say. This is what the crates above cite. Assumes nothing.
use Prim.Native.Nat.{ℕ, ◌+◌, ◌%◌, ◌≤◌, ◌<◌}
use mathlib.Core.Path.{◌≡◌, refl, sym, ◌∙◌, ap}
use mathlib.Core.Option.{Option, some, some-injective}
use mathlib.Core.List.{List, [], ◌∷◌}
use native.Mathlib.Omega.{arith}
use lib.ListN.{length, take, get_elem?}
use lib.Seq.{length-take-le}
use Rattle.once.proofs.Bounds.{most_requests, most_answers}
use Rattle.once.specs.World.{Ends, World, Event, finished, sent}
use Rattle.once.specs.Promise.{Terms, usual, AllowedRun, after, Safety, Progress, Extends}
use Rattle.once.specs.Laws.{Laws}
use Rattle.once.specs.Tags.{Sight, Start, Tagged, Says}
use Rattle.once.proofs.Lists.{inside, among}
use Rattle.once.proofs.Keeps.{Flown, nothing, copy, Inv}
use Rattle.once.proofs.Promise.{safety, progress, extends, inv-after}
use Rattle.once.proofs.Stored.{tag_at, is-behind}
use Rattle.once.proofs.Waiting.{has-length, has-waits}
use Rattle.once.proofs.Tags.{Accepted, Finished, tagged-laws, took-is, has-is, copy_is}

-- a list that is not longer than none is none
empty : {X : Type 0} (l : List X) → length l ≤ 0 → l ≡ []
empty [] h = refl
empty (x ∷ l) h = absurd (omega arith)

module _ {E : Ends} {T : Terms E} {S : Sight E T} {W : ℕ} (F : Tagged E T S W) (pos : 0 < W) (wide : W + W ≤ 16)
    (c : E.Controller) (s : E.Sender) (begun : Start E T S c s) where
  -- the usual ages are as the laws want them
  requests : usual.request ≤ most_requests
  requests = omega arith

  answers : usual.answer ≤ most_answers
  answers = omega arith

  abbrev laws : Laws E T W usual c s
  laws = tagged-laws F pos wide requests answers c s begun

  -- "memory is always what the first k messages, each carried out once in order, make of it .. Each finished outcome is
  -- from that"
  pub tagged-safety : Safety E T W usual c s
  tagged-safety = safety laws

  -- "all are finished by send N times L"
  pub tagged-progress : Progress E T W usual c s
  tagged-progress = progress laws

  -- the premises can always be met further
  pub tagged-extends : Extends E T W usual c s
  tagged-extends = extends laws pos (omega arith) (omega arith)

  says : (w : World E) → Inv laws w → Says E T S W c s w
  says w v =
      record {
        plain = λ i d e. (has.row i d e).0;
        tags = λ i d e. (has.row i d e).1;
        next = has.next ∙ ap (λ n. (S.next s + n) % 16) (sym v.f-is);
        waits = omega (arith, long, v.f-is);
        order = has-waits F wide (T.memory c) s has;
        last =
            λ i j d e b h.
            let l = took.last i j d (e ∙ sym many) b (among w.taken w.offered i (omega arith) ∙ h) in
            tag_at (S.stored w.controller) j (S.tag d) l.answer l.stored;
        taken = took.next ∙ ap (λ n. (S.next s + n) % 16) many;
        kept = λ e. took.kept (many ∙ e);
        within = v.below;
        memory = took.memory;
        sound = took.sound;
        sent = λ j x h e. copied (sent E w j) x (v.air j h) e;
        -- a message that may arrive is at most 15 behind, and fewer than W ahead: one place has its tag
        repeats =
            λ i j d o e g.
            let far = inside w.offered i d e in
            let few = v.few in
            let within = has.within in
            let n = many in
            let b = is-behind F pos wide c s took i j (S.tag d) (has.row i d e).1 (omega arith) (omega arith) g in
            let is = b.0 in
            (took.last i j d is b.1 (among w.taken w.offered i (omega arith) ∙ e)).holds;
        anew = λ s' n e. record { sound = took.sound; nothing = n; next = e };
        again =
            λ e.
            record {
              sound = took.sound;
              nothing = empty (S.waiting w.sender) (omega (arith, long, v.f-is));
              next = has.next ∙ level e ∙ sym took.next;
            };
      }
    where
      took : Accepted F pos wide requests answers c s begun (take w.taken w.offered) w.controller
      took = took-is F pos wide requests answers c s begun v.took

      has : Finished F pos wide requests answers c s begun w.offered w.taken v.f w.sender
      has = has-is F pos wide requests answers c s begun v.has

      long : v.f + length (S.waiting w.sender) ≡ length w.offered
      long = has-length F wide (T.memory c) s has

      many : length (take w.taken w.offered) ≡ w.taken
      many = length-take-le w.taken w.offered v.below

      -- what is in the air is a copy
      copied : (y : ℕ × Option E.Datagram) (x : E.Datagram) → Flown laws w.offered y → y.1 ≡ some x
          → (d : E.Message) × (get_elem? w.offered y.0 ≡ some d) × S.Copy d x
      copied y x nothing e = let z : ◌≡◌ {A = ℕ} 0 1 = cc in absurd (omega arith)
      copied y x (copy {d = d} g p) e =
          let z = some-injective _ _ e in
          (d, g, rw (← z) (copy_is F pos wide requests answers c s begun p))

      -- when all is finished, as many are taken
      level : length w.offered ≤ finished E w
          → (S.next s + v.f) % 16 ≡ (S.next s + length (take w.taken w.offered)) % 16
      level e = ap (λ n. (S.next s + n) % 16) (omega (arith, has.within, v.below, v.f-is, many))

  -- What the two records say at any moment; and that the controller with a new sender, and in the end the two, are
  -- again a start.
  pub tagged-says : (es : List (Event E)) → AllowedRun E T W usual c s es → Says E T S W c s (after E W c s es)
  tagged-says es a = says (after E W c s es) (inv-after laws es a)
