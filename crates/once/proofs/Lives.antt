-- The theorems of specs/Lives.antt. Assumes nothing.
use Prim.Native.Nat.{ℕ, zero, suc, ◌≤◌}
use mathlib.Core.Path.{◌≡◌, refl, sym, ◌∙◌, ap, subst}
use mathlib.Core.Bool.{Bool, true, false, cond}
use mathlib.Core.Option.{Option, none, some}
use mathlib.Core.List.{List, [], ◌∷◌, ◌++◌, foldl, append_assoc}
use native.Mathlib.Omega.{arith}
use native.Mathlib.Nat.{not-suc-le-zero}
use lib.Dec.{eqb}
use lib.ListN.{take}
use Rattle.once.specs.Runs.{run, Always}
use Rattle.once.specs.World.{Ends, Event, offer, send, arrive, back, other, World, start, sent, given}
use Rattle.once.specs.World.{accepted, came, heard, room, step}
use Rattle.once.specs.Promise.{Terms, Ages, Allowed, AllowedRun, made}
use Rattle.once.specs.Laws.{Laws}
use Rattle.once.specs.Lives.{Restarts, Others, others, Longer, Opening, unasked, asking, Life, unheard, begun}
use Rattle.once.specs.Lives.{Ending, restart, reset, Lives, quietly, AllQuiet, sender_by, happened, world, end_of}
use Rattle.once.specs.Lives.{part_of, next, left, parts, PartsStay, PartGrows, Lived, Ended, AllLived}
use Rattle.once.specs.Lives.{Moments, MemoryOfLives, LifeBegins, Upon, EachLife, EachStarts, Renews}
use Rattle.once.proofs.Lists.{Onto, onto, onto_same, onto-onto}
use Rattle.once.proofs.Runs.{run-append, always-append}
use Rattle.once.proofs.Promise.{safety, safety-taken, whole}
use Rattle.once.proofs.Quiet.{all_quiet}

-- The first n of a list stand first among the first m of a longer one.
longer-part : {X : Type 0} (n m : ℕ) (l more : List X) → n ≤ m → Longer (take n l) (take m (l ++ more))
longer-part zero m l more h = (take m (l ++ more), refl)
longer-part (suc n) zero l more h = absurd (not-suc-le-zero h)
longer-part (suc n) (suc m) [] more h = (take (suc m) more, refl)
longer-part (suc n) (suc m) (x ∷ l) more h =
    let r = longer-part n m l more (omega arith) in
    (r.0, ap (λ q. x ∷ q) r.1)

accepted-up : (i k : ℕ) → k ≤ accepted i k
accepted-up i k = by (eqb i k)
  where
    by : (b : Bool) → k ≤ cond b (suc k) k
    by true = omega arith
    by false = omega arith

-- The list grows at its end, and no fewer are taken.
record Forth {E : Ends} (w w' : World E) : Type 0 where
  list : Onto w.offered w'.offered
  taken : w.taken ≤ w'.taken

module _ {E : Ends} (W : ℕ) where
  step-forth : (w : World E) (e : Event E) → Forth w (step E W w e)
  step-forth w (offer d) = record { list = by (room E W w); taken = omega arith }
    where
      by : (b : Bool) → Onto w.offered (cond b (w.offered ++ d ∷ []) w.offered)
      by true = onto _ _
      by false = onto_same _
  step-forth w (send p) = record { list = onto_same _; taken = omega arith }
  step-forth w (arrive j b) = by (sent E w j).1
    where
      by : (y : Option E.Datagram) → Forth w (came E w b (sent E w j).0 y)
      by none = record { list = onto_same _; taken = omega arith }
      by (some x) = record { list = onto_same _; taken = accepted-up (sent E w j).0 w.taken }
  step-forth w (back n) = by (given E w n).1
    where
      by : (y : Option E.Datagram) → Forth w (heard E w y)
      by none = record { list = onto_same _; taken = omega arith }
      by (some a) = record { list = onto_same _; taken = omega arith }
  step-forth w (other x b) = record { list = onto_same _; taken = omega arith }

  run-forth : (w : World E) (es : List (Event E)) → Forth w (run (step E W) w es)
  run-forth w [] = record { list = onto_same _; taken = omega arith }
  run-forth w (e ∷ es) =
      let p = step-forth w e in
      let q = run-forth (step E W w e) es in
      record { list = onto-onto p.list q.list; taken = omega (arith, p.taken, q.taken) }

  module _ (R : Restarts E) where
    -- what happens besides stands at the end
    pub happened-more : (o : Opening E) (es more : List (Event E))
        → happened W R o (es ++ more) ≡ happened W R o es ++ more
    happened-more unasked es more = refl
    happened-more (asking xs b ys s) es more = sym (append_assoc (others xs ++ other R.ask b ∷ others ys) es more)

    world-more : (c : E.Controller) (o : Opening E) (es more : List (Event E))
        → world W R c o (es ++ more) ≡ run (step E W) (world W R c o es) more
    world-more c o es more =
        ap (run (step E W) (start E c (sender_by W R o))) (happened-more o es more)
        ∙ run-append (step E W) (start E c (sender_by W R o)) (happened W R o es) more

    pub part-grows : PartGrows W R
    part-grows c o es more =
        let w = world W R c o es in
        let v = run (step E W) w more in
        let f = run-forth w more in
        let g = longer-part w.taken v.taken w.offered f.list.more f.taken in
        subst
        (λ (u : World E). Longer w.offered u.offered
        × Longer (take w.taken w.offered) (take u.taken u.offered))
        (sym (world-more c o es more))
        ((f.list.more, f.list.is), (g.0, ap (take v.taken) f.list.is ∙ g.1))

    pub parts_stay : PartsStay W R
    parts_stay c [] ms = refl
    parts_stay c (l ∷ ls) ms = ap (λ ps. part_of W R c l.0 ∷ ps) (parts_stay (next W R c l) ls ms)

-- Quiet datagrams are so in two parts.
pub first-quiet : {E : Ends} (T : Terms E) (xs ys : Others E) → AllQuiet T (xs ++ ys) → AllQuiet T xs × AllQuiet T ys
first-quiet T [] ys a = (tt, a)
first-quiet T (x ∷ xs) ys a = let r = first-quiet T xs ys a.1 in ((a.0, r.0), r.1)

module _ {E : Ends} (T : Terms E) (W : ℕ) (A : Ages) (R : Restarts E) where
  -- what is quiet is allowed, before anything that is
  quiet-allowed : (w : World E) (xs : Others E) (es : List (Event E)) → AllQuiet T xs
      → ((v : World E) → Always (step E W) (Allowed E T W A) v es)
      → Always (step E W) (Allowed E T W A) w (others xs ++ es)
  quiet-allowed w [] es q a = a w
  quiet-allowed w (x ∷ xs) es q a = (q.0, quiet-allowed (step E W w (other x.0 x.1)) xs es q.1 a)

  asks-allowed : (c : E.Controller) (xs : Others E) (b : E.Lent) (ys : Others E) (s : E.Sender) → AllQuiet T xs
      → T.Quiet R.ask × T.Lendable b → AllQuiet T ys
      → AllowedRun E T W A c s (happened W R (asking xs b ys s) [])
  asks-allowed c xs b ys s h l k =
      subst (AllowedRun E T W A c s) (sym (append_assoc (others xs) (other R.ask b ∷ others ys) []))
      (quiet-allowed (start E c s) xs (other R.ask b ∷ others ys ++ []) h
      (λ v. (l, quiet-allowed (step E W v (other R.ask b)) ys [] k (λ u. tt))))

  others-more : (xs ys : Others E) → ◌≡◌ {A = List (Event E)} (others (xs ++ ys)) (others xs ++ others ys)
  others-more [] ys = refl
  others-more (x ∷ xs) ys = ap (λ (es : List (Event E)). other x.0 x.1 ∷ es) (others-more xs ys)

  heard-quiet : (c : E.Controller) (xs : Others E) (b : E.Lent) (ys : Others E) (s : E.Sender) (es : List (Event E))
      → AllowedRun E T W A c s (happened W R (asking xs b ys s) es) → AllQuiet T (xs ++ (R.ask, b) ∷ ys)
  heard-quiet c xs b ys s es a =
      let w = start E c s in
      let p = (always-append (step E W) (Allowed E T W A) w (others xs ++ other R.ask b ∷ others ys) es a).0 in
      all_quiet T W A w (xs ++ (R.ask, b) ∷ ys) (rw (others-more xs ((R.ask, b) ∷ ys)) p)

  pub asked-quiet : (c : E.Controller) (xs : Others E) (b : E.Lent) (ys : Others E) (s : E.Sender)
      (es : List (Event E)) → AllowedRun E T W A c s (happened W R (asking xs b ys s) es)
      → AllQuiet T xs × T.Lendable b
  asked-quiet c xs b ys s es a =
      let q = first-quiet T xs ((R.ask, b) ∷ ys) (heard-quiet c xs b ys s es a) in
      (q.0, q.1.0.1)

  -- of lives that are over, those before one, and that one
  over-lived : (c : E.Controller) (ls : Lives E) (l : Life E) (e : Ending E) (ms : Lives E)
      → AllLived T W A R c (ls ++ (l, e) ∷ ms) → AllLived T W A R c ls × Lived T W A R (left W R c ls) l
  over-lived c [] l e ms a = (tt, a.0.0)
  over-lived c (k ∷ ls) l e ms a = let r = over-lived (next W R c k) ls l e ms a.1 in ((a.0, r.0), r.1)

  pub moments : (c : E.Controller) → Moments T W A R c
  moments c =
      record {
        over = over-lived c;
        quiet = λ xs ys a. (first-quiet T xs ys a).0;
        heard = λ xs b ys s es l. heard-quiet c xs b ys s es l.1;
        then =
            λ o es more l.
            let a = subst (AllowedRun E T W A c (sender_by W R o)) (happened-more W R o es more) l.1 in
            let w = start E c (sender_by W R o) in
            (l.0, (always-append (step E W) (Allowed E T W A) w (happened W R o es) more a).0);
      }

module _ {E : Ends} {T : Terms E} {W : ℕ} {A : Ages} {R : Restarts E} {Sound : E.Controller → Type 0}
    {Start : E.Controller → E.Sender → Type 0} (F : Renews T W A R Sound Start)
    (laws : (c : E.Controller) (s : E.Sender) → Start c s → Laws E T W A c s) where
  -- quiet datagrams leave memory, and who is a start
  pub record Quieted (c c' : E.Controller) : Type 0 where
    pub sound : Sound c'
    pub memory : T.memory c' ≡ T.memory c
    pub starts : (s : E.Sender) → Start c' s → Start c s

  quieted : (c : E.Controller) (xs : Others E) → Sound c → AllQuiet T xs → Quieted c (quietly E c xs)
  quieted c [] h a = record { sound = h; memory = refl; starts = λ s b. b }
  quieted c (x ∷ xs) h a =
      let q = F.quiet h a.0.0 a.0.1 in
      let r = quieted (E.serve c x.1 x.0).0 xs q.0 a.1 in
      record { sound = r.sound; memory = r.memory ∙ q.1; starts = λ s b. q.2 s (r.starts s b) }

  -- "a discovery answer made since the last accepted request": nothing but quiet datagrams came in this life before it
  starts : (c : E.Controller) (o : Opening E) (es : List (Event E)) → Sound c → Lived T W A R c (begun o es)
      → Start c (sender_by W R o)
  starts c unasked es h l = F.unasked h l.0
  starts c (asking xs b ys s) es h l =
      let r = asked-quiet T W A R c xs b ys s es l.1 in
      let q = quieted c xs h r.0 in
      q.starts s (F.learns q.sound r.1 l.0.1 l.0.2)

  -- demand 3 in a life
  upon : (c : E.Controller) (o : Opening E) (es : List (Event E)) → Sound c → Lived T W A R c (begun o es)
      → Upon T W A R (T.memory c) (world W R c o es)
  upon c o es h l =
      let L = laws c _ (starts c o es h l) in
      let p = safety L (happened W R o es) l.1 in
      record { safe = p; part = safety-taken L (happened W R o es) l.1; whole = λ e. (whole p e).0 }

  -- A life leaves an allowed controller, and memory as its part makes it.
  pub record Leaves (c c' : E.Controller) (ds : List E.Message) : Type 0 where
    pub sound : Sound c'
    pub memory : T.memory c' ≡ made T (T.memory c) ds

  leaves : (c : E.Controller) (l : Life E) → Sound c → Lived T W A R c l → Leaves c (end_of W R c l) (part_of W R c l)
  leaves c (unheard xs) h a = let q = quieted c xs h a in record { sound = q.sound; memory = q.memory }
  leaves c (begun o es) h a =
      let u = upon c o es h a in
      record {
        sound = F.ends (happened W R o es) (starts c o es h a) a.1;
        memory = u.safe.memory ∙ ap (λ k. made T (T.memory c) (take k (world W R c o es).offered)) u.part;
      }

  -- and so does its end
  ended : (c : E.Controller) (l : Life E) (e : Ending E) → Sound c → Lived T W A R c l
      → Ended T W A R (end_of W R c l) e → Leaves c (next W R c (l, e)) (part_of W R c l)
  ended c l restart h a u = leaves c l h a
  ended c l (reset c') h a u =
      let q = leaves c l h a in
      let r = F.resets q.sound u in
      record { sound = r.0; memory = r.1 ∙ q.memory }

  pub all_sound : (c : E.Controller) (ls : Lives E) → Sound c → AllLived T W A R c ls → Sound (left W R c ls)
  all_sound c [] h a = h
  all_sound c ((l, e) ∷ ls) h a =
      all_sound (next W R c (l, e)) ls (ended c l e h a.0.0 a.0.1).sound a.1

  pub memory-of-lives : (c : E.Controller) → Sound c → MemoryOfLives T W A R c
  memory-of-lives c h [] l a b = (leaves c l h b).memory
  memory-of-lives c h ((k, e) ∷ ls) l a b =
      let p = ended c k e h a.0.0 a.0.1 in
      let d = next W R c (k, e) in
      memory-of-lives d p.sound ls l a.1 b
      ∙ ap (λ m. foldl (made T) m (parts W R d ls ++ part_of W R (left W R d ls) l ∷ [])) p.memory

  module _ (c : E.Controller) (sound : Sound c) where
    pub each-life : EachLife T W A R c
    each-life ls o es a l = upon (left W R c ls) o es (all_sound c ls sound a) l

    pub each-starts : EachStarts T W A R Start c
    each-starts ls o es a l = starts (left W R c ls) o es (all_sound c ls sound a) l

    pub life-begins : LifeBegins T W A R c
    life-begins ls xs b ys a h l k =
        let d = left W R c ls in
        let q = F.heard (quieted d xs (all_sound c ls sound a) h).sound l in
        (q.2, ((q.1, q.3, q.4), asks-allowed T W A R d xs b ys q.2 h (q.0, l) k))
