-- One command: what is known where it stands, and what each way of carrying it out comes to. The proofs of `carrying` cite these.
-- Assumes nothing.
use Prim.Native.Nat.{ℕ, ◌+◌, ◌*◌, ◌/◌, ◌≤◌}
use mathlib.Core.Path.{◌≡◌, sym, ap, ◌∙◌}
use mathlib.Core.Bool.{Bool, true, false, false≢true}
use mathlib.Core.List.{List, [], ◌∷◌}
use Rattle.std.specs.Prelude.{Option, None}
use native.Mathlib.Omega.{arith}
use borrow.Author.Tests.{leb-true}
use lib.ListN.{length, get_or, take, drop, length-drop}
use lib.Seq.{length-take-le}
use Rattle.word.specs.Words.{words_of}
use Rattle.word.proofs.Crossing.{length-words_of}
use Rattle.header.specs.declared.Kind.{Kind}
use Rattle.header.specs.declared.Kind.TheVariants.{Nop, Write, Read, Response}
use Rattle.header.specs.Limits.{limit}
use Rattle.header.specs.Header.{kind_of, first_field, last_field, count_of, last_of, header_from, address_words, data_words, reply_words}
use Rattle.message.specs.Faults.{count_ok}
use Rattle.message.specs.Request.{Command}
use Rattle.answer.specs.declared.Status.TheVariants.{Error}
use Rattle.answer.specs.Answer.{code_of}
use Rattle.answer.proofs.Laws.Giving.{answered-is}
use Rattle.memory.specs.Moves.{outside, fails, stores, moves_of, after_moves}
use Rattle.memory.proofs.Laws.Moving.{within, command-quiet, after_none}
use Rattle.carrying.specs.declared.carry.Task.{Task}
use Rattle.carrying.specs.declared.putting.Answer.{Answer}
use Rattle.carrying.specs.Answers.{advertisement, ok_words, answer_of}
use Rattle.carrying.specs.Putting.{Adds, RoomFor}
use Rattle.carrying.specs.Carry.{goes_to, command_at, Here, CarriesOne, CarriesHere}
use Rattle.carrying.proofs.Laws.Putting.{adds-more}

-- what is known of a count, by kind
abbrev pub Counted : Kind → ℕ → Type 0
Counted Nop count = count ≤ 2
Counted Write count = 1 ≤ count
Counted Read count = 1 ≤ count
Counted Response count = ⊥

counted_is : (kind : Kind) (count : ℕ) → count_ok kind count ≡ true → Counted kind count
counted_is Nop count e = leb-true count 2 e
counted_is Write count e = leb-true 1 count e
counted_is Read count e = leb-true 1 count e
counted_is Response count e = false≢true e

-- a header with the count and LAST of the request's header h
pub adds-asked : {count : ℕ} {last : Bool} {a b : Answer} (byte h : ℕ) → count ≡ count_of h → last ≡ last_of h
    → Adds (header_from byte 0 (count_of h) (last_of h) ∷ []) a b → Adds (header_from byte 0 count last ∷ []) a b
adds-asked byte h e l p = rw (e, l) p

-- room for n words more
pub room-for : {t : Task} {at : ℕ} {a : Answer} (n : ℕ) → Here t at a → a.words + n ≤ limit → RoomFor n a
room-for n h few = record { few = few; stored = omega (arith, h.buffers.stored); output = omega (arith, h.buffers.output) }

pub room-one : {t : Task} {at : ℕ} {a : Answer} → Here t at a → RoomFor 1 a
room-one h = room-for 1 h (omega (arith, h.room))

-- where a command of this kind and count stands, its body is inside the datagram and its answer within the limit
pub record Fitting (kind : Kind) (dg : List ℕ) (byte0 at n count : ℕ) : Type 0 where
  pub counted : Counted kind count
  pub body : 4 * (at + 1 + (address_words byte0 + data_words kind count)) ≤ length dg
  pub room : n + 1 + reply_words kind count ≤ limit

pub fitting : {t : Task} {at : ℕ} {a : Answer} {count : ℕ} {kind : Kind} → Here t at a → t.kind ≡ kind → count ≡ count_of (get_or (words_of t.datagram.now) at 0)
    → Fitting kind t.datagram.now t.byte0 at a.words count
fitting {t} {at} {a} {count} {kind} h k e =
    let q : kind_of t.byte0 ≡ kind = sym h.kind ∙ k in
    let i : at + 1 + (address_words t.byte0 + data_words kind count) ≤ length (words_of t.datagram.now) = rw (← q, e) h.inside in
    record { counted = counted_is kind count (rw (← q, e) h.counted); body = omega (arith, length-words_of t.datagram.now); room = rw (← q, e) h.room }

-- the same of its header as it was read, and of the count in that
pub fitting_read : {t : Task} {at : ℕ} {a : Answer} {h count : ℕ} {kind : Kind} → Here t at a → t.kind ≡ kind
    → count ≡ count_of h → h ≡ get_or (words_of t.datagram.now) at 0 → Fitting kind t.datagram.now t.byte0 at a.words count
fitting_read here k e w = fitting here k (e ∙ ap count_of w)

-- a command that fails, and one that is done
module _ (t : Task) (c : Command) (last : Bool) (behind : ℕ) (m : List ℕ) (a : Answer) where
  one-failed : {b : Answer} → fails t.kind (length m) c ≡ true → Adds (header_from t.answer (code_of Error) 0 true ∷ []) a b
      → CarriesOne t c last behind m a None m b
  unfolding answer_of
  one-failed f x = record { goes = rw f; memory = rw f (sym (after_none m)); adds = rw (f, answered-is) x }

  one-done : {m' : List ℕ} {b : Answer} {next : ℕ} → fails t.kind (length m) c ≡ false → next ≡ behind → m' ≡ after_moves m (moves_of t.kind c)
      → Adds (header_from t.answer 0 (length (ok_words t.kind t.mark m c)) last ∷ ok_words t.kind t.mark m c) a b
      → CarriesOne t c last behind m a (goes_to last next) m' b
  unfolding answer_of
  one-done f n e x = record { goes = rw (f, n); memory = rw f e; adds = rw (f, answered-is) x }

-- the same of the command at word `at`, by kind and by what the code has read of it
module _ {t : Task} {at : ℕ} (m : List ℕ) {a : Answer} (h : Here t at a) where
  abbrev ws : List ℕ
  ws = words_of t.datagram.now

  abbrev c : Command
  c = command_at t.byte0 ws at

  abbrev At : Option ℕ → List ℕ → Answer → Type 0
  At on m' b = CarriesHere t at m a on m' b

  -- what the test of a range told
  tested : {count address : ℕ} {b v : Bool} → count ≡ c.count → address ≡ c.address → b ≡ outside (length m) address count → b ≡ v
      → outside (length m) c.address c.count ≡ v
  tested e a f z = rw (← e, ← a) (sym f ∙ z)

  pub failed-there : (kind : Kind) {b : Answer} {count address : ℕ} {v : Bool} → t.kind ≡ kind
      → fails kind (length m) c ≡ outside (length m) c.address c.count → count ≡ c.count → address ≡ c.address
      → v ≡ outside (length m) address count → v ≡ true → Adds (header_from t.answer (code_of Error) 0 true ∷ []) a b → At None m b
  failed-there kind k q e d f z x = one-failed t c (last_of (get_or ws at 0)) _ m a (rw k (q ∙ tested e d f z)) x

  pub did-nop : {a₁ b : Answer} {count : ℕ} {last : Bool} → t.kind ≡ Nop → count ≡ c.count → last ≡ last_of (get_or ws at 0)
      → Adds (header_from t.answer 0 count last ∷ []) a a₁ → Adds (take count (advertisement t.mark)) a₁ b
      → At (goes_to last (at + 1 + count)) m b
  did-nop k e l p q =
      let g = fitting h k e in
      let kd : kind_of t.byte0 ≡ Nop = sym h.kind ∙ k in
      let x : ok_words t.kind t.mark m c ≡ take c.count (advertisement t.mark) = rw k in
      let z : length (take c.count (advertisement t.mark)) ≡ c.count = length-take-le c.count (advertisement t.mark) (rw e at g.counted) in
      let few : a.words + (1 + c.count) ≤ limit = omega (arith, g.room, e) in
      let p' = adds-more (rw (e, l) at p) (rw e at q) (rw z (room-for _ h few)) in
      rw (l, e) (one-done t c (last_of (get_or ws at 0)) _ m a (rw k) (rw kd (omega arith)) (rw k (sym (command-quiet Nop m c (λ w. k-differs w)))) (rw (x, z) p'))
    where
      k-differs : Nop ≡ Write → ⊥
      k-differs w = cc

  pub did_write : {m' : List ℕ} {b : Answer} {count address byte1 from next : ℕ} {last v : Bool} → t.kind ≡ Write → count ≡ c.count → address ≡ c.address
      → v ≡ outside (length m) address count → v ≡ false → last ≡ last_of (get_or ws at 0) → byte1 ≡ c.byte1 → from ≡ at + 1 + address_words t.byte0 → next ≡ from + count
      → Adds (header_from t.answer 0 0 last ∷ []) a b
      → m' ≡ after_moves m (stores (address / 4) (first_field byte1) (last_field byte1) (take count (drop from ws)))
      → At (goes_to last next) m' b
  did_write k e d f z l y fr nx p mv =
      let kd : kind_of t.byte0 ≡ Write = sym h.kind ∙ k in
      let x : fails t.kind (length m) c ≡ false = rw k (tested e d f z) in
      rw l (one-done t c (last_of (get_or ws at 0)) _ m a x (nx ∙ rw (fr, e, kd) (omega arith)) (mv ∙ rw (d, y, e, fr, k, kd)) (rw k (rw l at p)))

  pub did_read : {data' : List ℕ} {a₁ b : Answer} {count address next : ℕ} {last v : Bool} → t.kind ≡ Read → count ≡ c.count → address ≡ c.address
      → v ≡ outside (length m) address count → v ≡ false → last ≡ last_of (get_or ws at 0) → next ≡ at + 1 + address_words t.byte0
      → Adds (header_from t.answer 0 count last ∷ []) a a₁
      → data' ≡ take count (drop (address / 4) m) → Adds data' a₁ b
      → At (goes_to last next) m b
  did_read k e d f z l nx p y q =
      let g = fitting h k e in
      let kd : kind_of t.byte0 ≡ Read = sym h.kind ∙ k in
      let x : fails t.kind (length m) c ≡ false = rw k (tested e d f z) in
      let i = within (length m) c.address c.count (tested e d f z) in
      let w : ok_words t.kind t.mark m c ≡ take c.count (drop (c.address / 4) m) = rw k in
      let u : length (take c.count (drop (c.address / 4) m)) ≡ c.count = length-take-le c.count (drop (c.address / 4) m) (simp length-drop (omega arith)) in
      let few : a.words + (1 + c.count) ≤ limit = omega (arith, g.room, e) in
      let p' = adds-more (rw (e, l) at p) (rw (y, e, d) at q) (rw u (room-for _ h few)) in
      rw l (one-done t c (last_of (get_or ws at 0)) _ m a x (nx ∙ rw kd (omega arith)) (rw k (sym (command-quiet Read m c (λ w. k-differs w)))) (rw (w, u) p'))
    where
      k-differs : Read ≡ Write → ⊥
      k-differs w = cc
