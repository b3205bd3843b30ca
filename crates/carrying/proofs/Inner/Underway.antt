-- A message on its way: what was done, and how what is left of it makes the whole. The proof of `carry` cites these. Assumes nothing.
use Prim.Native.Nat.{ℕ, ◌+◌, ◌-◌, ◌≤◌, ◌<◌}
use mathlib.Core.Path.{◌≡◌, refl, sym, ap, subst, ◌∙◌}
use mathlib.Core.Bool.{Bool, true, false, cond, false≢true}
use mathlib.Core.List.{List, [], ◌∷◌, ◌++◌, append_assoc, append-nil}
use Rattle.std.specs.Prelude.{Option, Some, None}
use native.Mathlib.Omega.{arith}
use lib.ListN.{length, get_or, length-append, length-take}
use Rattle.word.specs.Words.{words_of, Bytes}
use Rattle.word.proofs.Runs.{length-words}
use Rattle.header.specs.declared.Kind.{Kind}
use Rattle.header.specs.declared.Kind.TheVariants.{Nop, Write, Read, Response}
use Rattle.header.specs.Limits.{limit}
use Rattle.header.specs.Header.{kind_of, count_of, last_of, reply_words, body_words}
use Rattle.message.specs.Request.{Command, Request, Means, replies, none}
use Rattle.message.specs.Walk.{read}
use Rattle.message.proofs.Laws.Back.{written_read}
use Rattle.message.proofs.Laws.Standing.{Stands, stands-starts, Next, stands-next}
use Rattle.answer.specs.Answer.{Answered, answer_byte, answered_words, answer_words}
use Rattle.answer.proofs.Laws.Giving.{answered-is, answer-none, answer-more, replies-more}
use Rattle.memory.specs.Moves.{fails, moves_of, moves, after_moves, memory_after}
use Rattle.memory.proofs.Laws.Moving.{after-append, length-after}
use Rattle.memory.proofs.Laws.Promises.{moves-none, moves_more, memory-by}
use Rattle.carrying.specs.declared.carry.Task.{Task}
use Rattle.carrying.specs.declared.putting.Answer.{Answer}
use Rattle.carrying.specs.Answers.{ok_words, done, failed, answer_of, answers, answer_to, words_to}
use Rattle.carrying.specs.Putting.{Puts, Room}
use Rattle.carrying.specs.Carry.{goes_to, stops, command_at, Here, CarriesOne, CarriesHere, Carries}
use Rattle.carrying.proofs.Laws.Putting.{puts_none, puts-more, length-kept}

-- a command more of the list: where the message stops there, and where it goes on
module _ (kind : Kind) (mark byte : ℕ) (m : List ℕ) (c : Command) where
  abbrev m' : List ℕ
  m' = after_moves m (moves_of kind c)

  abbrev one : Answered
  one = answer_of kind mark m c

  stops-here : (cs : List Command) → cond (fails kind (length m) c) true (none cs) ≡ true
      → (after_moves m (cond (fails kind (length m) c) [] (moves_of kind c)) ≡ after_moves m (moves kind (length m) (c ∷ cs)))
      × (answered_words byte true one ≡ answer_words byte (answers kind mark m (c ∷ cs)))
  unfolding answers
  stops-here cs e = rw (moves_more kind (length m) c cs) (go (fails kind (length m) c) cs e)
    where
      alone : answered_words byte true one ≡ answer_words byte (one ∷ [])
      alone = sym (answer-more byte one [] ∙ rw (answer-none byte) (append-nil (answered_words byte true one)))

      go : (f : Bool) (cs : List Command) → cond f true (none cs) ≡ true
          → (after_moves m (cond f [] (moves_of kind c)) ≡ after_moves m (cond f [] (moves_of kind c ++ moves kind (length m) cs)))
          × (answered_words byte true one ≡ answer_words byte (one ∷ cond f [] (answers kind mark m' cs)))
      go true cs e = (refl, alone)
      go false [] e = (rw (moves-none kind (length m), append-nil (moves_of kind c)), alone)
      go false (d ∷ ds) e = absurd (false≢true e)

  goes_on : (cs : List Command) → none cs ≡ false → fails kind (length m) c ≡ false
      → (after_moves m' (moves kind (length m') cs) ≡ after_moves m (moves kind (length m) (c ∷ cs)))
      × (answered_words byte false one ++ answer_words byte (answers kind mark m' cs) ≡ answer_words byte (answers kind mark m (c ∷ cs)))
  unfolding answers
  goes_on [] e f = absurd (false≢true (sym e))
  goes_on (d ∷ ds) e f = (
    rw (moves_more kind (length m) c (d ∷ ds), f, length-after m (moves_of kind c)) (sym (after-append m (moves_of kind c) (moves kind (length m) (d ∷ ds)))),
    rw f (sym (answer-more byte one (answers kind mark m' (d ∷ ds)))),
  )

-- how a task follows from the request
pub record Tasked (t : Task) (r : Request) : Type 0 where
  pub byte0 : t.byte0 ≡ r.byte0
  pub kind : t.kind ≡ kind_of t.byte0
  pub answer : t.answer ≡ answer_byte t.byte0
  pub small : t.answer < 256

-- the commands `rest` are left, the words `before` of the answer are there, in the buffers that are lent
pub record Underway (t : Task) (r : Request) (m₀ : List ℕ) (a₀ : Answer) (m : List ℕ) (a : Answer) (at : ℕ) : Type 0 where
  pub tasked : Tasked t r
  pub room : Room a₀.stored.now a₀.output.now
  pub rest : List Command
  pub more : none rest ≡ false
  pub stands : Stands t.byte0 (words_of t.datagram.now) at rest
  pub within : a.words + replies t.byte0 rest ≤ limit
  pub before : List ℕ
  pub counted : length before ≡ a.words
  pub keep : a.keep ≡ a₀.keep
  pub puts : Puts a₀.keep 0 before a₀.stored.now a₀.output.now a.stored.now a.output.now
  pub memory : after_moves m (moves t.kind (length m) rest) ≡ memory_after r m₀
  pub whole : before ++ answer_words t.answer (answers t.kind t.mark m rest) ≡ words_to r t.mark m₀

pub starts : {t : Task} (r : Request) (m : List ℕ) (a : Answer) → Tasked t r → Room a.stored.now a.output.now → a.words ≡ 0 → Bytes t.datagram.now → read t.datagram.now ≡ Means r
    → Underway t r m a m a 0
unfolding words_to answer_to
starts {t} r m a k h z b e =
    let f = (written_read t.datagram.now r b e).0 in
    let q : t.kind ≡ kind_of r.byte0 = k.kind ∙ rw k.byte0 in
    record {
      tasked = k;
      room = h;
      rest = r.commands;
      more = f.asked.some;
      stands = rw k.byte0 (stands-starts t.datagram.now r b e);
      within = rw (k.byte0, z) (omega (arith, f.answer));
      before = [];
      counted = sym z;
      keep = refl;
      puts = puts_none a.keep 0 a.stored.now a.output.now;
      memory = rw (memory-by r m, q);
      whole = rw (k.answer, k.byte0, q);
    }

-- an answer is no longer than the OK answer
payload-le : (kind : Kind) (mark : ℕ) (m : List ℕ) (c : Command) → length (answer_of kind mark m c).payload ≤ reply_words kind c.count
unfolding answer_of
payload-le kind mark m c = go (fails kind (length m) c)
  where
    fine : (kind : Kind) → length (ok_words kind mark m c) ≤ reply_words kind c.count
    fine Nop = simp length-take (omega arith)
    fine Write = omega arith
    fine Read = simp length-take (omega arith)
    fine Response = omega arith

    go : (b : Bool) → length (cond b failed (done kind mark m c)).payload ≤ reply_words kind c.count
    go true = omega arith
    go false = fine kind

either-off : (a b : Bool) → cond a true b ≡ false → (a ≡ false) × (b ≡ false)
either-off true b e = absurd (false≢true (sym e))
either-off false b e = (refl, e)

-- the next command, and what follows it
record Turn (byte0 : ℕ) (ws : List ℕ) (at : ℕ) (rest : List Command) : Type 0 where
  pub c : Command
  pub cs : List Command
  pub is : rest ≡ c ∷ cs
  pub next : Next byte0 ws at c cs

turn_at : (byte0 : ℕ) (ws : List ℕ) (at : ℕ) (rest : List Command) → none rest ≡ false → Stands byte0 ws at rest → Turn byte0 ws at rest
turn_at byte0 ws at [] e s = absurd (false≢true (sym e))
turn_at byte0 ws at (c ∷ cs) e s = record { c = c; cs = cs; is = refl; next = stands-next byte0 ws at c cs s }

-- it is the one that the code reads
command-is : {byte0 : ℕ} {ws : List ℕ} {at : ℕ} {c : Command} {cs : List Command} → Next byte0 ws at c cs → command_at byte0 ws at ≡ c
command-is x = rw (x.byte1, x.count, x.address, x.payload)

-- where the message stops, and where it goes on
goes-none : (b : Bool) (next : ℕ) → goes_to b next ≡ None → b ≡ true
goes-none true next e = refl
goes-none false next e = cc

goes-some : (b : Bool) (next k : ℕ) → goes_to b next ≡ Some k → (b ≡ false) × (k ≡ next)
goes-some true next k e = cc
goes-some false next k e = (refl, cc)

module _ {t : Task} {r : Request} {m₀ m : List ℕ} {a₀ a : Answer} {at : ℕ} (g : Underway t r m₀ a₀ m a at) where
  abbrev ws : List ℕ
  ws = words_of t.datagram.now

  turn : Turn t.byte0 ws at g.rest
  turn = turn_at t.byte0 ws at g.rest g.more g.stands

  left : a.words + (1 + reply_words (kind_of t.byte0) turn.c.count + replies t.byte0 turn.cs) ≤ limit
  left = rw (← replies-more t.byte0 turn.c turn.cs, ← turn.is) g.within

  pub here-at : Here t at a
  here-at =
      let x = turn.next in
      let few : length g.before ≤ limit = omega (arith, left, g.counted) in
      let s = length-kept a₀.keep a₀.stored.now 0 g.before (omega (arith, g.room.stored)) in
      let o = length-words a₀.output.now 0 g.before (omega (arith, g.room.output)) in
      record {
        kind = g.tasked.kind;
        byte = g.tasked.small;
        counted = rw x.count x.fits.counted;
        inside = rw x.count x.inside;
        room = rw x.count (omega (arith, left));
        buffers = record { stored = rw g.puts.stored (omega (arith, s, g.room.stored)); output = rw g.puts.output (omega (arith, o, g.room.output)) };
      }

  -- the command that was carried out
  abbrev now-done : Option ℕ → List ℕ → Answer → Type 0
  now-done on m' b = CarriesOne t turn.c (none turn.cs) (at + 1 + body_words t.byte0 turn.c.count) m a on m' b

  module _ {on : Option ℕ} {m' : List ℕ} {b : Answer} (x : CarriesHere t at m a on m' b) where
    did : now-done on m' b
    did =
        let y = turn.next in
        let z = subst (λ (k : Command). CarriesOne t k (last_of (get_or ws at 0)) (at + 1 + body_words t.byte0 (count_of (get_or ws at 0))) m a on m' b) (command-is y) x in
        rw (y.last, y.count) at z

    abbrev own : Answered
    own = answer_of t.kind t.mark m turn.c

    abbrev stop : Bool
    stop = stops t turn.c (none turn.cs) m

    abbrev F : List ℕ
    F = answered_words t.answer stop own

    F-long : length F ≡ 1 + length own.payload
    F-long = rw (answered-is t.answer stop own) (omega arith)

    own-short : length own.payload ≤ reply_words (kind_of t.byte0) turn.c.count
    own-short = rw (← g.tasked.kind) (payload-le t.kind t.mark m turn.c)

    counted : length (g.before ++ F) ≡ b.words
    counted = simp length-append (omega (arith, did.adds.words, g.counted))

    put : Puts a₀.keep 0 (g.before ++ F) a₀.stored.now a₀.output.now b.stored.now b.output.now
    put = puts-more g.puts (subst (λ (k : Bool). Puts k a.words F a.stored.now a.output.now b.stored.now b.output.now) g.keep did.adds.puts) (omega (arith, g.counted)) (omega (arith, F-long, own-short, left, g.counted, g.room.stored))
        (omega (arith, F-long, own-short, left, g.counted, g.room.output))

    pub short : b.words ≤ limit
    short = omega (arith, did.adds.words, F-long, own-short, left)

    memory : after_moves m (moves t.kind (length m) (turn.c ∷ turn.cs)) ≡ memory_after r m₀
    memory = rw (← turn.is) g.memory

    whole : g.before ++ answer_words t.answer (answers t.kind t.mark m (turn.c ∷ turn.cs)) ≡ words_to r t.mark m₀
    whole = rw (← turn.is) g.whole

    pub ends : on ≡ None → Carries r t.mark a₀.keep m₀ a₀.stored.now a₀.output.now b.words m' b.stored.now b.output.now
    ends e =
        let z = goes-none stop _ (sym did.goes ∙ e) in
        let p = stops-here t.kind t.mark t.answer m turn.c turn.cs z in
        let w : g.before ++ F ≡ words_to r t.mark m₀ = ap (λ (l : List ℕ). g.before ++ l) (ap (λ (v : Bool). answered_words t.answer v own) z ∙ p.1) ∙ whole in
        record { words = sym counted ∙ ap length w; memory = did.memory ∙ p.0 ∙ memory; puts = rw (← w) put }

    pub goes : (next : ℕ) → on ≡ Some next → Underway t r m₀ a₀ m' b next
    goes next e =
        let z = goes-some stop _ next (sym did.goes ∙ e) in
        let q = either-off (fails t.kind (length m) turn.c) (none turn.cs) z.0 in
        let p = goes_on t.kind t.mark t.answer m turn.c turn.cs q.1 q.0 in
        let m'-is : m' ≡ after_moves m (moves_of t.kind turn.c) = did.memory ∙ rw q.0 in
        record {
          tasked = g.tasked;
          room = g.room;
          rest = turn.cs;
          more = q.1;
          stands = rw z.1 turn.next.on;
          within = omega (arith, did.adds.words, F-long, own-short, left);
          before = g.before ++ F;
          counted = counted;
          keep = did.adds.keep ∙ g.keep;
          puts = put;
          memory = rw m'-is (p.0 ∙ memory);
          whole =
              append_assoc g.before F _
              ∙ rw m'-is (ap (λ (v : Bool). g.before ++ (answered_words t.answer v own ++ answer_words t.answer (answers t.kind t.mark (after_moves m (moves_of t.kind turn.c)) turn.cs))) z.0)
              ∙ ap (λ (l : List ℕ). g.before ++ l) p.1 ∙ whole;
        }

    pub nearer : (next : ℕ) → on ≡ Some next → length ws - next < length ws - at
    nearer next e = let z = goes-some stop _ next (sym did.goes ∙ e) in omega (arith, z.1, turn.next.here)

-- the same of the buffers that were lent to the answer
pub carried : {r : Request} {mark : ℕ} {keep : Bool} {m s o : List ℕ} {n : ℕ} {m' s' o' s'' o'' : List ℕ} → Carries r mark keep m s o n m' s' o' → s'' ≡ s' → o'' ≡ o' → Carries r mark keep m s o n m' s'' o''
carried x e f = rw (e, f) x
