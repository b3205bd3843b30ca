-- An answer beside its request, as the loop of `look_through` goes: what was told so far and what is still to come make the whole.
-- Assumes nothing.
use Prim.Native.Nat.{ℕ, zero, suc, ◌+◌, ◌<◌, ◌≤◌}
use mathlib.Core.Path.{◌≡◌, refl, sym, ap, ◌∙◌}
use mathlib.Core.Bool.{Bool, true, false, cond, false≢true}
use mathlib.Core.List.{List, [], ◌∷◌}
use native.Mathlib.Omega.{arith}
use native.Mathlib.Nat.{add-zero}
use borrow.Author.Tests.{eq-eqb, ne_eqb}
use lib.Dec.{eqb}
use lib.ListN.{length, get_or, take, drop}
use Rattle.word.specs.Words.{words_of}
use Rattle.word.proofs.Crossing.{length-words_of}
use Rattle.header.specs.declared.Kind.{Kind}
use Rattle.header.specs.declared.refusal.Refusal.{Refusal}
use Rattle.header.specs.Limits.{limit, limit_bytes}
use Rattle.header.specs.Header.{kind_of, count_of, body_words}
use Rattle.message.specs.Request.{Command, Reading, Refused, Means, before, none, given}
use Rattle.message.specs.Walk.{read}
use Rattle.message.proofs.Laws.Back.{written_read}
use Rattle.message.proofs.Laws.Standing.{Stands, Next, stands-starts, stands-next}
use Rattle.answer.specs.declared.Status.{Status}
use Rattle.answer.specs.declared.Seen.{Seen}
use Rattle.answer.specs.Answer.{Answered, look_at, look_turn, answers_from}
use Rattle.answer.proofs.Laws.Looking.{looked, Found, found}
use Rattle.std.specs.Prelude.{None, Some, Ok, Err, Result}
use Rattle.initiator.specs.declared.outcome.Outcome.{Outcome}
use Rattle.initiator.specs.Outcome.{ending_at, part_of, part_at, empty, told_of}
use Rattle.initiator.specs.Telling.{counting, with_item, look_beside, Ready, answers_to}

module _ (k : ℕ) (kind : Kind) where
  -- what was told, with the answers still to come, the first of them at word `back`
  gather : ℕ → Outcome → List Answered → Outcome
  gather back told [] = told
  gather back told (a ∷ more) = gather (back + 1 + length a.payload) (with_item told k kind back a.status (length a.payload)) more

  pub gathered : ℕ → Outcome → Reading (List Answered) → Result Outcome Refusal
  gathered back told p = given (gather back told) p

  -- past command k, only the count moves
  after : (items : List Answered) (back : ℕ) (told : Outcome) → k < told.count
      → gather back told items ≡ record { count = told.count + length items; ending = told.ending; part = told.part }
  unfolding gather with_item
  after [] back told h = rw (add-zero told.count)
  after (a ∷ more) back told h =
      let e : told.count + 1 + length more ≡ told.count + suc (length more) = omega arith in
      rw (ne_eqb told.count k (omega arith)) (after more _ _ (omega arith) ∙ rw e)

-- nothing told yet of command k
abbrev pub blank : ℕ → Outcome
blank i = record { count = i; ending = None; part = empty }

module _ (kind : Kind) where
  upto : (items : List Answered) (j i back : ℕ)
      → gather (i + j) kind back (blank i) items
      ≡ record { count = i + length items; ending = ending_at j items; part = part_at kind j back items }
  unfolding gather with_item ending_at part_at
  upto [] zero i back = rw (add-zero i)
  upto [] (suc j) i back = rw (add-zero i)
  upto (a ∷ more) zero i back =
      let e : i + 1 + length more ≡ i + suc (length more) = omega arith in
      rw (eq-eqb i (i + 0) (omega arith)) (after (i + 0) kind more _ _ (omega arith) ∙ rw e)
  upto (a ∷ more) (suc j) i back =
      let e : i + 1 + j ≡ i + suc j = omega arith in
      let f : i + 1 + length more ≡ i + suc (length more) = omega arith in
      rw (ne_eqb i (i + suc j) (omega arith)) (rw (e, f) at (upto more j (i + 1) (back + 1 + length a.payload)))

  pub gathered-all : (k : ℕ) (p : Reading (List Answered)) → gathered k kind 0 (blank 0) p ≡ given (told_of kind k) p
  unfolding gathered told_of
  gathered-all k (Refused r) = refl
  gathered-all k (Means items) =
      let z : 0 + k ≡ k = omega arith in
      let n : 0 + length items ≡ length items = omega arith in
      ap Ok (rw (n, z) at (upto items k 0 0))

-- an answer before those behind it
gathered-before : (k : ℕ) (kind : Kind) (back : ℕ) (told : Outcome) (a : Answered) (p : Reading (List Answered))
    → gathered k kind back told (before a p) ≡ gathered k kind (back + 1 + length a.payload) (with_item told k kind back a.status (length a.payload)) p
unfolding gathered gather
gathered-before k kind back told a (Refused r) = refl
gathered-before k kind back told a (Means items) = refl

counts : (told : Outcome) (k : ℕ) (kind : Kind) (at : ℕ) (status : Status) (count : ℕ) → (with_item told k kind at status count).count ≡ told.count + 1
unfolding with_item
counts told k kind at status count = go (eqb told.count k)
  where
    go : (b : Bool) → (cond b (counting told (Some status) (part_of kind status at count)) (counting told told.ending told.part)).count ≡ told.count + 1
    go true = refl
    go false = refl

split : (cs : List Command) → none cs ≡ false → (d : Command) × (ds : List Command) × (cs ≡ d ∷ ds)
split [] e = absurd (false≢true (sym e))
split (d ∷ ds) e = (d, ds, refl)

-- the loop's place: commands still to come, and the whole
pub record Sides (asked : List ℕ) (byte0 : ℕ) (ws : List ℕ) (at back k : ℕ) (told : Outcome) (whole : Result Outcome Refusal) : Type 0 where
  pub command : Command
  pub behind : List Command
  pub stands : Stands byte0 asked at (command ∷ behind)
  pub counted : told.count ≤ back
  pub within : back ≤ length ws
  pub most : length ws ≤ limit
  pub same : gathered k (kind_of byte0) back told (answers_from byte0 back (command ∷ behind) (drop back ws)) ≡ whole

-- an accepted request's first command, and its answers from their first word on
pub sides-starts : (request answer : List ℕ) (byte0 k : ℕ) → Ready request byte0 → length answer ≤ limit_bytes
    → Sides (words_of request) byte0 (words_of answer) 0 0 k (blank 0) (given (told_of (kind_of byte0) k) (answers_to (read request) (words_of answer)))
sides-starts request answer byte0 k y h =
    let r = y.meaning in
    let n = split r.commands (written_read request r y.bytes y.is).0.asked.some in
    record {
      command = n.0;
      behind = n.1;
      stands = rw (y.first, ← n.2) (stands-starts request r y.bytes y.is);
      counted = omega arith;
      within = omega arith;
      most = omega (arith, length-words_of answer);
      same = rw (y.is, ← n.2, y.first) (gathered-all (kind_of r.byte0) k (answers_from r.byte0 0 r.commands (words_of answer)));
    }

module _ {asked : List ℕ} {byte0 : ℕ} {ws : List ℕ} {at back k : ℕ} {told : Outcome} {whole : Result Outcome Refusal} (g : Sides asked byte0 ws at back k told whole) where
  pub next : Next byte0 asked at g.command g.behind
  next = stands-next byte0 asked at g.command g.behind g.stands

  -- the header that was looked at is the answer to this command
  look_is : (l : Result Seen Refusal) → look_beside asked ws byte0 at back ≡ l → look_at byte0 g.command.count (none g.behind) ws back ≡ l
  unfolding look_beside
  look_is l e = rw (next.count, next.last) at e

  on : gathered k (kind_of byte0) back told
      (look_turn (look_at byte0 g.command.count (none g.behind) ws back) (drop (back + 1) ws) (λ n. answers_from byte0 (back + 1 + n) g.behind (drop (back + 1 + n) ws)))
      ≡ whole
  on = ap (gathered k (kind_of byte0) back told) (sym (looked byte0 g.command g.behind ws back)) ∙ g.same

  pub sides-bad : (r : Refusal) → look_beside asked ws byte0 at back ≡ Err r → Err r ≡ whole
  unfolding gathered
  sides-bad r e = rw (look_is (Err r) e) at on

  module _ (s : Seen) (e : look_beside asked ws byte0 at back ≡ Ok s) where
    pub sides-found : Found byte0 g.command.count (none g.behind) ws back s
    sides-found = found byte0 g.command.count (none g.behind) ws back s (look_is (Ok s) e)

    abbrev new : Outcome
    new = with_item told k (kind_of byte0) back s.status s.count

    abbrev item : Answered
    item = record { status = s.status; payload = take s.count (drop (back + 1) ws) }

    -- the whole, one answer on
    turned : gathered k (kind_of byte0) back told (cond s.last (Means (item ∷ [])) (before item (answers_from byte0 (back + 1 + s.count) g.behind (drop (back + 1 + s.count) ws)))) ≡ whole
    turned = rw (look_is (Ok s) e) at on

    pub sides-last : s.last ≡ true → Ok new ≡ whole
    unfolding gathered gather
    sides-last l = rw (l, sides-found.long) at turned

    sides-on : s.last ≡ false → Sides asked byte0 ws (at + 1 + body_words byte0 g.command.count) (back + 1 + s.count) k new whole
    sides-on l =
        let n = split g.behind (sides-found.more l) in
        record {
          command = n.0;
          behind = n.1;
          stands = rw n.2 at next.on;
          counted = omega (arith, g.counted, counts told k (kind_of byte0) back s.status s.count);
          within = sides-found.within;
          most = g.most;
          same =
              let p = answers_from byte0 (back + 1 + s.count) g.behind (drop (back + 1 + s.count) ws) in
              let t : gathered k (kind_of byte0) (back + 1 + length item.payload) (with_item told k (kind_of byte0) back s.status (length item.payload)) p ≡ whole =
              sym (gathered-before k (kind_of byte0) back told item p) ∙ rw l at turned in
              rw (← n.2) (rw sides-found.long at t);
        }

    -- the same, with the numbers as the code has them
    pub sides-next : {n : ℕ} {o : Outcome} → n ≡ body_words byte0 (count_of (get_or asked at 0)) → o ≡ new → s.last ≡ false
        → Sides asked byte0 ws (at + (1 + n)) (back + (1 + s.count)) k o whole
    sides-next {n} e d l =
        let a : at + (1 + n) ≡ at + 1 + n = omega arith in
        let b : back + (1 + s.count) ≡ back + 1 + s.count = omega arith in
        rw (a, b, e, d, next.count) (sides-on l)
