-- An answer by positions, as a loop beside its request goes. Whoever takes an answer cites these. Assumes nothing.
use Prim.Native.Nat.{ℕ, ◌+◌, ◌-◌, ◌<◌, ◌≤◌}
use mathlib.Core.Path.{◌≡◌, refl, sym, ap, ◌∙◌}
use mathlib.Core.Bool.{Bool, true, false, cond}
use mathlib.Core.List.{List, [], ◌∷◌}
use native.Mathlib.Omega.{arith}
use native.Mathlib.Numerals.{add-one}
use borrow.Author.Tests.{eqb-true, eqb-false, ltb-true, ltb-false, eq-eqb}
use lib.Dec.{ltb, eqb}
use lib.ListN.{length, get_or, take, drop, length-drop, drop_of_length-le}
use lib.Seq.{drop-cons, drop-drop, length-take-le}
use Rattle.word.specs.Words.{words_of}
use Rattle.header.specs.Header.{count_of, last_of, byte1_of}
use Rattle.header.specs.declared.refusal.Refusal.{Refusal}
use Rattle.header.specs.Refusal.{refused_at, refusal, unless}
use Rattle.header.specs.Limits.{length_ok}
use Rattle.header.proofs.Laws.Limits.{right}
use Rattle.message.specs.Request.{Command, Request, Reading, Refused, Means, before, none}
use Rattle.message.proofs.Laws.Faults.{past}
use Rattle.answer.specs.declared.Seen.{Seen}
use Rattle.std.specs.Prelude.{Ok, Err, Result}
use Rattle.answer.specs.Answer.{Answered, status_no, answer_byte, wanted, answer_fault, seen_of, look_on, look_at, look_turn, answers_from, head_fault, judge}
use Rattle.answer.proofs.Laws.Heads.{stops-clear, fair}

-- a datagram of a right length has a byte
pub some_bytes : (n : ℕ) → length_ok n ≡ true → 0 < n
some_bytes n e = (right n e).some

-- a look whose words behind it answer the same
look-same : (l : Result Seen Refusal) (rest : List ℕ) (f g : ℕ → Reading (List Answered)) → ((n : ℕ) → f n ≡ g n) → look_turn l rest f ≡ look_turn l rest g
look-same (Err r) rest f g h = refl
look-same (Ok s) rest f g h = rw (h s.count)

-- the answer to the next command, at its position
pub looked : (byte0 : ℕ) (c : Command) (cs : List Command) (ws : List ℕ) (at : ℕ)
    → answers_from byte0 at (c ∷ cs) (drop at ws)
    ≡ look_turn (look_at byte0 c.count (none cs) ws at) (drop (at + 1) ws) (λ n. answers_from byte0 (at + 1 + n) cs (drop (at + 1 + n) ws))
unfolding answers_from look_at
looked byte0 c cs ws at = go (ltb at (length ws)) refl
  where
    go : (b : Bool) → ltb at (length ws) ≡ b
        → answers_from byte0 at (c ∷ cs) (drop at ws)
        ≡ look_turn (cond b (look_on byte0 c.count (none cs) at (get_or ws at 0) (length ws - at - 1)) (Err (refused_at 35 at))) (drop (at + 1) ws) (λ n. answers_from byte0 (at + 1 + n) cs (drop (at + 1 + n) ws))
    go false z = rw (drop_of_length-le ws (ltb-false at (length ws) z))
    go true z =
        let l = ltb-true at (length ws) z in
        let e1 : drop at ws ≡ get_or ws at 0 ∷ drop (at + 1) ws = rw add-one (drop-cons ws at 0 l) in
        let e2 : length (drop (at + 1) ws) ≡ length ws - at - 1 = length-drop (at + 1) ws ∙ omega arith in
        rw (e1, e2)
        (look-same (look_on byte0 c.count (none cs) at (get_or ws at 0) (length ws - at - 1)) _ _ _ (λ n. ap (answers_from byte0 (at + 1 + n) cs) (drop-drop n (at + 1) ws)))

-- an answer that was read, at its position
pub record Found (byte0 count : ℕ) (last : Bool) (ws : List ℕ) (at : ℕ) (s : Seen) : Type 0 where
  pub here : at < length ws
  pub within : at + 1 + s.count ≤ length ws
  pub small : s.count < 4096
  pub counted : s.count ≡ wanted byte0 count s.status
  pub long : length (take s.count (drop (at + 1) ws)) ≡ s.count
  pub more : s.last ≡ false → last ≡ false

pub found : (byte0 count : ℕ) (last : Bool) (ws : List ℕ) (at : ℕ) (s : Seen) → look_at byte0 count last ws at ≡ Ok s → Found byte0 count last ws at s
unfolding look_at look_on seen_of
found byte0 count last ws at s e = go (ltb at (length ws)) refl (eqb (answer_fault byte0 count last (get_or ws at 0) (length ws - at - 1)) 0) refl e
  where
    go : (a : Bool) → ltb at (length ws) ≡ a → (b : Bool) → eqb (answer_fault byte0 count last (get_or ws at 0) (length ws - at - 1)) 0 ≡ b
        → cond a (cond b (Ok (seen_of (get_or ws at 0))) (Err (refused_at (answer_fault byte0 count last (get_or ws at 0) (length ws - at - 1)) at))) (Err (refused_at 35 at)) ≡ Ok s
        → Found byte0 count last ws at s
    go false z b y e = cc
    go true z false y e = cc
    go true z true y e =
        let l = ltb-true at (length ws) z in
        let f = fair byte0 count last (get_or ws at 0) (length ws - at - 1) (eqb-true _ _ y) in
        let is : seen_of (get_or ws at 0) ≡ s = cc in
        let n : count_of (get_or ws at 0) ≡ s.count = ap (λ (x : Seen). x.count) is in
        let q : last_of (get_or ws at 0) ≡ s.last = ap (λ (x : Seen). x.last) is in
        let w : at + 1 + s.count ≤ length ws = omega (arith, f.within) in
        record {
          here = l;
          within = w;
          small = omega arith;
          counted = sym n ∙ f.counted ∙ ap (wanted byte0 count) (ap (λ (x : Seen). x.status) is);
          long = length-take-le s.count (drop (at + 1) ws) (rw length-drop (omega arith));
          more = λ x. (stops-clear (status_no (byte1_of (get_or ws at 0))) last (sym f.stopped ∙ q ∙ x)).1;
        }

-- a judged answer by its length and its byte 0
pub judge-long : (r : Request) (dg : List ℕ) → length_ok (length dg) ≡ false → judge r dg ≡ Refused (refusal 32)
unfolding judge
judge-long r dg e = rw e

pub judge-whole : (r : Request) (dg : List ℕ) → length_ok (length dg) ≡ true → get_or dg 0 0 ≡ answer_byte r.byte0 → judge r dg ≡ answers_from r.byte0 0 r.commands (words_of dg)
unfolding judge
judge-whole r dg l e = rw (l, eq-eqb _ _ e)

-- no refusal of an answer is 0
abbrev pub Some : {A : Type 0} → Reading A → Type 0
Some (Refused r) = 0 < r.number
Some (Means a) = Unit {0}

some-before : {A : Type 0} (a : A) (p : Reading (List A)) → Some p → Some (before a p)
some-before a (Refused r) h = h
some-before a (Means x) h = tt

some-last : {A : Type 0} (b : Bool) (x : A) (p : Reading A) → Some p → Some (cond b (Means x) p)
some-last true x p h = tt
some-last false x p h = h

answers-some : (byte0 at : ℕ) (cs : List Command) (ws : List ℕ) → Some (answers_from byte0 at cs ws)
unfolding answers_from look_on seen_of
answers-some byte0 at [] ws = omega arith
answers-some byte0 at (c ∷ cs) [] = omega arith
answers-some byte0 at (c ∷ cs) (h ∷ rest) = go (λ n. answers-some byte0 (at + 1 + n) cs (drop n rest)) (eqb (answer_fault byte0 c.count (none cs) h (length rest)) 0) refl
  where
    go : ((n : ℕ) → Some (answers_from byte0 (at + 1 + n) cs (drop n rest))) → (b : Bool) → eqb (answer_fault byte0 c.count (none cs) h (length rest)) 0 ≡ b
        → Some (look_turn (cond b (Ok (seen_of h)) (Err (refused_at (answer_fault byte0 c.count (none cs) h (length rest)) at))) rest (λ n. answers_from byte0 (at + 1 + n) cs (drop n rest)))
    go ih false z = let n = eqb-false (answer_fault byte0 c.count (none cs) h (length rest)) 0 z in omega arith
    go ih true z = some-last (last_of h) _ _ (some-before _ (answers_from byte0 (at + 1 + count_of h) cs (drop (count_of h) rest)) (ih (count_of h)))

some-unless : {A : Type 0} (b : Bool) (n : ℕ) (p : Reading A) → 0 < n → Some p → Some (cond b p (Refused (refusal n)))
some-unless true n p h s = s
some-unless false n p h s = h

pub judge-some : (r : Request) (dg : List ℕ) → Some (judge r dg)
unfolding judge
judge-some r dg =
    some-unless (length_ok (length dg)) 32 _ (omega arith)
    (some-unless (eqb (get_or dg 0 0) (answer_byte r.byte0)) 33 _ (omega arith) (answers-some r.byte0 0 r.commands (words_of dg)))

-- an accepted answer's first byte is the request's with the kind made 3
pub judge-first : (r : Request) (dg : List ℕ) (items : List Answered) → judge r dg ≡ Means items → get_or dg 0 0 ≡ answer_byte r.byte0
unfolding judge
judge-first r dg items m = eqb-true _ _ (past (eqb (get_or dg 0 0) (answer_byte r.byte0)) _ _ (past (length_ok (length dg)) _ _ m).1).0

-- 32 and 33 by the head: refused as it says, else header by header
module _ (r : Request) (dg : List ℕ) where
  record Head (byte0 : ℕ) : Type 0 where
    long : length_ok (length dg) ≡ true
    first : get_or dg 0 0 ≡ answer_byte byte0

  head_passed : (byte0 : ℕ) → (head_fault byte0 dg).number ≡ 0 → Head byte0
  unfolding head_fault
  head_passed byte0 e = go (length_ok (length dg)) refl (eqb (get_or dg 0 0) (answer_byte byte0)) refl e
    where
      go : (a : Bool) → length_ok (length dg) ≡ a → (b : Bool) → eqb (get_or dg 0 0) (answer_byte byte0) ≡ b
          → (unless a (refusal 32) (unless b (refusal 33) (refusal 0))).number ≡ 0 → Head byte0
      go false l b f x = absurd (omega arith)
      go true l false f x = absurd (omega arith)
      go true l true f x = record { long = l; first = eqb-true _ _ f }

  pub judge-passed : (head_fault r.byte0 dg).number ≡ 0 → judge r dg ≡ answers_from r.byte0 0 r.commands (words_of dg)
  judge-passed e = let h = head_passed r.byte0 e in judge-whole r dg h.long h.first

  pub passed-long : (byte0 : ℕ) → (head_fault byte0 dg).number ≡ 0 → length_ok (length dg) ≡ true
  passed-long byte0 e = (head_passed byte0 e).long

  pub judge-refused : ((head_fault r.byte0 dg).number ≡ 0 → ⊥) → judge r dg ≡ Refused (head_fault r.byte0 dg)
  unfolding judge head_fault
  judge-refused n = go (length_ok (length dg)) (eqb (get_or dg 0 0) (answer_byte r.byte0)) n
    where
      go : (a b : Bool) → ((unless a (refusal 32) (unless b (refusal 33) (refusal 0))).number ≡ 0 → ⊥)
          → cond a (cond b (answers_from r.byte0 0 r.commands (words_of dg)) (Refused (refusal 33))) (Refused (refusal 32))
          ≡ Refused (unless a (refusal 32) (unless b (refusal 33) (refusal 0)))
      go false b n = refl
      go true false n = refl
      go true true n = absurd (n refl)
