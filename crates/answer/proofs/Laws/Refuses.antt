-- Each refusal 32 to 35 of an answer is given, with its index, exactly when document 01 says: `refuses`. Assumes nothing.
use Prim.Native.Nat.{ℕ, ◌+◌, ◌≤◌}
use mathlib.Core.Path.{◌≡◌, refl, sym, ap, ◌∙◌}
use mathlib.Core.Bool.{Bool, true, false, cond, beq, false≢true}
use mathlib.Core.List.{List, [], ◌∷◌, ◌++◌, append_assoc}
use native.Mathlib.Nat.{zero-add, add-zero}
use native.Mathlib.Omega.{arith}
use borrow.Author.Tests.{eqb-true, eqb-false, eq-eqb, ne_eqb}
use lib.Dec.{ltb, leb, eqb}
use lib.ListN.{length, get_or, drop, length-append}
use Rattle.word.specs.Words.{words_of, Bytes, Words, Below}
use Rattle.word.proofs.Runs.{below-drop}
use Rattle.word.proofs.Crossing.{words-below}
use Rattle.header.specs.declared.refusal.Refusal.{Refusal}
use Rattle.header.specs.Header.{byte0_of, byte1_of, count_of, reserved_of, last_of, ends_ok}
use Rattle.header.specs.Refusal.{refused_at, refusal}
use Rattle.header.specs.Limits.{length_ok}
use Rattle.header.proofs.Laws.Refusal.{Between, unless-between, Further, further-here, further-on, further-at, number_is, at-is}
use Rattle.message.specs.Request.{Command, Request, Refused, Means, before, none, FitsCommand, All, Fits}
use Rattle.message.proofs.Laws.Faults.{same-refusal, before-wrong}
use Rattle.message.proofs.Laws.Round.{none_before}
use Rattle.std.specs.Prelude.{Ok, Err}
use Rattle.answer.specs.Answer.{Answered, status_no, answer_byte, wanted, stops, answer_fault, seen_of, look_on, look_turn, answers_from, judge, answered_words}
use Rattle.answer.specs.Promises.{JudgeRange}
use Rattle.answer.specs.Exactly.{open_answers, AllOk, answer_fault_in, AnswerFaultAfter, RefusesExactly}
use Rattle.answer.proofs.Laws.Heads.{stops-clear, Fair, fair}
use Rattle.answer.proofs.Laws.Accepts.{answered-back, item_of, item-long, item-fits, item-is, other_byte}
use Rattle.answer.proofs.Laws.Looking.{judge-long}

-- no fault, or one of 34 and 35
fault-judges : (byte0 count : ℕ) (last : Bool) (h left : ℕ) → Between 34 35 (answer_fault byte0 count last h left)
unfolding answer_fault
fault-judges byte0 count last h left =
    unless-between 34 35 (eqb (byte0_of h) (answer_byte byte0)) 34 _ (omega arith) (omega arith)
    (unless-between 34 35 (eqb (reserved_of h) 0) 34 _ (omega arith) (omega arith)
    (unless-between 34 35 (ltb (byte1_of h) 3) 34 _ (omega arith) (omega arith)
    (unless-between 34 35 (eqb (count_of h) (wanted byte0 count (status_no (byte1_of h)))) 34 _ (omega arith) (omega arith)
    (unless-between 34 35 (leb (count_of h) left) 35 _ (omega arith) (omega arith)
    (unless-between 34 35 (beq (last_of h) (stops (status_no (byte1_of h)) last)) 35 _ (omega arith) (omega arith)
    (unless-between 34 35 (ends_ok (last_of h) (count_of h) left) 35 0 (omega arith) (omega arith) (λ z. absurd (z refl))))))))

-- an answer's words
answered-long : (byte : ℕ) (last : Bool) (a : Answered) → length (answered_words byte last a) ≡ 1 + length a.payload
unfolding answered_words
answered-long byte last a = omega arith

-- a refusal of an answer, whose next header is word `at`: its answers and its fault
abbrev Fault : ℕ → ℕ → Refusal → List Command → List ℕ → Type 0
Fault byte0 at r cs ws = Further 34 35 (λ n on. AnswerFaultAfter byte0 n on cs ws) at r

-- from the answer to its words: good answers, then the fault
after-judge : (byte0 at : ℕ) (cs : List Command) (ws : List ℕ) (r : Refusal) → none cs ≡ false → Words ws → answers_from byte0 at cs ws ≡ Refused r → Fault byte0 at r cs ws
unfolding answers_from look_on seen_of answer_fault_in open_answers AllOk Below
after-judge byte0 at [] ws r s e m = cc
after-judge byte0 at (c ∷ cs) [] r s e m =
    rw (← same-refusal m)
    (further-here 35 at (omega arith) (omega arith)
    (record { done = []; next = c; behind = cs; asked = refl; good = []; fit = tt; tail = []; is = refl; fault = refl; place = refl }))
after-judge byte0 at (c ∷ cs) (h ∷ rest) r s e m =
    go (λ n x y. after-judge byte0 (at + 1 + n) cs (drop n rest) r x (below-drop _ n rest e.1) y) (eqb fault 0) refl m
  where
    fault : ℕ
    fault = answer_fault byte0 c.count (none cs) h (length rest)

    here : eqb fault 0 ≡ false → refused_at fault at ≡ r → Fault byte0 at r (c ∷ cs) (h ∷ rest)
    here z q =
        let w = fault-judges byte0 c.count (none cs) h (length rest) (eqb-false _ _ z) in
        rw (← q)
        (further-here fault at w.0 w.1
        (record { done = []; next = c; behind = cs; asked = refl; good = []; fit = tt; tail = h ∷ rest; is = refl; fault = refl; place = refl }))

    behind : (f : Fair byte0 c.count (none cs) h (length rest)) → last_of h ≡ false → (n on : ℕ) → AnswerFaultAfter byte0 n on cs (drop (count_of h) rest)
        → AnswerFaultAfter byte0 n (1 + count_of h + on) (c ∷ cs) (h ∷ rest)
    behind f l n on a =
        let item = item_of byte0 h rest in
        let byte = answer_byte byte0 in
        let ok = (stops-clear (status_no (byte1_of h)) (none cs) (sym f.stopped ∙ l)).0 in
        let is : h ∷ rest ≡ (answered_words byte false item ++ open_answers byte a.good) ++ a.tail =
        sym (item-is byte0 c cs h rest f e.0 e.1) ∙ rw (l, a.is) (sym (append_assoc (answered_words byte false item) (open_answers byte a.good) a.tail)) in
        let long : length (answered_words byte false item ++ open_answers byte a.good) ≡ 1 + count_of h + on =
        length-append (answered_words byte false item) (open_answers byte a.good) ∙ omega (arith, answered-long byte false item, item-long byte0 c cs h rest f e.0 e.1, a.place) in
        record {
          done = c ∷ a.done;
          next = a.next;
          behind = a.behind;
          asked = ap (λ (xs : List Command). c ∷ xs) a.asked;
          good = item ∷ a.good;
          fit = (ok, item-fits byte0 c cs h rest f e.0 e.1, a.fit);
          tail = a.tail;
          is = is;
          fault = a.fault;
          place = long;
        }

    by : Fair byte0 c.count (none cs) h (length rest)
        → ((n : ℕ) → none cs ≡ false → answers_from byte0 (at + 1 + n) cs (drop n rest) ≡ Refused r → Fault byte0 (at + 1 + n) r cs (drop n rest))
        → (b : Bool) → last_of h ≡ b
        → cond b (Means (item_of byte0 h rest ∷ [])) (before (item_of byte0 h rest) (answers_from byte0 (at + 1 + count_of h) cs (drop (count_of h) rest))) ≡ Refused r
        → Fault byte0 at r (c ∷ cs) (h ∷ rest)
    by f ih true l x = cc
    by f ih false l x =
        let more = (stops-clear (status_no (byte1_of h)) (none cs) (sym f.stopped ∙ l)).1 in
        further-on at (1 + count_of h) (at + 1 + count_of h) (omega arith) (behind f l) (ih (count_of h) more (before-wrong (item_of byte0 h rest) _ x))

    go : ((n : ℕ) → none cs ≡ false → answers_from byte0 (at + 1 + n) cs (drop n rest) ≡ Refused r → Fault byte0 (at + 1 + n) r cs (drop n rest))
        → (b : Bool) → eqb fault 0 ≡ b
        → look_turn (cond b (Ok (seen_of h)) (Err (refused_at fault at))) rest (λ n. answers_from byte0 (at + 1 + n) cs (drop n rest)) ≡ Refused r
        → Fault byte0 at r (c ∷ cs) (h ∷ rest)
    go ih false z x = here z (same-refusal x)
    go ih true z x = by (fair byte0 c.count (none cs) h (length rest) (eqb-true _ _ z)) ih (last_of h) refl x

-- a look by its header's fault
look-bad : (byte0 count : ℕ) (last : Bool) (at h left : ℕ) → (answer_fault byte0 count last h left ≡ 0 → ⊥)
    → look_on byte0 count last at h left ≡ Err (refused_at (answer_fault byte0 count last h left) at)
unfolding look_on
look-bad byte0 count last at h left e = rw (ne_eqb _ _ e)

-- and from the words to the answer
judge-after : (byte0 at n : ℕ) → (n ≡ 0 → ⊥) → (done : List Command) (next : Command) (behind : List Command) (good : List Answered) (tail : List ℕ)
    → All (FitsCommand byte0) done → AllOk byte0 done good → answer_fault_in byte0 next (none behind) tail ≡ n
    → answers_from byte0 at (done ++ next ∷ behind) (open_answers (answer_byte byte0) good ++ tail) ≡ Refused (refused_at n (at + length (open_answers (answer_byte byte0) good)))
unfolding answers_from answer_fault_in open_answers AllOk All
judge-after byte0 at n z [] next behind [] [] f k e = rw (e, add-zero at)
judge-after byte0 at n z [] next behind [] (h ∷ rest) f k e = rw (look-bad byte0 next.count (none behind) at h (length rest) (λ q. z (sym e ∙ q)), e, add-zero at)
judge-after byte0 at n z [] next behind (a ∷ good) tail f k e = absurd k
judge-after byte0 at n z (c ∷ done) next behind [] tail f k e = absurd k
judge-after byte0 at n z (c ∷ done) next behind (a ∷ good) tail f k e =
    let byte = answer_byte byte0 in
    let on = at + 1 + length a.payload in
    let place : on + length (open_answers byte good) ≡ at + length (answered_words byte false a ++ open_answers byte good) =
    omega (arith, length-append (answered_words byte false a) (open_answers byte good), answered-long byte false a) in
    let stop : stops a.status (none (done ++ next ∷ behind)) ≡ false = rw k.0 (none_before done next behind) in
    rw (append_assoc, ← place)
    (answered-back byte0 c (done ++ next ∷ behind) a f.0 k.1 (open_answers byte good ++ tail) false stop (λ q. absurd (false≢true q)) at
    ∙ rw (judge-after byte0 on n z done next behind good tail f.1 k.2 e))

all-front : {A : Type 0} (P : A → Type 0) (xs ys : List A) → All P (xs ++ ys) → All P xs
unfolding All
all-front P [] ys a = tt
all-front P (x ∷ xs) ys a = (a.0, all-front P xs ys a.1)

-- what a refused answer comes to, by its length, its byte 0 and its headers
data Why (r : Request) (dg : List ℕ) (q : Refusal) : Type 0 where
  long : length_ok (length dg) ≡ false → refusal 32 ≡ q → Why r dg q
  other : length_ok (length dg) ≡ true → (get_or dg 0 0 ≡ answer_byte r.byte0 → ⊥) → refusal 33 ≡ q → Why r dg q
  fault : length_ok (length dg) ≡ true → get_or dg 0 0 ≡ answer_byte r.byte0 → Fault r.byte0 0 q r.commands (words_of dg) → Why r dg q

module _ (r : Request) (dg : List ℕ) (fits : Fits r) (hb : Bytes dg) where
  why : (q : Refusal) → judge r dg ≡ Refused q → Why r dg q
  unfolding judge
  why q m = go (length_ok (length dg)) refl (eqb (get_or dg 0 0) (answer_byte r.byte0)) refl m
    where
      go : (a : Bool) → length_ok (length dg) ≡ a → (b : Bool) → eqb (get_or dg 0 0) (answer_byte r.byte0) ≡ b
          → cond a (cond b (answers_from r.byte0 0 r.commands (words_of dg)) (Refused (refusal 33))) (Refused (refusal 32)) ≡ Refused q → Why r dg q
      go false l b y x = long l (same-refusal x)
      go true l false y x = other l (eqb-false _ _ y) (same-refusal x)
      go true l true y x = fault l (eqb-true _ _ y) (after-judge r.byte0 0 r.commands (words_of dg) q fits.asked.some (words-below dg hb) x)

  long-only : (at : ℕ) → judge r dg ≡ Refused (refused_at 32 at) → (length_ok (length dg) ≡ false) × (at ≡ 0)
  long-only at m = go (why (refused_at 32 at) m)
    where
      go : Why r dg (refused_at 32 at) → (length_ok (length dg) ≡ false) × (at ≡ 0)
      go (long l e) = (l, sym (at-is e))
      go (other l y e) = absurd (omega (arith, number_is e))
      go (fault l y f) = absurd (omega (arith, f.least))

  other-only : (at : ℕ) → judge r dg ≡ Refused (refused_at 33 at) → (length_ok (length dg) ≡ true) × (get_or dg 0 0 ≡ answer_byte r.byte0 → ⊥) × (at ≡ 0)
  other-only at m = go (why (refused_at 33 at) m)
    where
      go : Why r dg (refused_at 33 at) → (length_ok (length dg) ≡ true) × (get_or dg 0 0 ≡ answer_byte r.byte0 → ⊥) × (at ≡ 0)
      go (long l e) = absurd (omega (arith, number_is e))
      go (other l y e) = (l, y, sym (at-is e))
      go (fault l y f) = absurd (omega (arith, f.least))

  abbrev Faulty : ℕ → ℕ → Type 0
  Faulty n at = (length_ok (length dg) ≡ true) × (get_or dg 0 0 ≡ answer_byte r.byte0) × AnswerFaultAfter r.byte0 n at r.commands (words_of dg)

  faults-only : (n at : ℕ) → 34 ≤ n → judge r dg ≡ Refused (refused_at n at) → Faulty n at
  faults-only n at h m = go (why (refused_at n at) m)
    where
      go : Why r dg (refused_at n at) → Faulty n at
      go (long l e) = absurd (omega (arith, number_is e))
      go (other l y e) = absurd (omega (arith, number_is e))
      go (fault l y f) = (l, y, further-at n at f)

  faults-given : (n at : ℕ) → 34 ≤ n → Faulty n at → judge r dg ≡ Refused (refused_at n at)
  unfolding judge
  faults-given n at h f =
      let a = f.2 in
      let front : All (FitsCommand r.byte0) a.done = all-front _ a.done _ (rw a.asked at fits.asked.all) in
      let w : answers_from r.byte0 0 r.commands (words_of dg) ≡ Refused (refused_at n (0 + length (open_answers (answer_byte r.byte0) a.good))) =
      rw (a.asked, a.is) (judge-after r.byte0 0 n (omega arith) a.done a.next a.behind a.good a.tail front a.fit a.fault) in
      rw (f.0, eq-eqb _ _ f.1, w, a.place, zero-add at)

  pub refuses : RefusesExactly r dg
  refuses =
      record {
        long = λ at. (long-only at, λ f. rw f.1 (judge-long r dg f.0));
        other = λ at. (other-only at, λ f. rw f.2 (other_byte r dg f.0 f.1));
        faults = λ n at h k. (faults-only n at h, faults-given n at h);
      }

pub judge-range : JudgeRange
judge-range r dg fits hb q m = go (why r dg fits hb q m)
  where
    go : Why r dg q → (32 ≤ q.number) × (q.number ≤ 35)
    go (long l e) = let n = number_is e in (omega arith, omega arith)
    go (other l y e) = let n = number_is e in (omega arith, omega arith)
    go (fault l y f) = (omega (arith, f.least), omega (arith, f.most))
