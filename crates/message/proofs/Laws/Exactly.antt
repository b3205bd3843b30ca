-- Each refusal 2 to 10 is given, with its index, exactly when document 01 says, and none exactly to the bytes of a fitting request: `exactly`.
-- Assumes nothing.
use Prim.Native.Nat.{ℕ, zero, suc, ◌+◌, ◌<◌, ◌≤◌}
use mathlib.Core.Path.{◌≡◌, refl, sym, ap, ◌∙◌}
use mathlib.Core.Bool.{Bool, true, false, cond, false≢true}
use mathlib.Core.List.{List, [], ◌∷◌, ◌++◌, append_assoc}
use native.Mathlib.Nat.{zero-add, add-zero}
use native.Mathlib.Omega.{arith}
use borrow.Author.Tests.{eqb-true, eqb-false, leb-false, lt-leb}
use lib.Dec.{leb, eqb}
use lib.ListN.{length, get_or, drop, length-append}
use Rattle.word.specs.Words.{words_of, Bytes, Words, Below}
use Rattle.word.proofs.Runs.{below-nth}
use Rattle.word.proofs.Crossing.{bytes_back, words-below, length-words_of}
use Rattle.header.specs.declared.Kind.{Kind}
use Rattle.header.specs.declared.Kind.TheVariants.{Nop, Write, Read as Reads, Response}
use Rattle.header.specs.declared.refusal.Refusal.{Refusal}
use Rattle.header.specs.Limits.{limit, length_ok}
use Rattle.header.specs.Header.{kind_of, byte0_of, byte1_of, count_of, reserved_of, last_of, address_words, body_words, head_of, ends_ok}
use Rattle.header.specs.Refusal.{refused_at, refusal}
use Rattle.header.proofs.Laws.Refusal.{Between, unless-between, Further, further-here, further-on, further-at, number_is, at-is}
use Rattle.header.proofs.Laws.Limits.{right}
use Rattle.std.specs.Prelude.{Ok, Err}
use Rattle.message.specs.Faults.{asks, count_ok, enables_ok, fault_of}
use Rattle.message.specs.Walk.{step_on, command_of, turn, commands_from, ended, read}
use Rattle.message.specs.Request.{Command, Request, Reading, Refused, Means, before, replies, command_words, written, FitsCommand, All}
use Rattle.message.specs.Promises.{RefusalRange}
use Rattle.message.specs.Exactly.{open_words, fault_in, FaultAfter, TooLong, Exactly}
use Rattle.message.proofs.Laws.Faults.{SoundBefore, sound, fault_before, step-refused, same-refusal, before-wrong}
use Rattle.message.proofs.Laws.Round.{command-long, one-back, read_asked, read-written}
use Rattle.message.proofs.Laws.Back.{one-fits, one-is, commands-backed, written_read}

-- no fault, or one of 3 to 9
fault-walks : (byte0 h left address : ℕ) → Between 3 9 (fault_of byte0 h left address)
unfolding fault_of
fault-walks byte0 h left address =
    unless-between 3 9 (eqb (byte0_of h) byte0) 4 _ (omega arith) (omega arith)
    (unless-between 3 9 (asks (kind_of byte0)) 5 _ (omega arith) (omega arith)
    (unless-between 3 9 (eqb (reserved_of h) 0) 6 _ (omega arith) (omega arith)
    (unless-between 3 9 (count_ok (kind_of byte0) (count_of h)) 7 _ (omega arith) (omega arith)
    (unless-between 3 9 (leb (address_words byte0) left) 3 _ (omega arith) (omega arith)
    (unless-between 3 9 (enables_ok (kind_of byte0) (count_of h) address (byte1_of h)) 8 _ (omega arith) (omega arith)
    (unless-between 3 9 (leb (body_words byte0 (count_of h)) left) 3 _ (omega arith) (omega arith)
    (unless-between 3 9 (ends_ok (last_of h) (body_words byte0 (count_of h)) left) 9 0 (omega arith) (omega arith) (λ z. absurd (z refl)))))))))

-- a refusal of the walk, whose next header is word `at`: its commands and its fault
abbrev Fault : ℕ → ℕ → Refusal → List ℕ → Type 0
Fault byte0 at r ws = Further 3 9 (λ n on. FaultAfter byte0 n on ws) at r

count-of : (byte0 h : ℕ) (rest : List ℕ) → (command_of byte0 h rest).count ≡ count_of h
unfolding command_of
count-of byte0 h rest = refl

-- no word there
none-there : (byte0 at : ℕ) → Fault byte0 at (refused_at 3 at) []
unfolding fault_in open_words All
none-there byte0 at = further-here 3 at (omega arith) (omega arith) (record { good = []; fit = tt; tail = []; is = refl; fault = refl; place = refl })

-- from the walk to the words: good commands, then the fault
after-walk : (byte0 at skip : ℕ) (ws : List ℕ) (r : Refusal) → Words ws → commands_from byte0 at skip ws ≡ Refused r → Fault byte0 at r (drop skip ws)
unfolding commands_from step_on head_of fault_in open_words All Below
after-walk byte0 at zero [] r e m = rw (← same-refusal m) (none-there byte0 at)
after-walk byte0 at (suc n) [] r e m = rw (← same-refusal m) (none-there byte0 at)
after-walk byte0 at (suc n) (w ∷ ws) r e m = after-walk byte0 at n ws r e.1 m
after-walk byte0 at zero (h ∷ rest) r e m = go (λ n x. after-walk byte0 (at + 1 + n) n rest r e.1 x) (eqb (fault_before byte0 h rest) 0) refl m
  where
    here : (eqb (fault_before byte0 h rest) 0 ≡ false) → refused_at (fault_before byte0 h rest) at ≡ r → Fault byte0 at r (h ∷ rest)
    here z q =
        let w = fault-walks byte0 h (length rest) _ (eqb-false _ _ z) in
        rw (← q) (further-here _ at w.0 w.1 (record { good = []; fit = tt; tail = h ∷ rest; is = refl; fault = refl; place = refl }))

    body : ℕ
    body = body_words byte0 (count_of h)

    behind : SoundBefore byte0 h rest → last_of h ≡ false → (n on : ℕ) → FaultAfter byte0 n on (drop body rest) → FaultAfter byte0 n (1 + body + on) (h ∷ rest)
    behind s l n on a =
        let c = command_of byte0 h rest in
        let fits = one-fits byte0 h rest s e.0 e.1 in
        let is : h ∷ rest ≡ (command_words byte0 false c ++ open_words byte0 a.good) ++ a.tail =
        sym (one-is byte0 h rest s e.0 e.1) ∙ rw (l, a.is) (sym (append_assoc (command_words byte0 false c) (open_words byte0 a.good) a.tail)) in
        let long : length (command_words byte0 false c ++ open_words byte0 a.good) ≡ 1 + body + on =
        length-append (command_words byte0 false c) (open_words byte0 a.good) ∙ rw (command-long byte0 false c fits, count-of byte0 h rest, a.place) in
        record { good = c ∷ a.good; fit = (fits, a.fit); tail = a.tail; is = is; fault = a.fault; place = long }

    by : SoundBefore byte0 h rest → ((n : ℕ) → commands_from byte0 (at + 1 + n) n rest ≡ Refused r → Fault byte0 (at + 1 + n) r (drop n rest))
        → (b : Bool) → last_of h ≡ b
        → cond b (Means (command_of byte0 h rest ∷ [])) (before (command_of byte0 h rest) (commands_from byte0 (at + 1 + body) body rest)) ≡ Refused r
        → Fault byte0 at r (h ∷ rest)
    by s ih true l x = cc
    by s ih false l x = further-on at (1 + body) (at + 1 + body) (omega arith) (behind s l) (ih body (before-wrong (command_of byte0 h rest) _ x))

    go : ((n : ℕ) → commands_from byte0 (at + 1 + n) n rest ≡ Refused r → Fault byte0 (at + 1 + n) r (drop n rest))
        → (b : Bool) → eqb (fault_before byte0 h rest) 0 ≡ b
        → turn (cond b (Ok (head_of byte0 h)) (Err (refused_at (fault_before byte0 h rest) at))) (command_of byte0 h rest) (λ n. commands_from byte0 (at + 1 + n) n rest) ≡ Refused r
        → Fault byte0 at r (h ∷ rest)
    go ih false z x = here z (same-refusal x)
    go ih true z x = by (sound byte0 h (length rest) _ (eqb-true _ _ z)) ih (last_of h) refl x

-- a command that may stand in a message is no response
pub counted-asks : (k : Kind) (n : ℕ) → count_ok k n ≡ true → asks k ≡ true
counted-asks Nop n e = refl
counted-asks Write n e = refl
counted-asks Reads n e = refl
counted-asks Response n e = e

-- and from the words to the walk
walk_after : (byte0 at n : ℕ) → byte0 < 256 → (n ≡ 0 → ⊥) → (good : List Command) (tail : List ℕ) → All (FitsCommand byte0) good → fault_in byte0 tail ≡ n
    → commands_from byte0 at 0 (open_words byte0 good ++ tail) ≡ Refused (refused_at n (at + length (open_words byte0 good)))
unfolding open_words fault_in All commands_from
walk_after byte0 at n hb z [] [] f e = rw (e, add-zero at)
walk_after byte0 at n hb z [] (h ∷ rest) f e = rw (step-refused byte0 at h (length rest) _ (λ q. z (sym e ∙ q)), e, add-zero at)
walk_after byte0 at n hb z (c ∷ cs) tail f e =
    let next = at + 1 + body_words byte0 c.count in
    let place : next + length (open_words byte0 cs) ≡ at + length (command_words byte0 false c ++ open_words byte0 cs) =
    omega (arith, length-append (command_words byte0 false c) (open_words byte0 cs), command-long byte0 false c f.0) in
    rw (append_assoc, ← place)
    (one-back byte0 hb (counted-asks (kind_of byte0) c.count f.0.counted) false c f.0 at (open_words byte0 cs ++ tail) (λ q. absurd (false≢true q))
    ∙ rw (walk_after byte0 next n hb z cs tail f.1 e))

-- what a refused datagram comes to, by its length, its walk, and its answer's length
data Why (dg : List ℕ) (r : Refusal) : Type 0 where
  long : length_ok (length dg) ≡ false → refusal 2 ≡ r → Why dg r
  walk : length_ok (length dg) ≡ true → Fault (get_or dg 0 0) 0 r (words_of dg) → Why dg r
  over : length_ok (length dg) ≡ true → (cs : List Command) → commands_from (get_or dg 0 0) 0 0 (words_of dg) ≡ Means cs → limit < replies (get_or dg 0 0) cs → refusal 10 ≡ r → Why dg r

why : (dg : List ℕ) (r : Refusal) → Bytes dg → read dg ≡ Refused r → Why dg r
unfolding read ended
why dg r hb m = go (length_ok (length dg)) refl (commands_from (get_or dg 0 0) 0 0 (words_of dg)) refl m
  where
    tenth : length_ok (length dg) ≡ true → (cs : List Command) → commands_from (get_or dg 0 0) 0 0 (words_of dg) ≡ Means cs
        → (b : Bool) → leb (replies (get_or dg 0 0) cs) limit ≡ b → cond {A = Reading Request} b (Means (record { byte0 = get_or dg 0 0; commands = cs })) (Refused (refusal 10)) ≡ Refused r → Why dg r
    tenth l cs w true z x = cc
    tenth l cs w false z x = over l cs w (leb-false _ _ z) (same-refusal x)

    go : (a : Bool) → length_ok (length dg) ≡ a → (p : Reading (List Command)) → commands_from (get_or dg 0 0) 0 0 (words_of dg) ≡ p
        → cond a (ended (get_or dg 0 0) p) (Refused (refusal 2)) ≡ Refused r → Why dg r
    go false l p w x = long l (same-refusal x)
    go true l (Refused q) w x = walk l (after-walk (get_or dg 0 0) 0 0 (words_of dg) r (words-below dg hb) (w ∙ ap Refused (same-refusal x)))
    go true l (Means cs) w x = tenth l cs w (leb (replies (get_or dg 0 0) cs) limit) refl x

-- the request of the commands that were read
too_long : (dg : List ℕ) → Bytes dg → length_ok (length dg) ≡ true → (cs : List Command) → commands_from (get_or dg 0 0) 0 0 (words_of dg) ≡ Means cs
    → limit < replies (get_or dg 0 0) cs → TooLong dg
unfolding written
too_long dg hb l cs w o =
    let b = commands-backed (get_or dg 0 0) 0 0 (words_of dg) cs (words-below dg hb) w in
    let n = right (length dg) l in
    record {
      request = record { byte0 = get_or dg 0 0; commands = cs };
      asked = record {
        byte = below-nth 256 dg 0 hb (omega arith);
        asking = b.asking;
        some = b.some;
        all = b.all;
        short = rw (b.is, length-words_of dg) (omega (arith, n.most));
      };
      is = rw b.is (sym (bytes_back dg hb n.whole));
      over = o;
    }

module _ (dg : List ℕ) (hb : Bytes dg) where
  two-only : (at : ℕ) → read dg ≡ Refused (refused_at 2 at) → (length_ok (length dg) ≡ false) × (at ≡ 0)
  two-only at m = go (why dg (refused_at 2 at) hb m)
    where
      go : Why dg (refused_at 2 at) → (length_ok (length dg) ≡ false) × (at ≡ 0)
      go (long l e) = (l, sym (at-is e))
      go (walk l f) = absurd (omega (arith, f.least))
      go (over l cs w o e) = absurd (omega (arith, number_is e))

  faults-only : (n at : ℕ) → 3 ≤ n → n ≤ 9 → read dg ≡ Refused (refused_at n at) → (length_ok (length dg) ≡ true) × FaultAfter (get_or dg 0 0) n at (words_of dg)
  faults-only n at h k m = go (why dg (refused_at n at) hb m)
    where
      go : Why dg (refused_at n at) → (length_ok (length dg) ≡ true) × FaultAfter (get_or dg 0 0) n at (words_of dg)
      go (long l e) = absurd (omega (arith, number_is e))
      go (walk l f) = (l, further-at n at f)
      go (over l cs w o e) = absurd (omega (arith, number_is e))

  ten-only : (at : ℕ) → read dg ≡ Refused (refused_at 10 at) → TooLong dg × (at ≡ 0)
  ten-only at m = go (why dg (refused_at 10 at) hb m)
    where
      go : Why dg (refused_at 10 at) → TooLong dg × (at ≡ 0)
      go (long l e) = absurd (omega (arith, number_is e))
      go (walk l f) = absurd (omega (arith, f.most))
      go (over l cs w o e) = (too_long dg hb l cs w o, sym (at-is e))

  faults-given : (n at : ℕ) → 3 ≤ n → length_ok (length dg) ≡ true → FaultAfter (get_or dg 0 0) n at (words_of dg) → read dg ≡ Refused (refused_at n at)
  unfolding read ended
  faults-given n at h l f =
      let w : commands_from (get_or dg 0 0) 0 0 (words_of dg) ≡ Refused (refused_at n (0 + length (open_words (get_or dg 0 0) f.good))) =
      rw f.is (walk_after (get_or dg 0 0) 0 n (below-nth 256 dg 0 hb (omega arith)) (omega arith) f.good f.tail f.fit f.fault) in
      rw (l, w, f.place, zero-add at)

  ten-given : TooLong dg → read dg ≡ Refused (refusal 10)
  unfolding ended
  ten-given t = rw (t.is, read_asked t.request t.asked, lt-leb _ _ t.over)

  two-given : length_ok (length dg) ≡ false → read dg ≡ Refused (refusal 2)
  unfolding read
  two-given l = rw l

  pub exactly : Exactly dg
  exactly =
      record {
        two = λ at. (two-only at, λ f. rw f.1 (two-given f.0));
        faults = λ n at h k. (faults-only n at h k, λ f. faults-given n at h f.0 f.1);
        ten = λ at. (ten-only at, λ f. rw f.1 (ten-given f.0));
        fine = λ r. (written_read dg r hb, λ f. rw f.1 (read-written r f.0));
      }

pub refusal-range : RefusalRange
refusal-range dg hb r m = go (why dg r hb m)
  where
    go : Why dg r → (2 ≤ r.number) × (r.number ≤ 10)
    go (long l e) = let n = number_is e in (omega arith, omega arith)
    go (walk l f) = (omega (arith, f.least), omega (arith, f.most))
    go (over l cs w o e) = let n = number_is e in (omega arith, omega arith)
