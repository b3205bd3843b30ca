-- An answer is accepted exactly if it is the encoding of a list that fits the request, and one with another byte 0 is 33. Whoever
-- sends or takes an answer cites `judge-encoded`, `encode-judged`, `accepts` and `other_byte`. Assumes nothing.
use Prim.Native.Nat.{ℕ, ◌+◌, ◌<◌, ◌≤◌}
use mathlib.Core.Path.{◌≡◌, refl, sym, ◌∙◌}
use mathlib.Core.Bool.{Bool, true, false, cond, false≢true}
use mathlib.Core.List.{List, [], ◌∷◌, ◌++◌}
use native.Mathlib.Omega.{arith}
use borrow.Author.Tests.{eqb-true, eq-eqb, ne_eqb}
use lib.Dec.{eqb}
use lib.ListN.{length, get_or, take, drop, length-append, take-append-drop, drop_of_length-le}
use lib.Seq.{take_at, drop_at, length-take-le}
use Rattle.word.specs.Words.{words_of, bytes_of, Bytes, Words, Below}
use Rattle.word.proofs.Runs.{below-append, below-take, below-drop}
use Rattle.word.proofs.Crossing.{words_back, bytes_back, words-below}
use Rattle.header.specs.Header.{byte1_of, count_of, last_of, header_from}
use Rattle.header.specs.Refusal.{refused_at, refusal}
use Rattle.header.specs.Limits.{length_ok}
use Rattle.header.proofs.Laws.Header.{byte0-back, byte1-back, count-back, reserved-back, last-back, header-lt, header_is}
use Rattle.header.proofs.Laws.Limits.{right}
use Rattle.message.specs.Request.{Command, Request, Refused, Means, before, replies, none, FitsCommand, All, Fits}
use Rattle.message.proofs.Laws.Faults.{past, before-is}
use Rattle.message.proofs.Laws.Round.{length-right, ends_at}
use Rattle.std.specs.Prelude.{Ok, Err}
use Rattle.answer.specs.Answer.{Answered, code_of, status_no, answer_byte, stops, answer_fault, seen_of, look_on, look_turn, answers_from, judge, answered_words, answer_words, encode_answer, FitsAnswered, FitsAnswers}
use Rattle.answer.specs.Promises.{JudgeEncoded, EncodeJudged}
use Rattle.answer.specs.Exactly.{AcceptsExactly}
use Rattle.answer.proofs.Laws.Heads.{status-code, code-status, code_lt, answer_lt, wanted-le, wanted-reply, Fair, fair, fair-fault}

-- a look by its header's fault
look-item : (byte0 count : ℕ) (last : Bool) (at h left : ℕ) → answer_fault byte0 count last h left ≡ 0 → look_on byte0 count last at h left ≡ Ok (seen_of h)
unfolding look_on
look-item byte0 count last at h left e = rw (eq-eqb _ _ e)

module _ (byte0 : ℕ) where
  -- an answer's header is made of fields that fit
  record Made (a : Answered) : Type 0 where
    code : code_of a.status < 256
    count : length a.payload < 4096

  made : (c : Command) (a : Answered) → FitsCommand byte0 c → FitsAnswered byte0 c a → Made a
  made c a g f = record { code = omega (arith, code_lt a.status); count = omega (arith, f.long, wanted-le byte0 c.count a.status, g.twelve) }

  -- one answer's words, whatever follows them where LAST is clear
  module _ (c : Command) (cs : List Command) (a : Answered) (g : FitsCommand byte0 c) (f : FitsAnswered byte0 c a) (r : List ℕ) (b : Bool)
      (z : stops a.status (none cs) ≡ b) (e : b ≡ true → length r ≡ 0) where
    abbrev n : ℕ
    n = length a.payload

    abbrev h : ℕ
    h = header_from (answer_byte byte0) (code_of a.status) n b

    hs : code_of a.status < 256
    hs = (made c a g f).code

    hn : n < 4096
    hn = (made c a g f).count

    status-is : status_no (byte1_of h) ≡ a.status
    status-is = rw (byte1-back (answer_byte byte0) _ _ b (answer_lt byte0) hs hn) (status-code a.status)

    fair-header : Fair byte0 c.count (none cs) h (n + length r)
    fair-header =
        let la = last-back (answer_byte byte0) (code_of a.status) n b (answer_lt byte0) hs hn in
        let cn = count-back (answer_byte byte0) (code_of a.status) n b (answer_lt byte0) hs hn in
        record {
          same = byte0-back (answer_byte byte0) _ _ b (answer_lt byte0) hs hn;
          clear = reserved-back (answer_byte byte0) _ _ b (answer_lt byte0) hs hn;
          known = rw (byte1-back (answer_byte byte0) (code_of a.status) n b (answer_lt byte0) hs hn) (code_lt a.status);
          counted = rw (cn, status-is) f.long;
          within = rw cn (omega arith);
          stopped = rw (la, status-is) (sym z);
          ends = rw (la, cn) (ends_at b n (length r) e);
        }

    pub answered-back : (at : ℕ) → answers_from byte0 at (c ∷ cs) (answered_words (answer_byte byte0) b a ++ r) ≡ cond b (Means (a ∷ [])) (before a (answers_from byte0 (at + 1 + n) cs r))
    unfolding answers_from answered_words seen_of
    answered-back at =
        let look : look_on byte0 c.count (none cs) at h (length (a.payload ++ r)) ≡ Ok (seen_of h) =
        rw (length-append a.payload r) (look-item byte0 c.count (none cs) at h _ (fair-fault byte0 c.count (none cs) h _ fair-header)) in
        rw (
          look,
          last-back (answer_byte byte0) (code_of a.status) n b (answer_lt byte0) hs hn,
          status-is,
          count-back (answer_byte byte0) (code_of a.status) n b (answer_lt byte0) hs hn,
          take_at a.payload r n refl,
          drop_at a.payload r n refl,
        )

  -- LAST stands where the answers end
  ends-none : (cs : List Command) (items : List Answered) (b : Bool) → cond b (items ≡ []) (FitsAnswers byte0 cs items) → none items ≡ b
  unfolding FitsAnswers
  ends-none cs items true f = rw f
  ends-none cs [] false f = absurd f
  ends-none cs (a ∷ items) false f = refl

  answers-back : (at : ℕ) (cs : List Command) (items : List Answered) → All (FitsCommand byte0) cs → FitsAnswers byte0 cs items
      → answers_from byte0 at cs (answer_words (answer_byte byte0) items) ≡ Means items
  unfolding FitsAnswers answer_words All
  answers-back at cs [] g f = absurd f
  answers-back at [] (a ∷ items) g f = absurd f
  answers-back at (c ∷ cs) (a ∷ items) g f = go (λ x. answers-back (at + 1 + length a.payload) cs items g.1 x) (stops a.status (none cs)) refl f.1
    where
      go : (FitsAnswers byte0 cs items → answers_from byte0 (at + 1 + length a.payload) cs (answer_words (answer_byte byte0) items) ≡ Means items)
          → (b : Bool) → stops a.status (none cs) ≡ b → cond b (items ≡ []) (FitsAnswers byte0 cs items)
          → answers_from byte0 at (c ∷ cs) (answered_words (answer_byte byte0) (none items) a ++ answer_words (answer_byte byte0) items) ≡ Means (a ∷ items)
      go ih true z x =
          let e : length (answer_words (answer_byte byte0) items) ≡ 0 = rw x in
          rw (ends-none cs items true x) (answered-back c cs a g.0 f.0 (answer_words (answer_byte byte0) items) true z (λ t. e) at ∙ rw x)
      go ih false z x =
          rw (ends-none cs items false x)
          (answered-back c cs a g.0 f.0 (answer_words (answer_byte byte0) items) false z (λ t. absurd (false≢true t)) at ∙ rw (ih x))

  -- an answer that fits is no longer than the all-OK answer, has a word, and its words are words
  pub answers-long : (cs : List Command) (items : List Answered) → FitsAnswers byte0 cs items → length (answer_words (answer_byte byte0) items) ≤ replies byte0 cs
  unfolding FitsAnswers answer_words answered_words replies
  answers-long cs [] f = absurd f
  answers-long [] (a ∷ items) f = absurd f
  answers-long (c ∷ cs) (a ∷ items) f =
      let t : length (answer_words (answer_byte byte0) items) ≤ replies byte0 cs = go (λ x. answers-long cs items x) (stops a.status (none cs)) f.1 in
      simp length-append (omega (arith, f.0.long, wanted-reply byte0 c.count a.status))
    where
      go : (FitsAnswers byte0 cs items → length (answer_words (answer_byte byte0) items) ≤ replies byte0 cs)
          → (b : Bool) → cond b (items ≡ []) (FitsAnswers byte0 cs items) → length (answer_words (answer_byte byte0) items) ≤ replies byte0 cs
      go ih true x = rw x (omega arith)
      go ih false x = ih x

  answers-first : (cs : List Command) (items : List Answered) → All (FitsCommand byte0) cs → FitsAnswers byte0 cs items
      → (0 < length (answer_words (answer_byte byte0) items)) × (get_or (bytes_of (answer_words (answer_byte byte0) items)) 0 0 ≡ answer_byte byte0)
  unfolding FitsAnswers answer_words answered_words bytes_of All
  answers-first cs [] g f = absurd f
  answers-first [] (a ∷ items) g f = absurd f
  answers-first (c ∷ cs) (a ∷ items) g f =
      let m = made c a g.0 f.0 in
      (omega arith, byte0-back (answer_byte byte0) (code_of a.status) (length a.payload) (none items) (answer_lt byte0) m.code m.count)

  pub answers-words : (cs : List Command) (items : List Answered) → All (FitsCommand byte0) cs → FitsAnswers byte0 cs items → Words (answer_words (answer_byte byte0) items)
  unfolding FitsAnswers answer_words answered_words All Below
  answers-words cs [] g f = absurd f
  answers-words [] (a ∷ items) g f = absurd f
  answers-words (c ∷ cs) (a ∷ items) g f =
      let m = made c a g.0 f.0 in (
        header-lt (answer_byte byte0) (code_of a.status) (length a.payload) (none items) (answer_lt byte0) m.code m.count,
        below-append _ a.payload (answer_words (answer_byte byte0) items) f.0.words (go (λ x. answers-words cs items g.1 x) (stops a.status (none cs)) f.1),
      )
    where
      go : (FitsAnswers byte0 cs items → Words (answer_words (answer_byte byte0) items)) → (b : Bool) → cond b (items ≡ []) (FitsAnswers byte0 cs items)
          → Words (answer_words (answer_byte byte0) items)
      go ih true x = rw x tt
      go ih false x = ih x

  -- the answer in a header and the words behind it
  abbrev pub item_of : ℕ → List ℕ → Answered
  item_of h rest = record { status = status_no (byte1_of h); payload = take (count_of h) rest }

  -- words that answer some commands are the encoding of a list that fits them
  record Answer (cs : List Command) (ws : List ℕ) (items : List Answered) : Type 0 where
    fits : FitsAnswers byte0 cs items
    is : answer_words (answer_byte byte0) items ≡ ws

  module _ (c : Command) (cs : List Command) (h : ℕ) (rest : List ℕ) (f : Fair byte0 c.count (none cs) h (length rest)) (hw : h < 4294967296) (each : Words rest) where
    pub item-long : length (take (count_of h) rest) ≡ count_of h
    item-long = length-take-le (count_of h) rest f.within

    pub item-fits : FitsAnswered byte0 c (item_of h rest)
    item-fits = record { long = item-long ∙ f.counted; words = below-take _ (count_of h) rest each }

    pub item-is : answered_words (answer_byte byte0) (last_of h) (item_of h rest) ++ drop (count_of h) rest ≡ h ∷ rest
    unfolding answered_words
    item-is =
        let hd : header_from (answer_byte byte0) (byte1_of h) (count_of h) (last_of h) ≡ h = rw (← f.same) (header_is h hw f.clear) in
        rw (code-status (byte1_of h) f.known, item-long, hd, take-append-drop (count_of h) rest)

    -- the last answer, and one that others follow
    last-answer : last_of h ≡ true → Answer (c ∷ cs) (h ∷ rest) (item_of h rest ∷ [])
    unfolding FitsAnswers answer_words
    last-answer l =
        let nil : drop (count_of h) rest ≡ [] = let q = eqb-true (length rest) (count_of h) (rw l at f.ends) in drop_of_length-le rest {i = count_of h} (omega arith) in
        let s : stops (status_no (byte1_of h)) (none cs) ≡ true = sym f.stopped ∙ l in
        record { fits = (item-fits, rw s refl); is = rw (← l, ← nil) item-is }

    more-answers : last_of h ≡ false → (items : List Answered) → Answer cs (drop (count_of h) rest) items → Answer (c ∷ cs) (h ∷ rest) (item_of h rest ∷ items)
    unfolding FitsAnswers answer_words
    more-answers l items a =
        let s : stops (status_no (byte1_of h)) (none cs) ≡ false = sym f.stopped ∙ l in
        record { fits = (item-fits, rw s a.fits); is = rw (a.is, ends-none cs items false a.fits, ← l) item-is }

  answers-is : (at : ℕ) (cs : List Command) (ws : List ℕ) (items : List Answered) → Words ws → answers_from byte0 at cs ws ≡ Means items → Answer cs ws items
  unfolding answers_from look_on seen_of Below
  answers-is at [] ws items e m = cc
  answers-is at (c ∷ cs) [] items e m = cc
  answers-is at (c ∷ cs) (h ∷ rest) items e m =
      go (λ n x y. answers-is (at + 1 + n) cs (drop n rest) x (below-drop _ n rest e.1) y) (eqb (answer_fault byte0 c.count (none cs) h (length rest)) 0) refl m
    where
      by : Fair byte0 c.count (none cs) h (length rest)
          → ((n : ℕ) (x : List Answered) → answers_from byte0 (at + 1 + n) cs (drop n rest) ≡ Means x → Answer cs (drop n rest) x)
          → (b : Bool) → last_of h ≡ b
          → cond b (Means (item_of h rest ∷ [])) (before (item_of h rest) (answers_from byte0 (at + 1 + count_of h) cs (drop (count_of h) rest))) ≡ Means items
          → Answer (c ∷ cs) (h ∷ rest) items
      by f ih true l x = let is : item_of h rest ∷ [] ≡ items = cc in rw (← is) (last-answer c cs h rest f e.0 e.1 l)
      by f ih false l x =
          let t = before-is (item_of h rest) (answers_from byte0 (at + 1 + count_of h) cs (drop (count_of h) rest)) items x in
          rw t.2 (more-answers c cs h rest f e.0 e.1 l t.0 (ih (count_of h) t.0 t.1))

      go : ((n : ℕ) (x : List Answered) → answers_from byte0 (at + 1 + n) cs (drop n rest) ≡ Means x → Answer cs (drop n rest) x)
          → (b : Bool) → eqb (answer_fault byte0 c.count (none cs) h (length rest)) 0 ≡ b
          → look_turn (cond b (Ok (seen_of h)) (Err (refused_at (answer_fault byte0 c.count (none cs) h (length rest)) at))) rest (λ n. answers_from byte0 (at + 1 + n) cs (drop n rest)) ≡ Means items
          → Answer (c ∷ cs) (h ∷ rest) items
      go ih false z x = cc
      go ih true z x = by (fair byte0 c.count (none cs) h (length rest) (eqb-true _ _ z)) ih (last_of h) refl x

pub judge-encoded : JudgeEncoded
unfolding judge encode_answer
judge-encoded r items f g =
    let b = r.byte0 in
    let all = f.asked.all in
    let ws = answer_words (answer_byte b) items in
    let first = answers-first b r.commands items all g in
    rw (
      length-right ws first.0 (omega (arith, answers-long b r.commands items g, f.answer)),
      first.1,
      eq-eqb (answer_byte b) (answer_byte b) refl,
      words_back ws (answers-words b r.commands items all g),
    )
    (answers-back b 0 r.commands items all g)

pub encode-judged : EncodeJudged
unfolding judge encode_answer
encode-judged r dg items hb m =
    let p = past (length_ok (length dg)) _ _ m in
    let q = past (eqb (get_or dg 0 0) (answer_byte r.byte0)) _ _ p.1 in
    let a = answers-is r.byte0 0 r.commands (words_of dg) items (words-below dg hb) q.1 in
    (a.fits, rw a.is (sym (bytes_back dg hb (right (length dg) p.0).whole)))

pub accepts : (r : Request) (dg : List ℕ) → Fits r → Bytes dg → AcceptsExactly r dg
unfolding AcceptsExactly
accepts r dg f hb items = (encode-judged r dg items hb, λ g. rw g.1 (judge-encoded r items f g.0))

-- an answer of right length whose byte 0 is another is 33
pub other_byte : (r : Request) (dg : List ℕ) → length_ok (length dg) ≡ true → (get_or dg 0 0 ≡ answer_byte r.byte0 → ⊥) → judge r dg ≡ Refused (refusal 33)
unfolding judge
other_byte r dg l z = rw (l, ne_eqb _ _ z)
