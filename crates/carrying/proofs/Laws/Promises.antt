-- The promises of carrying out: what a failing command leaves, how each command is answered, and that the answer fits the request.
-- Assumes nothing.
use Prim.Native.Nat.{ℕ, zero, suc, ◌/◌, ◌<◌}
use mathlib.Core.Path.{◌≡◌, refl, sym, ◌∙◌}
use mathlib.Core.Bool.{Bool, true, false, cond, false≢true}
use mathlib.Core.List.{List, [], ◌∷◌, ◌++◌, map}
use native.Mathlib.Omega.{arith}
use borrow.Author.Tests.{leb-true}
use lib.Dec.{lit<}
use lib.ListN.{length, get_or, take, drop, length-drop}
use lib.Seq.{length-take-le, get_or-take, get_or-drop}
use Rattle.word.specs.Words.{Words}
use Rattle.word.proofs.Runs.{below-take, below-drop, below_all}
use Rattle.header.specs.declared.Kind.{Kind}
use Rattle.header.specs.declared.Kind.TheVariants.{Nop, Write, Read, Response}
use Rattle.header.specs.Header.{kind_of}
use Rattle.message.specs.Request.{Command, Request, FitsCommand, All, Fits, none}
use Rattle.message.specs.Discovery.{discovery_request}
use Rattle.message.proofs.Laws.Pieces.{all_first, all_rest}
use Rattle.message.proofs.Laws.Fixed.{discovery-kind}
use Rattle.answer.specs.declared.Status.TheVariants.{Timeout}
use Rattle.answer.specs.Answer.{Answered, answer_byte, answer_words, FitsAnswered, FitsAnswers}
use Rattle.answer.specs.Discovery.{discovery_answer}
use Rattle.answer.proofs.Laws.Giving.{fits-stop, fits_on}
use Rattle.answer.proofs.Laws.Accepts.{answers-long}
use Rattle.answer.proofs.Laws.Fixed as answer
use Rattle.memory.specs.Moves.{fails, moves_of, moves, after_moves, memory_after}
use Rattle.memory.specs.Promises.{carried, asking}
use Rattle.memory.proofs.Laws.Moving.{after-append, length-after, words-after, within, after_none}
use Rattle.memory.proofs.Laws.Promises.{memory-stops, moves-none, moves_more, carried-more, memory-by, quiet}
use Rattle.carrying.specs.Answers.{advertisement, ok_words, done, failed, answer_of, answers, answer_to, words_to}
use Rattle.carrying.specs.Promises.{Stops, AnswersThen, blank, NotLookedAt, AnswerFits, NeverTimeout}

module _ (kind : Kind) where
  -- nothing behind a failing command is answered
  answers-stop : (mark : ℕ) (c : Command) (after : List Command) (m : List ℕ) → fails kind (length m) c ≡ true → (before : List Command)
      → answers kind mark m (before ++ (c ∷ after)) ≡ answers kind mark m (before ++ (c ∷ []))
  unfolding answers
  answers-stop mark c after m f [] = rw f
  answers-stop mark c after m f (b ∷ before) =
      rw (answers-stop mark c after (after_moves m (moves_of kind b)) (rw (length-after m (moves_of kind b)) f) before)

  -- the answer to the command behind `before`
  answers_at : (mark : ℕ) (c : Command) (after : List Command) (before : List Command) (m : List ℕ) → carried kind (length m) before ≡ before
      → get_or (answers kind mark m (before ++ (c ∷ after))) (length before) failed ≡ answer_of kind mark (after_moves m (moves kind (length m) before)) c
  unfolding answers
  answers_at mark c after [] m e = rw (moves-none kind (length m), after_none m)
  answers_at mark c after (b ∷ before) m e =
      rw (moves_more kind (length m) b before) (go (fails kind (length m) b) (rw (carried-more kind (length m) b before) at e) (λ m' g. answers_at mark c after before m' g))
    where
      m' : List ℕ
      m' = after_moves m (moves_of kind b)

      kept : length m' ≡ length m
      kept = length-after m (moves_of kind b)

      go : (t : Bool) → cond t [] (b ∷ carried kind (length m) before) ≡ b ∷ before
          → ((m' : List ℕ) → carried kind (length m') before ≡ before
          → get_or (answers kind mark m' (before ++ (c ∷ after))) (length before) failed ≡ answer_of kind mark (after_moves m' (moves kind (length m') before)) c)
          → get_or (cond t [] (answers kind mark m' (before ++ (c ∷ after)))) (length before) failed
          ≡ answer_of kind mark (after_moves m (cond t [] (moves_of kind b ++ moves kind (length m) before))) c
      go true e ih = let z : ◌≡◌ {A = ℕ} 0 1 = cc in absurd (omega arith)
      go false e ih =
          let rest : carried kind (length m) before ≡ before = cc in
          rw after-append (rw kept at (ih m' (rw kept rest)))

  -- no answer is Timeout
  never : (mark : ℕ) (m : List ℕ) (cs : List Command) (i : ℕ) → (get_or (answers kind mark m cs) i failed).status ≡ Timeout → ⊥
  unfolding answers answer_of
  never mark m [] i e = let z : ◌≡◌ {A = ℕ} 0 1 = cc in omega arith
  never mark m (c ∷ cs) i e = go (fails kind (length m) c) i e (never mark (after_moves m (moves_of kind c)) cs)
    where
      rest : List Answered
      rest = answers kind mark (after_moves m (moves_of kind c)) cs

      go : (t : Bool) (i : ℕ) → (get_or (cond t failed (done kind mark m c) ∷ cond t [] rest) i failed).status ≡ Timeout → ((j : ℕ) → (get_or rest j failed).status ≡ Timeout → ⊥) → ⊥
      go true zero e ih = let z : ◌≡◌ {A = ℕ} 0 1 = cc in omega arith
      go true (suc i) e ih = let z : ◌≡◌ {A = ℕ} 0 1 = cc in omega arith
      go false zero e ih = let z : ◌≡◌ {A = ℕ} 0 1 = cc in omega arith
      go false (suc i) e ih = ih i e

-- answers one by one, and an answer's words
pub answers-none : (kind : Kind) (mark : ℕ) (m : List ℕ) → answers kind mark m [] ≡ []
unfolding answers
answers-none kind mark m = refl

pub answers-more : (kind : Kind) (mark : ℕ) (m : List ℕ) (c : Command) (cs : List Command)
    → answers kind mark m (c ∷ cs)
    ≡ cond (fails kind (length m) c) failed (done kind mark m c) ∷ cond (fails kind (length m) c) [] (answers kind mark (after_moves m (moves_of kind c)) cs)
unfolding answers answer_of
answers-more kind mark m c cs = refl

pub answer-to : (r : Request) (mark : ℕ) (m : List ℕ) → answer_to r mark m ≡ answers (kind_of r.byte0) mark m r.commands
unfolding answer_to
answer-to r mark m = refl

pub words-to : (r : Request) (mark : ℕ) (m : List ℕ) → words_to r mark m ≡ answer_words (answer_byte r.byte0) (answer_to r mark m)
unfolding words_to
words-to r mark m = refl

-- byte 1 is a write's alone
unseen : (kind : Kind) (mark : ℕ) (m : List ℕ) (cs : List Command) → (kind ≡ Write → ⊥) → answers kind mark m (map blank cs) ≡ answers kind mark m cs
unfolding answers answer_of
unseen kind mark m [] h = refl
unseen Nop mark m (c ∷ cs) h = rw (unseen Nop mark (after_moves m (moves_of Nop c)) cs h)
unseen Write mark m (c ∷ cs) h = absurd (h refl)
unseen Read mark m (c ∷ cs) h = rw (unseen Read mark (after_moves m (moves_of Read c)) cs h)
unseen Response mark m (c ∷ cs) h = rw (unseen Response mark (after_moves m (moves_of Response c)) cs h)

pub not-looked-at : (r : Request) (mark : ℕ) (memory : List ℕ) → NotLookedAt r mark memory
unfolding answer_to
not-looked-at r mark memory h = unseen (kind_of r.byte0) mark memory r.commands h

pub stops-there : (r : Request) (mark : ℕ) (memory : List ℕ) → Stops r mark memory
unfolding answer_to
stops-there r mark memory before c after e f =
    (memory-stops r memory before c after e f, rw e (answers-stop (kind_of r.byte0) mark c after memory f before))

pub never-timeout : (r : Request) (mark : ℕ) (memory : List ℕ) → NeverTimeout r mark memory
unfolding answer_to
never-timeout r mark memory = never (kind_of r.byte0) mark memory r.commands

-- the answer of a command by its kind, m being memory at that moment
module _ (mark : ℕ) (m : List ℕ) (c : Command) where
  read-long : fails Read (length m) c ≡ false → length (ok_words Read mark m c) ≡ c.count
  read-long e =
      let i = within (length m) c.address c.count e in
      length-take-le c.count (drop (c.address / 4) m) (simp length-drop (omega arith))

  module _ (kind : Kind) where
    answer-error : fails kind (length m) c ≡ true → answer_of kind mark m c ≡ failed
    unfolding answer_of
    answer-error e = rw e

    answer-done : fails kind (length m) c ≡ false → answer_of kind mark m c ≡ done kind mark m c
    unfolding answer_of
    answer-done e = rw e

    answer-nop : kind ≡ Nop → (answer_of kind mark m c).payload ≡ take c.count (advertisement mark)
    unfolding answer_of
    answer-nop k = rw k

    answer-write : kind ≡ Write → (answer_of kind mark m c).payload ≡ []
    unfolding answer_of
    answer-write k = rw k (go (fails Write (length m) c))
      where
        go : (b : Bool) → (cond b failed (done Write mark m c)).payload ≡ []
        go true = refl
        go false = refl

    answer-read : kind ≡ Read → fails Read (length m) c ≡ false → (answer_of kind mark m c).payload ≡ ok_words Read mark m c
    unfolding answer_of
    answer-read k e = rw (k, e)

pub answers-then : (r : Request) (mark : ℕ) (memory : List ℕ) → AnswersThen r mark memory
unfolding answer_to
answers-then r mark memory before c after e ok =
    let kind = kind_of r.byte0 in
    let m : List ℕ = after_moves memory (moves kind (length memory) before) in
    let n : length m ≡ length memory = length-after memory (moves kind (length memory) before) in
    let a : get_or (answers kind mark memory r.commands) (length before) failed ≡ answer_of kind mark m c = rw e (answers_at kind mark c after before memory ok) in
    rw a (record {
      error = λ f. answer-error mark m c kind (rw n f);
      fine = λ f. rw (answer-done mark m c kind (rw n f));
      nop = λ k. answer-nop mark m c kind k;
      write = λ k. answer-write mark m c kind k;
      read = λ k f. rw (answer-read mark m c kind k (rw n f)) (read-long mark m c (rw n f));
      words = λ k f j l. rw (memory-by (asking r before) memory, answer-read mark m c kind k (rw n f), get_or-take, get_or-drop);
    })

-- an OK answer's data are words, as many as asked
module _ (byte0 mark : ℕ) (small : mark < 4294967296) where
  advert-words : Words (advertisement mark)
  advert-words = below_all 4294967296 (advertisement mark) all
    where
      all : (i : ℕ) → get_or (advertisement mark) i 0 < 4294967296
      all zero = lit< tt
      all (suc zero) = small
      all (suc (suc i)) = lit< tt

  ok-fits : (kind : Kind) (m : List ℕ) (c : Command) → kind_of byte0 ≡ kind → Words m → FitsCommand byte0 c → fails kind (length m) c ≡ false
      → FitsAnswered byte0 c (done kind mark m c)
  ok-fits Nop m c k h f e =
      let two = leb-true c.count 2 (rw k at f.counted) in
      record { long = rw k (length-take-le c.count (advertisement mark) two); words = below-take 4294967296 c.count (advertisement mark) advert-words }
  ok-fits Write m c k h f e = record { long = rw k; words = below_all 4294967296 [] (λ i. lit< tt) }
  ok-fits Read m c k h f e =
      record { long = rw k (read-long mark m c e); words = below-take 4294967296 c.count (drop (c.address / 4) m) (below-drop 4294967296 (c.address / 4) m h) }
  ok-fits Response m c k h f e = record { long = rw k; words = below_all 4294967296 [] (λ i. lit< tt) }

  all_fit : (kind : Kind) (m : List ℕ) (cs : List Command) → kind_of byte0 ≡ kind → Words m → none cs ≡ false → All (FitsCommand byte0) cs
      → FitsAnswers byte0 cs (answers kind mark m cs)
  unfolding answers answer_of
  all_fit kind m [] k h s f = absurd (false≢true (sym s))
  all_fit kind m (c ∷ cs) k h s f = go (fails kind (length m) c) cs refl (all_rest (FitsCommand byte0) c cs f) (λ t. all_fit kind (after_moves m (moves_of kind c)) cs k (words-after m (moves_of kind c) h) t (all_rest (FitsCommand byte0) c cs f))
    where
      go : (b : Bool) (cs : List Command) → fails kind (length m) c ≡ b → All (FitsCommand byte0) cs
          → (none cs ≡ false → FitsAnswers byte0 cs (answers kind mark (after_moves m (moves_of kind c)) cs))
          → FitsAnswers byte0 (c ∷ cs) (cond b failed (done kind mark m c) ∷ cond b [] (answers kind mark (after_moves m (moves_of kind c)) cs))
      go true cs e g ih = fits-stop byte0 c cs failed (record { long = refl; words = below_all 4294967296 [] (λ i. lit< tt) }) refl
      go false [] e g ih = fits-stop byte0 c [] (done kind mark m c) (ok-fits kind m c k h (all_first (FitsCommand byte0) c cs f) e) refl
      go false (d ∷ ds) e g ih = fits_on byte0 c (d ∷ ds) (done kind mark m c) _ (ok-fits kind m c k h (all_first (FitsCommand byte0) c cs f) e) refl (ih refl)

pub answer-fits : (r : Request) (mark : ℕ) (memory : List ℕ) → Fits r → Words memory → mark < 4294967296 → AnswerFits r mark memory
unfolding answer_to words_to
answer-fits r mark memory f h small =
    let g = all_fit r.byte0 mark small (kind_of r.byte0) memory r.commands refl h f.asked.some f.asked.all in
    record { fits = g; short = omega (arith, answers-long r.byte0 r.commands _ g, f.answer) }

-- the fixed discovery: memory stays, and the answer is the advertisement
pub discovery-quiet : (memory : List ℕ) → memory_after discovery_request memory ≡ memory
discovery-quiet memory = quiet discovery_request memory (λ e. let z : ◌≡◌ {A = ℕ} 0 1 = let k : Nop ≡ Write = sym discovery-kind ∙ e in cc in omega arith)

pub discovery-words : (mark : ℕ) (memory : List ℕ) → words_to discovery_request mark memory ≡ discovery_answer mark
unfolding words_to answer_to answers answer_of
discovery-words mark memory = rw discovery-kind (answer.discovery-words mark)
