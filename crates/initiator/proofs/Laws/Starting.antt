-- A sender made from the answer to the fixed discovery, check by check. The proof of `discovered` cites these. Assumes nothing.
use Prim.Native.Nat.{ℕ, ◌+◌, ◌%◌, ◌≤◌, ◌<◌}
use mathlib.Core.Path.{◌≡◌, refl, sym, ap, ◌∙◌}
use mathlib.Core.Logic.{◌⊎◌, inl, inr}
use mathlib.Core.Bool.{Bool, true, false, cond, false≢true}
use mathlib.Core.List.{List, [], ◌∷◌}
use native.Mathlib.Omega.{arith}
use borrow.Author.Tests.{ltb-true, ltb-false, le-ltb, lt-ltb, ne_eqb}
use lib.Dec.{ltb, eqb}
use lib.ListN.{get_or, take, drop}
use lib.Seq.{get_or-take, get_or-drop}
use Rattle.word.specs.Words.{words_of}
use Rattle.header.specs.declared.Kind.{Kind}
use Rattle.header.specs.declared.Kind.TheVariants.{Nop}
use Rattle.header.specs.declared.refusal.Refusal.{Refusal}
use Rattle.header.specs.Header.{kind_of, reply_words, next_tag}
use Rattle.header.specs.Refusal.{refusal}
use Rattle.message.specs.Discovery.{discovery_byte, discovery_command, discovery_request}
use Rattle.message.specs.Request.{Means, Refused as RefusedReading}
use Rattle.message.proofs.Laws.Fixed.{discovery-kind}
use Rattle.answer.specs.declared.Status.{Status}
use Rattle.answer.specs.declared.Status.TheVariants.{Ok, Timeout, Error}
use Rattle.answer.specs.declared.Seen.{Seen}
use Rattle.std.specs.Prelude.{Ok as OkResult, Err}
use Rattle.answer.specs.Answer.{Answered, wanted, look_at, look_turn, answers_from, head_fault, judge}
use Rattle.answer.proofs.Laws.Looking.{judge-passed, judge-refused, looked, Found, found}
use Rattle.initiator.specs.declared.sender.Moved.{Moved}
use Rattle.initiator.specs.Sender.{idle, fresh_sender, word_ok, next_after, sender_from, sender_by, discovered_from, discovered_by, or_stopped, spoiled, started_at, started_by, start_of}

module _ (answer : List ℕ) (byte0 : ℕ) (is : byte0 ≡ discovery_byte) where
  -- 32, 33
  pub start-head : ((head_fault byte0 answer).number ≡ 0 → ⊥) → Err (head_fault byte0 answer) ≡ discovered_by answer
  start-head n = rw (judge-refused discovery_request answer (rw is at n), is)

  module _ (pass : (head_fault byte0 answer).number ≡ 0) where
    abbrev ws : List ℕ
    ws = words_of answer

    -- the one header is looked at
    looks : discovered_by answer ≡ discovered_from (look_turn (look_at byte0 2 true ws 0) (drop (0 + 1) ws) (λ n. answers_from discovery_byte (0 + 1 + n) [] (drop (0 + 1 + n) ws)))
    looks = rw (judge-passed discovery_request answer (rw is at pass), is, looked discovery_byte discovery_command [] ws 0)

    pub start-bad : (r : Refusal) → look_at byte0 2 true ws 0 ≡ Err r → Err r ≡ discovered_by answer
    start-bad r e = rw (looks, e)

    module _ (s : Seen) (e : look_at byte0 2 true ws 0 ≡ OkResult s) where
      pub start-found : Found byte0 2 true ws 0 s
      start-found = found byte0 2 true ws 0 s e

      last-is : s.last ≡ true
      last-is = go s.last refl
        where
          go : (b : Bool) → s.last ≡ b → b ≡ true
          go true z = refl
          go false z = absurd (false≢true (sym (start-found.more z)))

      start-item : sender_by s.status (get_or (take s.count (drop (0 + 1) ws)) 1 0) ≡ discovered_by answer
      start-item = rw (looks, e, last-is)

      -- by its status
      pub start-as : (t : Status) → s.status ≡ t → sender_by t (get_or (take s.count (drop (0 + 1) ws)) 1 0) ≡ discovered_by answer
      start-as t o = ap (λ (x : Status). sender_by x (get_or (take s.count (drop (0 + 1) ws)) 1 0)) (sym o) ∙ start-item

      pub start-failed : (s.status ≡ Timeout) ⊎ (s.status ≡ Error) → Err (refusal 38) ≡ discovered_by answer
      start-failed (inl t) = start-as Timeout t
      start-failed (inr t) = start-as Error t

      -- an OK answer has two words, and word 1 is the datagram's third
      pub start-two : s.status ≡ Ok → s.count ≡ 2
      start-two o =
          let k : kind_of byte0 ≡ Nop = ap kind_of is ∙ discovery-kind in
          start-found.counted ∙ ap (wanted byte0 2) o ∙ ap (λ (x : Kind). reply_words x 2) k

      pub start_word : s.status ≡ Ok → get_or (take s.count (drop (0 + 1) ws)) 1 0 ≡ get_or ws 2 0
      start_word o = get_or-take s.count (drop (0 + 1) ws) 1 0 (omega (arith, start-two o)) ∙ get_or-drop (0 + 1) ws 1 0

-- a word that is no advertisement word 1
pub no-sender : (w : ℕ) → (w ≡ 0 → ⊥) → (16 ≤ w → w < 32 → ⊥) → Err (refusal 38) ≡ sender_from w
unfolding word_ok
no-sender w z n = go (ltb w 16) refl
  where
    go : (b : Bool) → ltb w 16 ≡ b → Err (refusal 38) ≡ cond (cond b (eqb w 0) (ltb w 32)) (OkResult (idle (next_after w))) (Err (refusal 38))
    go true e = rw (ne_eqb w 0 z)
    go false e = rw (le-ltb w 32 (past (ltb w 32) refl))
      where
        past : (b : Bool) → ltb w 32 ≡ b → 32 ≤ w
        past true f = absurd (n (ltb-false w 16 e) (ltb-true w 32 f))
        past false f = ltb-false w 32 f

-- an answer that is judged to say something
pub start-means : (answer : List ℕ) (a : Answered) (more : List Answered) → judge discovery_request answer ≡ Means (a ∷ more)
    → start_of answer ≡ started_by a.status (get_or a.payload 1 0)
unfolding start_of started_at
start-means answer a more e = rw e (go a.status)
  where
    go : (s : Status) → or_stopped (sender_by s (get_or a.payload 1 0)) ≡ started_by s (get_or a.payload 1 0)
    go Ok = refl
    go Timeout = refl
    go Error = refl

-- one that is refused
pub start-refused : (answer : List ℕ) (r : Refusal) → judge discovery_request answer ≡ RefusedReading r
    → start_of answer ≡ spoiled r
unfolding start_of
start-refused answer r e = rw e

-- what word 1 makes: of a fresh controller, and of one that holds a tag
pub fresh-starts : started_at 0 ≡ record { refusal = refusal 0; sender = fresh_sender }
unfolding started_at word_ok next_after
fresh-starts = refl

pub held-starts : (tag : ℕ) → tag < 16 → started_at (tag + 16) ≡ record { refusal = refusal 0; sender = idle (next_tag tag) }
unfolding started_at word_ok next_after
held-starts tag h =
    let n : (tag + 16) % 16 ≡ tag = omega arith in
    rw (le-ltb (tag + 16) 16 (omega arith), lt-ltb (tag + 16) 32 (omega arith), n)

pub started-fresh : (started_at 0).sender ≡ fresh_sender
started-fresh = ap (λ (m : Moved). m.sender) fresh-starts

pub started-held : (tag : ℕ) → tag < 16 → (started_at (tag + 16)).sender ≡ idle (next_tag tag)
started-held tag h = ap (λ (m : Moved). m.sender) (held-starts tag h)
