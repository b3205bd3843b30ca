-- The two ages are sharp, and counted from the newest that waits: computed, `sharp`. Assumes nothing.
use Prim.Native.Nat.{ℕ, zero, suc}
use mathlib.Core.Path.{◌≡◌, refl, sym, ◌∙◌, ap}
use mathlib.Core.Bool.{Bool, true}
use mathlib.Core.Option.{Option, some}
use mathlib.Core.List.{List}
use native.Mathlib.Omega.{arith}
use lib.ListN.{length, get_or, take}
use lib.Seq.{take_all}
use Rattle.word.specs.Words.{words_of, bytes_of, put, put_words, same}
use Rattle.word.specs.Enables.{byte_of, bit_of, of_bytes, merged}
use Rattle.header.specs.Header.{kind_no, byte0_from, header_from, head_of}
use Rattle.header.specs.Limits.{length_ok}
use Rattle.message.specs.Faults.{pattern_ok, fault_of}
use Rattle.message.specs.Walk.{step_on, command_of, commands_from, ended, read, request_of}
use Rattle.message.specs.Address.{address_from}
use Rattle.message.specs.Request.{replies}
use Rattle.answer.specs.Answer.{status_no, answer_byte, answer_fault, seen_of, look_on, answers_from, judge, answered_words}
use Rattle.answer.specs.Answer.{answer_words}
use Rattle.memory.specs.Moves.{outside, fetches, stores_behind, stores, moves, after_moves, memory_after}
use Rattle.carrying.specs.Answers.{answer_of, answers, answer_to, words_to}
use Rattle.tags.specs.Rule.{expected, rule_of}
use Rattle.tags.specs.Record.{holds, words_at, request_at, written, one_more, mark_of}
use Rattle.completer.specs.Verdict.{as_kept}
use Rattle.completer.specs.Serving.{answer_by}
use Rattle.initiator.specs.Outcome.{judged_by, ending_at, data_at}
use Rattle.initiator.specs.Asking.{plainly, asked_as, asks_as}
use Rattle.initiator.specs.Places.{sender_ok, has_room, place_in, mark_at, answered_at, waits_for, new_tag, with_one, marked}
use Rattle.initiator.specs.Places.{ending_of, without}
use Rattle.initiator.specs.Sender.{accepted_at, offering, sending, offer_of, send_of, take_of}
use Rattle.once.specs.World.{World, Event, finished, start}
use Rattle.once.specs.Promise.{Ages, made}
use Rattle.exchange.specs.Outcomes.{each, told}
use Rattle.exchange.specs.Ends.{ends}
use Rattle.exchange.specs.Terms.{Lendable, terms}
use Rattle.exchange.specs.Promise.{morning, FirstMessages}
use Rattle.exchange.specs.Example.{controller, loader, output}
use Rattle.exchange.specs.Sharp.{Aged, later_requests, late_request, later_answers, late_answer}
use Rattle.exchange.specs.Sharp.{ByOldest, behind_newest, Breaks, Sharp}
use Rattle.exchange.proofs.Checked.{LentAt, Lends, allowed?, allowed-so, by-oldest?, by-oldest-so, played?}
use Rattle.exchange.proofs.Checked.{played-so}
use Rattle.exchange.proofs.Example.{controller-sound, output-long}

-- what is looked at in the end: how many were offered, how many are finished, word 0 of memory, and what all of the
-- messages make of it
abbrev look : World ends → ℕ × ℕ × ℕ × ℕ
look w =
    let all = made terms controller.memory w.offered in
    (length w.offered, finished ends w, get_or w.controller.memory 0 0, get_or all 0 0)

-- Where all that were offered are finished, memory whose word 0 is not that which all of them make breaks the promise.
broken : (w : World ends) (n u v : ℕ) → (u ≡ v → ⊥) → look w ≡ (n, n, u, v) → FirstMessages controller.memory w → ⊥
broken w n u v unlike e s =
    let o = ap (λ (x : ℕ × ℕ × ℕ × ℕ). x.0) e in
    let f = ap (λ (x : ℕ × ℕ × ℕ × ℕ). x.1) e in
    let all : take s.k w.offered ≡ w.offered = take_all s.k w.offered (omega (arith, s.least, o, f)) in
    unlike
    (sym (ap (λ (x : ℕ × ℕ × ℕ × ℕ). x.2) e)
    ∙ ap (λ (l : List ℕ). get_or l 0 0) (s.memory ∙ ap (made terms controller.memory) all)
    ∙ ap (λ (x : ℕ × ℕ × ℕ × ℕ). x.3) e)

-- a night that passes the test: its premises hold, and it breaks the promise
module _ (Premises : World ends → Event ends → Type 0) (test : World ends → Event ends → Bool)
    (so : (w : World ends) (e : Event ends) → LentAt e → test w e ≡ true → Premises w e) where
  breaks : (es : List (Event ends)) → Lends es → (n u v : ℕ) → (u ≡ v → ⊥)
      → played? Premises test so look (start ends controller loader) es ≡ some (n, n, u, v) → Breaks Premises es
  breaks es l n u v unlike e =
      let p = played-so Premises test so look (start ends controller loader) es (n, n, u, v) controller-sound l e in
      (p.allowed, broken (morning controller loader es) n u v unlike p.seen)

-- n times the same output is lent
abbrev pub Times : ℕ → Type 0
Times zero = Unit {0}
Times (suc n) = Lendable output × Times n

pub times : (n : ℕ) → Times n
times zero = tt
times (suc n) = (output-long, times n)

-- with these ages
abbrev aged? : Ages → List (Event ends) → Option (ℕ × ℕ × ℕ × ℕ)
aged? A es = played? (Aged A) (allowed? A) (allowed-so A) look (start ends controller loader) es

aged : (A : Ages) (es : List (Event ends)) → Lends es → (n u v : ℕ) → (u ≡ v → ⊥) → aged? A es ≡ some (n, n, u, v)
    → Breaks (Aged A) es
aged A es l n u v unlike e = breaks (Aged A) (allowed? A) (allowed-so A) es l n u v unlike e

-- the three nights, computed
record Computed : Type 0 where
  requests : aged? later_requests late_request ≡ some (16, 16, 1, 16)
  answers : aged? later_answers late_answer ≡ some (17, 17, 16, 17)
  oldest :
      played? ByOldest by-oldest? by-oldest-so look (start ends controller loader) behind_newest
      ≡ some (17, 17, 16, 17)

computed : Computed
unfolding words_of bytes_of put put_words same byte_of bit_of of_bytes merged kind_no byte0_from header_from head_of pattern_ok
    fault_of step_on address_from command_of commands_from replies ended length_ok read status_no answer_byte answer_fault seen_of
    look_on answers_from judge answered_words answer_words outside fetches stores_behind stores moves after_moves memory_after
    answer_of answers answer_to words_to request_of holds words_at request_at written one_more expected mark_of rule_of as_kept
    answer_by judged_by ending_at data_at plainly asked_as asks_as sender_ok has_room place_in mark_at answered_at waits_for new_tag
    with_one marked ending_of without accepted_at offering sending offer_of send_of take_of each told
computed = record { requests = refl; answers = refl; oldest = refl }

-- With 15 made 16 the first of sixteen messages is carried out again. With 16 made 17 the seventeenth is finished by
-- the answer to the first, and was never carried out; so it is with answers aged by the oldest that waits.
pub sharp : Sharp
sharp =
    record {
      requests = aged later_requests late_request (times 17) 16 1 16 (λ e. omega arith) computed.requests;
      answers = aged later_answers late_answer (times 16) 17 16 17 (λ e. omega arith) computed.answers;
      oldest =
          breaks ByOldest by-oldest? by-oldest-so behind_newest (times 16) 17 16 17 (λ e. omega arith)
          computed.oldest;
    }
