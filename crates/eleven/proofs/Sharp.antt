-- The nights of specs/Kept.antt, computed: the lives by `lives-so`, and what then comes by `quick`, under no premises.
-- Assumes nothing.
use Prim.Native.Nat.{ℕ, zero, suc, ◌≤◌}
use mathlib.Core.Path.{◌≡◌, refl, sym, ap, subst, ◌∙◌}
use mathlib.Core.Bool.{true, false≢true}
use mathlib.Core.Option.{Option, some}
use mathlib.Core.List.{List, [], ◌∷◌, ◌++◌}
use native.Mathlib.Omega.{arith}
use lib.ListN.{get_or, take}
use Rattle.word.specs.Words.{words_of, bytes_of, put, put_words, same}
use Rattle.word.specs.Enables.{byte_of, bit_of, of_bytes, merged}
use Rattle.header.specs.declared.refusal.Refusal.{Refusal}
use Rattle.header.specs.Limits.{length_ok}
use Rattle.header.specs.Refusal.{refusal}
use Rattle.header.specs.Header.{kind_no, byte0_from, header_from, head_of}
use Rattle.message.specs.Faults.{pattern_ok, fault_of}
use Rattle.message.specs.Walk.{step_on, command_of, commands_from, ended, read, request_of}
use Rattle.message.specs.Address.{address_from}
use Rattle.message.specs.Request.{replies}
use Rattle.message.specs.Discovery.{discovery_bytes}
use Rattle.answer.specs.Answer.{status_no, answer_byte, answer_fault, seen_of, look_on, answers_from, judge, answered_words}
use Rattle.answer.specs.Answer.{answer_words}
use Rattle.memory.specs.Moves.{outside, fetches, stores_behind, stores, moves, after_moves, memory_after}
use Rattle.carrying.specs.Answers.{answer_of, answers, answer_to, words_to}
use Rattle.tags.specs.Rule.{expected, rule_of}
use Rattle.tags.specs.Record.{holds, words_at, request_at, written, one_more, mark_of}
use Rattle.completer.specs.Verdict.{as_kept}
use Rattle.completer.specs.Controller.{Controller, After}
use Rattle.completer.specs.Serving.{answer_by}
use Rattle.initiator.specs.Outcome.{judged_by, ending_at, data_at}
use Rattle.initiator.specs.Asking.{plainly, asked_as, asks_as}
use Rattle.initiator.specs.Places.{sender_ok, has_room, place_in, mark_at, answered_at, waits_for, new_tag, with_one, marked}
use Rattle.initiator.specs.Places.{ending_of, without}
use Rattle.initiator.specs.Sender.{word_ok, next_after, started_at}
use Rattle.initiator.specs.Sender.{accepted_at, offering, sending, offer_of, send_of, take_of}
use Rattle.once.specs.Runs.{run}
use Rattle.once.specs.World.{World, Event, Origin, send, arrive, back, message, start}
use Rattle.once.specs.Promise.{made}
use Rattle.once.specs.Lives.{unasked, begun, happened}
use Rattle.exchange.specs.Outcomes.{each, told}
use Rattle.exchange.specs.Ends.{Loader, ends}
use Rattle.exchange.specs.Terms.{Finds, terms, Sound}
use Rattle.exchange.specs.Promise.{FirstMessages, window}
use Rattle.exchange.specs.Example.{loader, output, ok}
use Rattle.exchange.proofs.Quick.{quick, quick-is}
use Rattle.exchange.proofs.Checked.{Lends, quickly, played?, Known, played-so}
use Rattle.exchange.proofs.Example.{output-long}
use Rattle.exchange.proofs.Incident.Example.{Any}
use Rattle.exchange.proofs.Sharp.{times}
use Rattle.lives.specs.Lives.{restarts, left}
use Rattle.eleven.specs.Eleven.{summer, numbered, offers, at, saw}
use Rattle.eleven.specs.Kept.{before, asked, offered, stale, mixture, served, reset_once, again, answer}
use Rattle.eleven.specs.Kept.{KeptRequest, KeptAnswer}
use Rattle.eleven.proofs.Checked.{lives?, lives-so}
use Rattle.eleven.proofs.Example.{summer-sound, fresh-long}

-- events under no premises
module _ {A : Type 0} (look : World ends → A) (c : Controller) (s : Loader) (es : List (Event ends)) where
  abbrev any? : Option A
  any? = played? Any (λ w e. true) (λ w e l t. tt) look (start ends c s) es

  any-so : (end : A) → Sound c → Lends es → any? ≡ some end
      → Known Any (λ w e. true) (λ w e l t. tt) look (start ends c s) es end
  any-so end h l e = played-so Any (λ w e. true) (λ w e l t. tt) look (start ends c s) es end h l e

-- The first night: the life that is over; what is looked at, and what comes then to the controller that it left.
abbrev over : List (Event ends)
over = offers 2 1 0 0 ++ send 0 ∷ send 1 ∷ arrive 0 output ∷ back 0 ∷ []

abbrev memory_in : World ends → List ℕ
memory_in w = w.controller.memory

abbrev answers_in : World ends → List (Origin × Option (List ℕ))
answers_in w = w.answers

abbrev look_stale : World ends → List ℕ × Refusal
look_stale w = (memory_in w, (quick w.controller output (numbered 2 0 1)).refusal)

abbrev look_mixed : World ends → List ℕ × List (List ℕ)
look_mixed w = (memory_in w, w.offered)

abbrev then : List (Event ends) → List (Event ends)
then es = happened window restarts asked (offered ++ es)

abbrev mixed : List (Event ends)
mixed = stale ++ send 0 ∷ arrive 0 output ∷ []

record Later (c : Controller) : Type 0 where
  stale : any? look_stale c (at 1) (then stale) ≡ some (0x100 ∷ 0x101 ∷ 0x53 ∷ [], refusal 12)
  mixed : any? look_mixed c (at 1) (then mixed) ≡ some (0x100 ∷ 0x101 ∷ 0x53 ∷ [], numbered 2 0 1 ∷ [])

-- computed, of both nights
record Computed : Type 0 where
  first : any? memory_in summer loader over ≡ some (0x100 ∷ 0x52 ∷ 0x53 ∷ [])
  lived : lives? summer before (begun asked offered)
      ≡ some (saw 1 (ok [] ∷ []) 0x100 0x52 0x53 ∷ saw 0 [] 0x100 0x52 0x53 ∷ [])
  not : Finds (numbered 1 1 1) → ⊥
  later : Later (run quickly (start ends summer loader) over).controller
  one : made terms (0x100 ∷ 0x52 ∷ 0x53 ∷ []) (numbered 2 0 1 ∷ []) ≡ 0x200 ∷ 0x52 ∷ 0x53 ∷ []
  given : any? answers_in summer loader served ≡ some ((message 0, some answer) ∷ [])
  came_up : lives? summer reset_once (begun unasked (offers 1 2 0 0))
      ≡ some (saw 1 [] 0x100 0x52 0x53 ∷ saw 0 [] 0x100 0x52 0x53 ∷ [])
  told : ends.take again.sender answer ≡ (at 1, ok [] ∷ [])

computed : Computed
unfolding words_of bytes_of put put_words same byte_of bit_of of_bytes merged kind_no byte0_from header_from head_of pattern_ok
    fault_of step_on address_from command_of commands_from replies ended length_ok read status_no answer_byte answer_fault seen_of
    look_on answers_from judge answered_words answer_words outside fetches stores_behind stores moves after_moves memory_after
    answer_of answers answer_to words_to request_of holds words_at request_at written one_more expected mark_of rule_of as_kept
    answer_by discovery_bytes judged_by ending_at data_at plainly asked_as asks_as sender_ok has_room place_in mark_at answered_at
    waits_for new_tag with_one marked ending_of without accepted_at offering sending offer_of send_of take_of each told
    word_ok next_after started_at
computed =
    record {
      first = refl;
      lived = refl;
      not = λ f. false≢true f.only.0;
      later = record { stale = refl; mixed = refl };
      one = refl;
      given = refl;
      came_up = refl;
      told = refl;
    }

over-known : Known Any (λ w e. true) (λ w e l t. tt) memory_in (start ends summer loader) over
    (0x100 ∷ 0x52 ∷ 0x53 ∷ [])
over-known = any-so memory_in summer loader over _ summer-sound (times 1) computed.first

later-found : Later (left summer before)
later-found = subst Later (sym (ap (λ (w : World ends). w.controller) over-known.is)) computed.later

-- word 1 is not what the first k of them make of it
unlike : (k : ℕ) → k ≤ 1
    → 0x100 ∷ 0x101 ∷ 0x53 ∷ [] ≡ made terms (0x100 ∷ 0x52 ∷ 0x53 ∷ []) (take k (numbered 2 0 1 ∷ [])) → ⊥
unlike zero l e = let z : ◌≡◌ {A = ℕ} 0x101 0x52 = ap (λ (m : List ℕ). get_or m 1 0) e in omega arith
unlike (suc zero) l e =
    let z : ◌≡◌ {A = ℕ} 0x101 0x52 = ap (λ (m : List ℕ). get_or m 1 0) (e ∙ computed.one) in omega arith
unlike (suc (suc k)) l e = absurd (omega arith)

mixed-broken : FirstMessages (left summer before).memory mixture → ⊥
mixed-broken s =
    let m = (any-so look_mixed (left summer before) (at 1) (then mixed) _ over-known.sound (times 3)
    later-found.mixed).seen in
    let o = ap (λ (x : List ℕ × List (List ℕ)). x.1) m in
    unlike s.k (rw o at s.offered)
    (sym (ap (λ (x : List ℕ × List (List ℕ)). x.0) m) ∙ s.memory
    ∙ ap (λ (x : List ℕ). made terms x (take s.k mixture.offered)) over-known.seen
    ∙ ap (λ (l : List (List ℕ)). made terms (0x100 ∷ 0x52 ∷ 0x53 ∷ []) (take s.k l)) o)

pub kept-request : KeptRequest
kept-request =
    let p = lives-so summer before (begun asked offered) _ summer-sound (times 1, tt, times 1) computed.lived in
    let s = any-so look_stale (left summer before) (at 1) (then stale) _ over-known.sound (times 2)
    later-found.stale in
    record {
      allowed = p.before;
      begins = p.last;
      not = computed.not;
      memory = ap (λ (x : List ℕ × Refusal). x.0) s.seen;
      refused =
          ap (λ (a : After). a.refusal) (quick-is _ output (numbered 2 0 1) s.sound output-long)
          ∙ ap (λ (x : List ℕ × Refusal). x.1) s.seen;
      broken = mixed-broken;
    }

pub kept-answer : KeptAnswer
kept-answer =
    let p = lives-so summer reset_once (begun unasked (offers 1 2 0 0)) _ summer-sound (times 1, fresh-long 7, tt)
    computed.came_up in
    record {
      given = (any-so answers_in summer loader served _ summer-sound (times 1) computed.given).seen;
      allowed = p.before;
      begins = p.last;
      told = computed.told;
      nothing = refl;
    }
