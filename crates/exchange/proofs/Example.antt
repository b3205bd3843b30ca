-- The night of specs/Example.antt, computed; and a message of each tag. Assumes nothing.
use Prim.Native.Nat.{ℕ, zero, suc, ◌+◌, ◌*◌, ◌<◌}
use mathlib.Core.Path.{◌≡◌, refl, sym, ap, ◌∙◌}
use mathlib.Core.Bool.{Bool, true, ◌&&◌}
use mathlib.Core.Logic.{inl, inr}
use mathlib.Core.Option.{Option, some}
use mathlib.Core.List.{List, [], ◌∷◌}
use native.Mathlib.Omega.{arith}
use native.Mathlib.Decide.{ℕ_discrete}
use native.Mathlib.Nat.{not-suc-le-zero}
use lib.Dec.{eqb}
use lib.ListN.{replicate}
use Rattle.word.specs.Words.{words_of, bytes_of, put, put_words, same}
use Rattle.word.specs.Enables.{byte_of, bit_of, of_bytes, merged}
use Rattle.word.proofs.Crossing.{bytes_below}
use Rattle.header.specs.declared.refusal.Refusal.{Refusal}
use Rattle.header.specs.Limits.{limit, limit_bytes, length_ok}
use Rattle.header.specs.Refusal.{refusal}
use Rattle.header.specs.Header.{kind_no, byte0_from, header_from, head_of}
use Rattle.message.specs.Faults.{pattern_ok, fault_of}
use Rattle.message.specs.Walk.{step_on, command_of, commands_from, ended, read, request_of}
use Rattle.message.specs.Address.{address_from}
use Rattle.message.specs.Request.{replies}
use Rattle.message.specs.Discovery.{discovery_bytes}
use Rattle.answer.specs.Answer.{status_no, answer_byte, answer_fault, seen_of, look_on, answers_from, judge, answered_words}
use Rattle.answer.specs.Answer.{answer_words}
use Rattle.memory.specs.Moves.{outside, fetches, stores_behind, stores, moves, after_moves, memory_after}
use Rattle.carrying.specs.Answers.{answer_of, answers, answer_to, words_to}
use Rattle.tags.specs.declared.record.TagRecord.{TagRecord}
use Rattle.tags.specs.Rule.{expected, rule_of}
use Rattle.tags.specs.Record.{places, fresh_record, holds, words_at, request_at, written, one_more, mark_of}
use Rattle.tags.specs.Record.{words_ok, place_ok, places_ok, held_ok, record_ok}
use Rattle.completer.specs.Verdict.{as_kept}
use Rattle.completer.specs.Serving.{answer_by}
use Rattle.completer.specs.Controller.{Controller, lent, After}
use Rattle.initiator.specs.Outcome.{judged_by, ending_at, data_at}
use Rattle.initiator.specs.Asking.{plainly, asked_as, asks_as}
use Rattle.initiator.proofs.Laws.Places.{new-small}
use Rattle.initiator.specs.Places.{sender_ok, has_room, place_in, mark_at, answered_at, waits_for, new_tag, with_one, marked}
use Rattle.initiator.specs.Places.{ending_of, without}
use Rattle.initiator.specs.Sender.{idle, accepted_at, offering, sending, offer_of, send_of, take_of}
use Rattle.once.specs.World.{World, Event, Origin, start}
use Rattle.once.specs.Promise.{Allowed}
use Rattle.once.proofs.Checked.{both_true}
use Rattle.exchange.specs.Outcomes.{Outcome, each, told}
use Rattle.exchange.specs.Ends.{Loader, sent_in, ends}
use Rattle.exchange.specs.Terms.{Offers, Lendable, terms, Sound}
use Rattle.exchange.specs.Promise.{Begins, window, ages, morning, nop_of}
use Rattle.exchange.specs.Example.{controller, loader, output, longer, write, reading, underway, night, given}
use Rattle.exchange.specs.Example.{outcomes, Played}
use Rattle.exchange.proofs.Quick.{quick, quick-is}
use Rattle.exchange.proofs.Checked.{long, least-sound, Lends, allowed?, allowed-so, played?, Known, played-so}

-- A NOP of each tag is let by, computed; so it fits a sender of that next tag.
abbrev nops_asked : ℕ → Bool
nops_asked zero = true
nops_asked (suc n) = asks_as (eqb n) (read (nop_of n)) && nops_asked n

nops-computed : nops_asked 16 ≡ true
unfolding words_of bytes_of kind_no byte0_from header_from head_of pattern_ok fault_of step_on address_from command_of commands_from
    replies ended length_ok read plainly asked_as asks_as
nops-computed = refl

nop-asked : (n t : ℕ) → t < n → nops_asked n ≡ true → asks_as (eqb t) (read (nop_of t)) ≡ true
nop-asked zero t h e = absurd (not-suc-le-zero h)
nop-asked (suc n) t h e =
    let p = both_true (asks_as (eqb n) (read (nop_of n))) _ e in
    go p.0 (λ l. nop-asked n t l p.1) (ℕ_discrete t n)
  where
    go : asks_as (eqb n) (read (nop_of n)) ≡ true → (t < n → asks_as (eqb t) (read (nop_of t)) ≡ true) → Dec (t ≡ n)
        → asks_as (eqb t) (read (nop_of t)) ≡ true
    go last others (yes q) = rw q last
    go last others (no q) = others (omega arith)

pub nop-fits : (s : Loader) → Offers s (nop_of (new_tag s.sender))
nop-fits s =
    record { bytes = bytes_below _; asked = nop-asked 16 (new_tag s.sender) (new-small s.sender) nops-computed }

-- the controller and the outputs are allowed
pub controller-sound : Sound controller
unfolding record_ok
controller-sound = least-sound (0 ∷ 0 ∷ []) 0 fresh_record refl refl

begun : Begins controller loader
begun = record { sound = controller-sound; nothing = refl; pair = inl (record { tags = refl; sender = refl }) }

pub output-long : Lendable output
output-long = long limit_bytes 170

pub longer-long : Lendable longer
longer-long = omega (arith, long (limit_bytes + 3) 85)

underway-lends : Lendable output → Lendable longer → Lends underway
underway-lends o g = (o, (o, (g, (o, (o, (o, (g, (o, (o, tt)))))))))

night-lends : Lendable output → Lendable longer → Lends night
night-lends o g = (o, (o, (g, (o, (o, (o, (g, (o, (o, (o, (o, (o, tt))))))))))))

-- what is looked at in the end, and what it is
record End : Type 0 where
  answers : List (Origin × Option (List ℕ))
  memory : List ℕ
  tags : TagRecord
  outcomes : List Outcome
  sender : Loader
  older : Refusal

abbrev look : World ends → End
look w = record {
  answers = w.answers;
  memory = w.controller.memory;
  tags = w.controller.tags;
  outcomes = w.outcomes;
  sender = w.sender;
  older = (quick w.controller output write).refusal;
}

abbrev tags_then : TagRecord
tags_then = record { held = 4; tag = 4; words = 1 ∷ 3 ∷ 1 ∷ 3 ∷ []; request = 3 ∷ 2 ∷ 3 ∷ 2 ∷ [] }

abbrev end : End
end = record {
  answers = given;
  memory = 0xABADCAFE ∷ 0 ∷ [];
  tags = tags_then;
  outcomes = outcomes;
  sender = record { sender = idle 5; waiting = [] };
  older = refusal 11;
}

-- and before the first answer is back
abbrev look_underway : World ends → List Outcome × List ℕ
look_underway w = (w.outcomes, w.controller.memory)

-- the same record over another memory, other stored answers and other kept requests
abbrev before : Controller
before = lent (7 ∷ []) (replicate (places * limit) 9) (replicate (places * limit_bytes) 9) tags_then

before-sound : Sound before
unfolding record_ok held_ok places_ok place_ok words_ok
before-sound = least-sound (7 ∷ []) 9 tags_then refl refl

-- events from the start, played under the premises
abbrev Premises : World ends → Event ends → Type 0
Premises w e = Allowed ends terms window ages w e

module _ {A : Type 0} (look : World ends → A) (es : List (Event ends)) where
  abbrev plays : Option A
  plays = played? Premises (allowed? ages) (allowed-so ages) look (start ends controller loader) es

  known : (end : A) → Lends es → plays ≡ some end
      → Known Premises (allowed? ages) (allowed-so ages) look (start ends controller loader) es end
  known end l e =
      played-so Premises (allowed? ages) (allowed-so ages) look (start ends controller loader) es end controller-sound l e

-- computed
record Computed : Type 0 where
  night : plays look night ≡ some end
  underway : plays look_underway underway ≡ some ([], 0xABADCAFE ∷ 0xFEEDC0DE ∷ [])
  early : (quick controller output reading).refusal ≡ refusal 11
  discovered : sent_in (quick before output discovery_bytes) ≡ some (bytes_of (0x800200B0 ∷ limit_bytes ∷ 0x00000014 ∷ []))

computed : Computed
unfolding words_of bytes_of put put_words same byte_of bit_of of_bytes merged kind_no byte0_from header_from head_of pattern_ok
    fault_of step_on address_from command_of commands_from replies ended length_ok read status_no answer_byte answer_fault seen_of
    look_on answers_from judge answered_words answer_words outside fetches stores_behind stores moves after_moves memory_after
    answer_of answers answer_to words_to request_of holds words_at request_at written one_more expected mark_of rule_of as_kept
    answer_by discovery_bytes judged_by ending_at data_at plainly asked_as asks_as sender_ok has_room place_in mark_at answered_at
    waits_for new_tag with_one marked ending_of without accepted_at offering sending offer_of send_of take_of each told
computed = record { night = refl; underway = refl; early = refl; discovered = refl }

pub played : Played
played =
    let o = output-long in
    let n = known look night end (night-lends o longer-long) computed.night in
    let u = known look_underway underway _ (underway-lends o longer-long) computed.underway in
    let last = (morning controller loader night).controller in
    record {
      begins = begun;
      allowed = n.allowed;
      given = ap (λ (x : End). x.answers) n.seen;
      none = ap (λ (x : List Outcome × List ℕ). x.0) u.seen;
      four = ap (λ (x : List Outcome × List ℕ). x.1) u.seen;
      early = ap (λ (a : After). a.refusal) (quick-is controller output reading controller-sound o) ∙ computed.early;
      older =
          ap (λ (a : After). a.refusal) (quick-is last output write n.sound o)
          ∙ ap (λ (x : End). x.older) n.seen;
      memory = ap (λ (x : End). x.memory) n.seen;
      outcomes = ap (λ (x : End). x.outcomes) n.seen;
      sender = ap (λ (x : End). x.sender) n.seen;
      anew =
          record {
            sound = n.sound;
            nothing = refl;
            pair =
                inr (record {
                  earlier = before;
                  sound = before-sound;
                  since = sym (ap (λ (x : End). x.tags) n.seen);
                  lent = output;
                  long = o;
                  answer = bytes_of (0x800200B0 ∷ limit_bytes ∷ 0x00000014 ∷ []);
                  given = ap sent_in (quick-is before output discovery_bytes before-sound o) ∙ computed.discovered;
                  sender = refl;
                });
          };
    }
