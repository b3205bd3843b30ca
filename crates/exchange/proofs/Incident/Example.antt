-- What is computed of specs/Incident.antt, each from the controller that the life or the call finds: the calls of our
-- controller by `quick`, those of document 01's as they are. Incident.antt draws the conclusions. Assumes nothing.
use Prim.Native.Nat.{ℕ}
use mathlib.Core.Path.{◌≡◌, refl}
use mathlib.Core.Bool.{Bool, true, false, ◌&&◌}
use mathlib.Core.Option.{Option, some}
use mathlib.Core.List.{List, [], ◌∷◌, ◌++◌}
use lib.ListN.{length, replicate}
use Rattle.word.specs.Words.{words_of, bytes_of, put, put_words, same}
use Rattle.word.specs.Enables.{byte_of, bit_of, of_bytes, merged}
use Rattle.header.specs.Limits.{limit_bytes, length_ok}
use Rattle.header.specs.Refusal.{refusal}
use Rattle.header.specs.Header.{kind_no, byte0_from, header_from, head_of}
use Rattle.message.specs.Faults.{pattern_ok, fault_of}
use Rattle.message.specs.Walk.{step_on, command_of, commands_from, ended, read, request_of}
use Rattle.message.specs.Address.{address_from}
use Rattle.message.specs.Request.{replies}
use Rattle.message.specs.Discovery.{discovery_bytes}
use Rattle.answer.specs.Answer.{status_no, answer_byte, answer_fault, seen_of, look_on, answers_from, judge, answered_words}
use Rattle.answer.specs.Answer.{answer_words}
use Rattle.memory.specs.Moves.{outside, fetches, stores_behind, stores, moves, after_moves, memory_after}
use Rattle.carrying.specs.Answers.{answer_of, answers, answer_to, words_to}
use Rattle.tags.specs.Rule.{expected, rule_of}
use Rattle.tags.specs.Record.{holds, words_at, request_at, written, one_more, mark_of}
use Rattle.completer.specs.Verdict.{as_kept}
use Rattle.completer.specs.Serving.{answer_by, after}
use Rattle.completer.specs.Controller.{Controller}
use Rattle.initiator.specs.declared.sender.Sender.{Sender}
use Rattle.initiator.specs.Outcome.{judged_by, ending_at, data_at}
use Rattle.initiator.specs.Asking.{plainly, asked_as, asks_as}
use Rattle.initiator.specs.Places.{sender_ok, has_room, place_in, mark_at, answered_at, waits_for, new_tag, with_one, marked}
use Rattle.initiator.specs.Places.{ending_of, without}
use Rattle.initiator.specs.Sender.{idle, accepted_at, offering, sending, offer_of, send_of, take_of}
use Rattle.once.specs.World.{World, Event, start, offer, send, arrive, back}
use Rattle.once.specs.Runs.{run}
use Rattle.once.specs.Tags.{tags_in, next_tag}
use Rattle.exchange.specs.Outcomes.{Outcome, each, told}
use Rattle.exchange.specs.Ends.{ends, ends_by}
use Rattle.exchange.specs.Sight.{stored_by}
use Rattle.exchange.specs.Example.{loader, output, ok}
use Rattle.exchange.specs.Incident.{Call, after_base, summer, writes, life, rows, mark, first_writes, numbers}
use Rattle.exchange.specs.Incident.{left_by, half_done, four_held, four_sent, offers, whole_table}
use Rattle.exchange.proofs.Quick.{quick}
use Rattle.exchange.proofs.Checked.{below?, quickly, played?}

-- a list of messages that are bytes
abbrev pub each? : List (List ℕ) → Bool
each? [] = true
each? (m ∷ ms) = below? 256 m && each? ms

-- what is looked at after a life: outcomes, the sender's record and memory
abbrev pub Seen : Type 0
Seen = List Outcome × Sender × List ℕ

abbrev pub look : World ends → Seen
look w = (w.outcomes, w.sender.sender, w.controller.memory)

-- a life, which is under no premises
abbrev pub Any : World ends → Event ends → Type 0
Any w e = Unit {0}

module _ (c : Controller) (es : List (Event ends)) where
  abbrev pub lived? : Option Seen
  lived? = played? Any (λ w e. true) (λ w e l t. tt) look (start ends c loader) es

-- the first life, and the controller that the second finds
abbrev pub first_events : List (Event ends)
first_events = offer (writes 0 1 0x0701) ∷ send 0 ∷ arrive 0 output ∷ back 0 ∷ []

abbrev pub found_quick : Controller
found_quick = (run quickly (start ends summer loader) first_events).controller

-- the second life, by the controller that it finds
abbrev pub second_from : (call : Call) → Controller → World (ends_by call)
second_from call c = life call c (rows call ++ mark call (length (life call c (rows call)).outcomes))

abbrev pub waiting : Sender
waiting = record { next = 0; waiting = 2; second = true; third = false; fourth = false }

pub record Second (c : Controller) : Type 0 where
  pub next : next_tag (tags_in (stored_by c)) ≡ 1
  pub base_told : (second_from after_base c).outcomes ≡ ok [] ∷ ok [] ∷ ok [] ∷ []
  pub base_table : (second_from after_base c).controller.memory ≡ 2 ∷ 0x0801 ∷ 0x0502 ∷ []
  pub refused : (quick c output (writes 0 2 0x0802)).refusal ≡ refusal 12
  pub second : lived? c (rows after) ≡ some ([], waiting, 0 ∷ 0x0801 ∷ 0x0502 ∷ [])
  pub eleven : numbers quick c (first_writes 11) ≡ replicate 11 12
  pub base_eleven : numbers after_base c (first_writes 11) ≡ replicate 11 0
  pub base_nothing : (left_by after_base c (first_writes 11)).memory ≡ half_done

-- the first life that went on, and the controller that holds four
abbrev pub further : List (List ℕ)
further = writes 1 2 0x0702 ∷ writes 2 1 0x0711 ∷ writes 3 2 0x0712 ∷ []

pub record Four (c : Controller) : Type 0 where
  pub table : c.memory ≡ 0 ∷ 0x0711 ∷ 0x0712 ∷ []
  pub four : numbers quick c four_sent ≡ replicate 4 12
  pub base_four : numbers after_base c four_sent ≡ replicate 4 0
  pub base_nothing : (left_by after_base c four_sent).memory ≡ 0 ∷ 0x0711 ∷ 0x0712 ∷ []

-- the first life that came to its end, and the loader that sends its first message again
abbrev pub to_the_end : List (List ℕ)
to_the_end = writes 0 0 0 ∷ writes 1 1 0x0701 ∷ writes 2 2 0x0702 ∷ writes 3 0 2 ∷ []

abbrev pub again : List (Event ends)
again = offer (writes 0 0 0) ∷ send 0 ∷ arrive 0 output ∷ back 0 ∷ []

pub record Whole (c : Controller) : Type 0 where
  pub table : c.memory ≡ whole_table
  pub again : lived? c again ≡ some (ok [] ∷ [], idle 1, whole_table)
  pub asked : (quick c output discovery_bytes).output ≡ put_words output 0 (0x800200B0 ∷ limit_bytes ∷ 0x00000013 ∷ [])
  pub clears : (quick c output (writes 4 0 0)).controller.memory ≡ 0 ∷ 0x0701 ∷ 0x0702 ∷ []

-- computed
pub record Computed : Type 0 where
  pub first : lived? summer first_events ≡ some (ok [] ∷ [], idle 1, half_done)
  pub second : Second found_quick
  pub four : Four (left_by quick found_quick further)
  pub no_more : (offer_of (life after four_held (offers four_sent)).sender.sender (writes 4 1 0x0811)).refusal ≡ refusal 36
  pub whole : Whole (left_by quick summer to_the_end)
  pub bytes : each? (first_writes 11) && (each? further && (each? four_sent && each? to_the_end)) ≡ true

pub computed : Computed
unfolding words_of bytes_of put put_words same byte_of bit_of of_bytes merged kind_no byte0_from header_from head_of pattern_ok
    fault_of step_on address_from command_of commands_from replies ended length_ok read status_no answer_byte answer_fault seen_of
    look_on answers_from judge answered_words answer_words outside fetches stores_behind stores moves after_moves memory_after
    answer_of answers answer_to words_to request_of holds words_at request_at written one_more expected mark_of rule_of as_kept
    answer_by discovery_bytes judged_by ending_at data_at plainly asked_as asks_as sender_ok has_room place_in mark_at answered_at
    waits_for new_tag with_one marked ending_of without accepted_at offering sending offer_of send_of take_of each told
computed =
    record {
      first = refl;
      second =
          record {
            next = refl;
            base_told = refl;
            base_table = refl;
            refused = refl;
            second = refl;
            eleven = refl;
            base_eleven = refl;
            base_nothing = refl;
          };
      four = record { table = refl; four = refl; base_four = refl; base_nothing = refl };
      no_more = refl;
      whole = record { table = refl; again = refl; asked = refl; clears = refl };
      bytes = refl;
    }
