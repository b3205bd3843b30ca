-- The examples of specs/, computed. Assumes nothing.
use Prim.Native.Nat.{ℕ}
use mathlib.Core.Path.{◌≡◌, refl, ap, ◌∙◌}
use mathlib.Core.Option.{Option}
use mathlib.Core.List.{List, [], ◌∷◌}
use native.Mathlib.Omega.{arith}
use Rattle.word.specs.Words.{words_of, bytes_of, put, put_words}
use Rattle.header.specs.Limits.{length_ok}
use Rattle.header.specs.Header.{kind_no, byte0_from, header_from, head_of}
use Rattle.message.specs.Faults.{pattern_ok, fault_of}
use Rattle.message.specs.Walk.{step_on, command_of, commands_from, ended, read, request_of}
use Rattle.message.specs.Address.{address_from, address_in}
use Rattle.message.specs.Request.{replies, command_words, request_words, written as written_bytes}
use Rattle.message.specs.Discovery.{discovery_byte}
use Rattle.answer.specs.Answer.{status_no, answer_byte, answer_fault, seen_of, look_on, answers_from, judge, answered_words}
use Rattle.answer.specs.Answer.{answer_words}
use Rattle.memory.specs.Moves.{outside}
use Rattle.carrying.specs.Answers.{answer_of, answers, answer_to, words_to}
use Rattle.tags.specs.Rule.{rule_of}
use Rattle.tags.specs.Record.{fresh_record}
use Rattle.tags.proofs.Laws.Record.{fresh-fits}
use Rattle.completer.specs.Serving.{answer_by}
use Rattle.initiator.specs.Sender.{word_ok, next_after, started_at, start_of}
use Rattle.once.specs.World.{other, start}
use Rattle.exchange.specs.Ends.{sent_in, ends}
use Rattle.exchange.specs.Terms.{Sound}
use Rattle.exchange.specs.Promise.{ages}
use Rattle.exchange.specs.Example.{loader, output}
use Rattle.exchange.specs.Outcomes.{each}
use Rattle.exchange.proofs.Begins.{begins}
use Rattle.exchange.proofs.Quick.{quick, quick-is}
use Rattle.exchange.proofs.Checked.{least-sound, allowed-so}
use Rattle.exchange.proofs.Example.{output-long}
use Rattle.lives.specs.TaggedAnew.{Shown}
use Rattle.lives.specs.Mistaken.{misled, reading, sixth, Mistaken}

pub shown : Shown
unfolding words_of bytes_of kind_no byte0_from header_from head_of pattern_ok fault_of step_on address_from address_in command_of
    commands_from replies ended length_ok read request_of command_words request_words written_bytes
shown = refl

misled-sound : Sound misled
misled-sound = least-sound (0 ∷ 0x15 ∷ []) 0 fresh_record refl (fresh-fits fresh_record refl)

-- what the controller sends is what it sends by `quick`
sent-quick : (x : List ℕ) {r : Option (List ℕ)} → sent_in (quick misled output x) ≡ r
    → (ends.serve misled output x).1 ≡ r
sent-quick x e = ap sent_in (quick-is misled output x misled-sound output-long) ∙ e

pub mistaken : Mistaken
unfolding words_of bytes_of put put_words kind_no byte0_from header_from head_of fault_of step_on address_from command_of
    commands_from replies ended length_ok read status_no answer_byte answer_fault seen_of look_on answers_from judge
    answered_words answer_words outside answer_of answers answer_to words_to request_of rule_of answer_by discovery_byte word_ok
    next_after started_at start_of each
mistaken =
    record {
      quiet = (allowed-so ages (start ends misled loader) (other (reading 0x800200A0) output) output-long refl).0;
      answer = bytes_of (0x800200B0 ∷ 0 ∷ 0x15 ∷ []);
      given = sent-quick (reading 0x800200A0) refl;
      learnt = refl;
      behind = λ b. let e : ◌≡◌ {A = ℕ} 6 0 = (begins misled sixth b).next in omega arith;
      other = bytes_of (0x800200B1 ∷ 0 ∷ 0x15 ∷ []);
      also = sent-quick (reading 0x800200A1) refl;
      refused = refl;
      none = refl;
    }
