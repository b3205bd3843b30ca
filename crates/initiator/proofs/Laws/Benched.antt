-- The sender's lines and the outcomes: computed. Assumes nothing.
use mathlib.Core.Path.{refl}
use Rattle.word.specs.Words.{words_of, bytes_of}
use Rattle.header.specs.Limits.{length_ok}
use Rattle.header.specs.Header.{kind_no, byte0_from, head_of}
use Rattle.message.specs.Faults.{pattern_ok, fault_of}
use Rattle.message.specs.Address.{address_from}
use Rattle.message.specs.Request.{replies, All}
use Rattle.message.specs.Walk.{step_on, command_of, commands_from, ended, read}
use Rattle.message.specs.Discovery.{discovery_byte}
use Rattle.answer.specs.Answer.{status_no, answer_byte, answer_fault, seen_of, look_on, answers_from, judge}
use Rattle.initiator.specs.Asking.{plainly, asked_as}
use Rattle.initiator.specs.Outcome.{judged_by, ending_at, span_of, part_at, data_at, told_of, outcome_of}
use Rattle.initiator.specs.Places.{sender_ok, has_room, place_in, mark_at, answered_at, waits_for, new_tag, with_one, marked, ending_of, without}
use Rattle.initiator.specs.Sender.{offering, sending, offer_of, send_of, send_fault, accepted_at, take_of, word_ok, next_after, started_at, start_of}
use Rattle.initiator.specs.Examples.{outcomes}
use Rattle.initiator.specs.BenchSheet.{offers, sends, takes}
use Rattle.initiator.specs.Starts.{starts, bits_are38, BenchHolds}

pub benched : BenchHolds
unfolding words_of bytes_of length_ok kind_no byte0_from head_of pattern_ok fault_of address_from replies All step_on command_of commands_from ended read discovery_byte status_no answer_byte answer_fault seen_of look_on answers_from judge plainly asked_as judged_by ending_at span_of part_at data_at told_of outcome_of sender_ok has_room place_in mark_at answered_at waits_for new_tag with_one marked ending_of without offering sending offer_of send_of send_fault accepted_at take_of word_ok next_after started_at start_of offers sends takes starts bits_are38 outcomes
benched =
    record {
      fresh = refl;
      offers = (refl, (refl, (refl, (refl, (refl, (refl, (refl, (refl, (refl, (refl, (refl, (refl, (refl, (refl, (refl, (refl, (refl, (refl, (refl, (refl, (refl, (refl, (refl, (refl, (refl, (refl, (refl, (refl, (refl, (refl, (refl, (refl, (refl, (refl, (refl, (refl, (refl, (refl, (refl, (refl, tt))))))))))))))))))))))))))))))))))))))));
      sends = (refl, (refl, (refl, (refl, (refl, (refl, (refl, (refl, (refl, (refl, (refl, (refl, (refl, (refl, (refl, (refl, (refl, (refl, (refl, (refl, (refl, (refl, (refl, (refl, (refl, (refl, (refl, tt)))))))))))))))))))))))))));
      takes = (refl, (refl, (refl, (refl, (refl, (refl, (refl, (refl, (refl, (refl, (refl, (refl, (refl, (refl, (refl, (refl, (refl, (refl, (refl, (refl, (refl, (refl, (refl, (refl, (refl, (refl, (refl, (refl, (refl, (refl, (refl, (refl, (refl, (refl, (refl, (refl, (refl, (refl, (refl, (refl, (refl, (refl, (refl, (refl, (refl, (refl, (refl, (refl, (refl, (refl, (refl, tt)))))))))))))))))))))))))))))))))))))))))))))))))));
      starts = (refl, (refl, (refl, (refl, (refl, (refl, (refl, (refl, (refl, (refl, (refl, (refl, (refl, (refl, (refl, (refl, (refl, (refl, (refl, (refl, (refl, (refl, (refl, (refl, (refl, (refl, (refl, (refl, (refl, (refl, (refl, (refl, (refl, (refl, (refl, tt)))))))))))))))))))))))))))))))))));
      bits = refl;
      outcomes = (refl, (refl, (refl, (refl, (refl, (refl, (refl, (refl, (refl, (refl, (refl, (refl, (refl, (refl, (refl, (refl, (refl, (refl, (refl, (refl, (refl, tt)))))))))))))))))))));
    }
