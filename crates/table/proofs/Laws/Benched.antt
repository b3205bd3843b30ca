-- An attempt in figures: computed. Assumes nothing.
use mathlib.Core.Path.{refl}
use Rattle.word.specs.Words.{words_of, bytes_of, put, same}
use Rattle.header.specs.Limits.{length_ok}
use Rattle.header.specs.Header.{kind_no, byte0_from, head_of, header_from}
use Rattle.message.specs.Faults.{pattern_ok, fault_of}
use Rattle.message.specs.Address.{address_from, address_in}
use Rattle.message.specs.Request.{command_words, request_words, written, replies, All}
use Rattle.message.specs.Walk.{step_on, command_of, commands_from, ended, read}
use Rattle.answer.specs.Answer.{status_no, answer_byte, answer_fault, seen_of, look_on, answers_from, judge}
use Rattle.initiator.specs.Asking.{plainly, asked_as}
use Rattle.initiator.specs.Outcome.{judged_by, ending_at, data_at}
use Rattle.initiator.specs.Places.{sender_ok, has_room, place_in, mark_at, answered_at, waits_for, new_tag, with_one, marked}
use Rattle.initiator.specs.Places.{ending_of, without}
use Rattle.initiator.specs.Sender.{offering, sending, offer_of, accepted_at, take_of}
use Rattle.layout.specs.Layout.{each_from, row_of, set_up_ok, row_write, row_read, mark_write, request_at}
use Rattle.table.specs.Attempt.{wrote_row, read_row, through, marking, next_of}
use Rattle.table.specs.Calls.{message_fault, made_of, made_to, taken_of}
use Rattle.table.specs.Examples.{counted, attempts}
use Rattle.table.specs.Messages.{beginnings, writes_from, reads_from, messages, faults}
use Rattle.table.specs.Answers.{back_from, takes, BenchHolds}

pub benched : BenchHolds
unfolding words_of bytes_of put length_ok kind_no byte0_from head_of header_from pattern_ok fault_of address_from address_in
    command_words request_words written replies All step_on command_of commands_from ended read status_no answer_byte
    answer_fault seen_of look_on answers_from judge plainly asked_as judged_by ending_at data_at sender_ok has_room place_in mark_at
    answered_at waits_for new_tag with_one marked ending_of without offering sending offer_of accepted_at take_of each_from row_of
    set_up_ok row_write row_read mark_write request_at same wrote_row read_row through marking next_of message_fault made_of made_to
    taken_of counted attempts beginnings writes_from reads_from messages faults back_from takes
benched =
    record {
      attempts = (refl, (refl, (refl, (refl, (refl, (refl, (refl, (refl, (refl, (refl, (refl, (refl, (refl, (refl, (refl, (refl, (refl, (refl, (refl, (refl, (refl, (refl, (refl, (refl, (refl, (refl, (refl, (refl, (refl, (refl, (refl, (refl, (refl, (refl, (refl, (refl, (refl, tt)))))))))))))))))))))))))))))))))))));
      beginnings = (refl, (refl, (refl, (refl, tt))));
      messages = (refl, (refl, (refl, (refl, (refl, (refl, (refl, tt)))))));
      faults = (refl, (refl, (refl, (refl, (refl, (refl, (refl, (refl, (refl, (refl, (refl, (refl, (refl, (refl, (refl, (refl, (refl, (refl, (refl, (refl, (refl, (refl, (refl, (refl, (refl, (refl, (refl, (refl, (refl, (refl, (refl, tt)))))))))))))))))))))))))))))));
      takes = (refl, (refl, (refl, (refl, (refl, (refl, (refl, (refl, (refl, (refl, (refl, (refl, (refl, (refl, (refl, (refl, (refl, (refl, (refl, (refl, tt))))))))))))))))))));
    }
