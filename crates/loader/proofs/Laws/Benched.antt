-- The forms for C: computed. Assumes nothing.
use mathlib.Core.Path.{refl}
use Rattle.word.specs.Words.{words_of, bytes_of, same}
use Rattle.header.specs.Limits.{length_ok}
use Rattle.header.specs.Header.{kind_no, byte0_from, head_of, header_from}
use Rattle.message.specs.Faults.{pattern_ok, fault_of}
use Rattle.message.specs.Address.{address_from, address_in}
use Rattle.message.specs.Request.{command_words, request_words, written, replies, All}
use Rattle.message.specs.Walk.{step_on, command_of, commands_from, ended, read}
use Rattle.answer.specs.Answer.{status_no, answer_byte, answer_fault, seen_of, look_on, answers_from, judge}
use Rattle.initiator.specs.Asking.{plainly, asked_as}
use Rattle.initiator.specs.Outcome.{judged_by, ending_at, span_of, part_at, data_at, told_of, outcome_of}
use Rattle.initiator.specs.Places.{sender_ok, has_room, place_in, mark_at, answered_at, waits_for, new_tag, with_one, marked}
use Rattle.initiator.specs.Places.{ending_of, without}
use Rattle.initiator.specs.Sender.{offering, sending, offer_of, send_of, send_fault, accepted_at, take_of}
use Rattle.layout.specs.Layout.{each_from, row_of, set_up_ok, row_write, row_read, mark_write, request_at}
use Rattle.table.specs.Attempt.{wrote_row, read_row, through, marking}
use Rattle.table.specs.Attempt as attempt
use Rattle.table.specs.Calls.{message_fault, made_of, taken_of}
use Rattle.loader.specs.Outcome.{status_number, data_part}
use Rattle.loader.specs.Sending.{sending_of}
use Rattle.loader.specs.Training.{next_from, table_made_of, table_taken_of}
use Rattle.loader.specs.Examples.{FormsShown, TableShown}

pub forms-shown : FormsShown
unfolding words_of bytes_of length_ok kind_no byte0_from head_of pattern_ok fault_of address_from replies step_on command_of
    commands_from ended read status_no answer_byte answer_fault seen_of look_on answers_from judge plainly asked_as judged_by
    ending_at span_of part_at data_at told_of outcome_of sender_ok place_in mark_at answered_at waits_for sending send_of send_fault
    status_number data_part sending_of
forms-shown =
    record {
      ok = refl;
      timeout = refl;
      error = refl;
      absent = refl;
      refused = refl;
      part = refl;
      none = refl;
      sends = refl;
      stops = refl;
    }

pub table-shown : TableShown
unfolding words_of bytes_of length_ok kind_no byte0_from head_of header_from pattern_ok fault_of address_from address_in
    command_words request_words written replies All step_on command_of commands_from ended read status_no answer_byte
    answer_fault seen_of look_on answers_from judge plainly asked_as judged_by ending_at data_at sender_ok has_room place_in mark_at
    answered_at waits_for new_tag with_one marked ending_of without offering sending offer_of accepted_at take_of each_from row_of
    set_up_ok row_write row_read mark_write request_at same wrote_row read_row through marking attempt.next_of message_fault
    made_of taken_of next_from table_made_of table_taken_of
table-shown =
    record {
      begins = refl;
      cleared = refl;
      not_written = refl;
      not-read = refl;
      marked = refl;
      done = refl;
      ended = refl;
      other = refl;
      not-cleared = refl;
      refused = refl;
      makes = refl;
      short = refl;
      over = refl;
      set-up = refl;
    }
