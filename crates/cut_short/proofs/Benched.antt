-- What a computed life opens, listed once. Assumes nothing.
use Rattle.word.specs.Words.{words_of, bytes_of, put, put_words, same}
use Rattle.word.specs.Enables.{byte_of, bit_of, of_bytes, merged}
use Rattle.header.specs.Limits.{length_ok}
use Rattle.header.specs.Header.{kind_no, byte0_from, header_from, head_of}
use Rattle.message.specs.Faults.{pattern_ok, fault_of}
use Rattle.message.specs.Walk.{step_on, command_of, commands_from, ended, read, request_of}
use Rattle.message.specs.Address.{address_from, address_in}
use Rattle.message.specs.Request.{replies, command_words, request_words}
use Rattle.message.specs.Request as request
use Rattle.message.specs.Discovery.{discovery_bytes}
use Rattle.answer.specs.Answer.{status_no, answer_byte, answer_fault, seen_of, look_on, answers_from, judge, answered_words}
use Rattle.answer.specs.Answer.{answer_words}
use Rattle.memory.specs.Moves.{outside, fetches, stores_behind, stores, moves, after_moves, memory_after}
use Rattle.carrying.specs.Answers.{answer_of, answers, answer_to, words_to}
use Rattle.tags.specs.Rule.{expected, rule_of}
use Rattle.tags.specs.Record.{holds, words_at, request_at, written, one_more, mark_of}
use Rattle.completer.specs.Verdict.{as_kept}
use Rattle.completer.specs.Serving.{answer_by}
use Rattle.initiator.specs.Outcome.{judged_by, ending_at, data_at}
use Rattle.initiator.specs.Asking.{plainly, asked_as, asks_as}
use Rattle.initiator.specs.Places.{sender_ok, has_room, place_in, mark_at, answered_at, waits_for, new_tag, with_one, marked}
use Rattle.initiator.specs.Places.{ending_of, without}
use Rattle.initiator.specs.Sender.{word_ok, next_after, started_at}
use Rattle.initiator.specs.Sender.{accepted_at, offering, sending, offer_of, send_of, take_of}
use Rattle.exchange.specs.Outcomes.{each, told}
use Rattle.layout.specs.Layout.{each_from, row_of, set_up_ok, set_up_fault, row_write, row_read, mark_write}
use Rattle.layout.specs.Layout as layout
use Rattle.table.specs.Attempt.{wrote_row, read_row, through, marking, next_of}
use Rattle.table.specs.Calls.{message_fault, made_of, made_to, taken_of}

-- the two ends
unfoldable pub playing : Unit {0}
unfolding words_of bytes_of put put_words same byte_of bit_of of_bytes merged kind_no byte0_from header_from head_of pattern_ok
    fault_of step_on address_from command_of commands_from replies ended length_ok read status_no answer_byte answer_fault seen_of
    look_on answers_from judge answered_words answer_words outside fetches stores_behind stores moves after_moves memory_after
    answer_of answers answer_to words_to request_of holds words_at request_at written one_more expected mark_of rule_of as_kept
    answer_by discovery_bytes judged_by ending_at data_at plainly asked_as asks_as sender_ok has_room place_in mark_at answered_at
    waits_for new_tag with_one marked ending_of without accepted_at offering sending offer_of send_of take_of each told
    word_ok next_after started_at
playing = tt

-- the four messages
unfoldable pub laying : Unit {0}
unfolding bytes_of kind_no byte0_from header_from address_in command_words request_words request.written each_from row_of
    set_up_ok set_up_fault row_write row_read mark_write layout.request_at
laying = tt

-- an attempt, and its calls
unfoldable pub attempting : Unit {0}
unfolding row_of wrote_row read_row same through marking next_of
attempting = tt

unfoldable pub calling : Unit {0}
unfolding playing laying attempting message_fault made_of made_to taken_of
calling = tt
