-- The marked lines of the bench sheet, more calls, and what is lent in figures: computed. Assumes nothing.
use mathlib.Core.Path.{refl}
use Rattle.word.specs.Words.{words_of, bytes_of, put, put_words, same}
use Rattle.word.specs.Enables.{byte_of, bit_of, of_bytes, merged}
use Rattle.header.specs.Header.{kind_no, byte0_from, header_from, head_of}
use Rattle.header.specs.Limits.{length_ok}
use Rattle.message.specs.Faults.{pattern_ok, fault_of}
use Rattle.message.specs.Walk.{step_on, command_of, commands_from, ended, read, request_of}
use Rattle.message.specs.Address.{address_from}
use Rattle.message.specs.Request.{replies}
use Rattle.answer.specs.Answer.{answer_byte, answered_words, answer_words}
use Rattle.memory.specs.Moves.{outside, fetches, stores_behind, stores, moves, after_moves, memory_after}
use Rattle.carrying.specs.Answers.{answer_of, answers, answer_to, words_to}
use Rattle.tags.specs.Rule.{expected, rule_of}
use Rattle.tags.specs.Record.{mark_of, holds, words_at, request_at, words_ok, place_ok, places_ok, held_ok, record_ok}
use Rattle.tags.specs.Record.{kept_ok, written, one_more}
use Rattle.completer.specs.Verdict.{lent_ok, as_kept, verdict_by}
use Rattle.completer.specs.Serving.{answer_by, after}
use Rattle.figures.specs.BenchSheet.{none_stored, none_kept, none_sent, bench_start, bench_fresh, plays}
use Rattle.figures.specs.BenchSheet.{same_record, right, every, bench_four, bench_five, bench_sheet, BenchHolds}
use Rattle.figures.specs.Examples.{bench_fed, carried_lines, tagged_lines, each_at, bench_across, held_lines, CallsHold}
use Rattle.figures.specs.Lent.{fronts, left_start, right_left, every_left, left_lines, LeftHolds, across_played}
use Rattle.figures.specs.Lent.{AcrossShown, LentShown, LengthsShown, PlacesShown}

-- What a datagram is judged by, and a call computed by: to open one of these two is to open all that its line names.
unfoldable pub judging : Unit {0}
unfolding words_of bytes_of kind_no head_of fault_of step_on address_from command_of commands_from replies ended length_ok
    read holds expected request_at lent_ok words_ok place_ok places_ok held_ok record_ok kept_ok rule_of as_kept verdict_by
    pattern_ok
judging = tt

unfoldable pub calling : Unit {0}
unfolding judging put put_words byte_of bit_of of_bytes merged byte0_from header_from answer_byte answered_words
    answer_words outside fetches stores_behind stores moves after_moves memory_after answer_of answers answer_to
    words_to request_of mark_of words_at written one_more answer_by after
calling = tt

pub benched : BenchHolds
unfolding calling none_stored none_kept none_sent bench_start bench_fresh plays same same_record right every bench_four
    bench_five bench_sheet
benched = refl

pub calls-hold : CallsHold
unfolding calling none_stored none_kept none_sent bench_start bench_fresh plays same same_record right every bench_fed
    carried_lines tagged_lines each_at bench_across held_lines
calls-hold = (refl, refl, refl)

pub left-holds : LeftHolds
unfolding calling plays same fronts left_start right_left every_left left_lines
left-holds = refl

pub across-shown : AcrossShown
unfolding calling none_stored none_kept none_sent bench_start plays same same_record each_at bench_across across_played
across-shown = refl

pub lent-shown : LentShown
unfolding judging
lent-shown =
    record {
      no_memory = refl;
      least = refl;
      most = refl;
      over = refl;
      far_over = refl;
      short = refl;
      longer = refl;
      fine = refl;
      two = refl;
      memory = refl;
      stored = refl;
      kept = refl;
      output = refl;
      all = refl;
    }

pub lengths-shown : LengthsShown
unfolding judging same
lengths-shown = record { own = refl; shorter = refl; longer = refl }

pub places-shown : PlacesShown
unfolding judging same
places-shown = record { own = refl; before = refl; newest = refl; first = refl }
