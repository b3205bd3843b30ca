-- Answers to requests in figures: computed. Assumes nothing.
use mathlib.Core.Path.{refl}
use Rattle.word.specs.Enables.{byte_of, bit_of, of_bytes, merged}
use Rattle.header.specs.Header.{kind_no, byte0_from, header_from}
use Rattle.answer.specs.Answer.{answer_byte, answered_words, answer_words}
use Rattle.memory.specs.Moves.{outside, fetches, stores_behind, stores, after_moves}
use Rattle.carrying.specs.Answers.{answer_of, answers, answer_to, words_to}
use Rattle.carrying.specs.Examples.{AnswersShown}

pub answers-shown : AnswersShown
unfolding byte_of bit_of of_bytes merged kind_no byte0_from header_from answer_byte answered_words answer_words outside fetches stores_behind stores after_moves answer_of answers answer_to words_to
answers-shown =
    record {
      write = refl;
      three = refl;
      wide = refl;
      wide_error = refl;
      found = refl;
      found_error = refl;
      stops = refl;
      stops_at_once = refl;
      read = refl;
      reads = refl;
      past = refl;
      none = refl;
      first = refl;
      both = refl;
    }
