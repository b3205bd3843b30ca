-- Nights, numbers and the first memory: computed. Assumes nothing.
use mathlib.Core.Path.{refl}
use Rattle.word.specs.Words.{same}
use Rattle.figures.proofs.Benched.{calling}
use Rattle.night.specs.Text.{digits_in, decimal, line_of, text_of, tag_text}
use Rattle.night.specs.Night.{length_of, datagram_of, after_record, whole_turn, turn_of, at_first, record_at}
use Rattle.night.specs.Night.{turns, night_text}
use Rattle.night.specs.Examples.{record_of, holds, nights, right, every, NightsShown, ZerosShown, DecimalsShown}

pub decimals-shown : DecimalsShown
unfolding digits_in decimal text_of
decimals-shown = (refl, refl, refl, refl, refl, refl, refl)

pub zeros-shown : ZerosShown
unfolding calling same length_of datagram_of after_record at_first record_of holds
zeros-shown = refl

pub nights-shown : NightsShown
unfolding calling same digits_in decimal line_of text_of tag_text length_of datagram_of after_record whole_turn turn_of at_first
    record_at turns night_text record_of holds nights right every
nights-shown = refl
