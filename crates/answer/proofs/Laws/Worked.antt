-- Every example gets its refusal or means what it should, and 32's figures show: computed. Assumes nothing.
use mathlib.Core.Path.{◌≡◌, refl}
use mathlib.Core.Bool.{true}
use Rattle.word.specs.Words.{words_of, bytes_of}
use Rattle.header.specs.Limits.{length_ok}
use Rattle.header.specs.Header.{kind_no, byte0_from, head_of}
use Rattle.message.specs.Faults.{pattern_ok, fault_of}
use Rattle.message.specs.Address.{address_from}
use Rattle.message.specs.Request.{replies}
use Rattle.message.specs.Walk.{step_on, command_of, commands_from, ended, read}
use Rattle.message.specs.Examples.{every}
use Rattle.answer.specs.Answer.{status_no, answer_byte, answer_fault, seen_of, look_on, answers_from, head_fault, judge}
use Rattle.answer.specs.Examples.{answers, right_answer, MeaningsShown, LengthShown}

pub worked : every right_answer answers ≡ true
unfolding answers words_of bytes_of kind_no byte0_from head_of pattern_ok fault_of step_on address_from command_of commands_from replies ended length_ok read status_no answer_byte answer_fault seen_of look_on answers_from judge
worked = refl

pub meanings-shown : MeaningsShown
unfolding words_of bytes_of kind_no byte0_from head_of pattern_ok fault_of step_on address_from command_of commands_from replies ended length_ok read status_no answer_byte answer_fault seen_of look_on answers_from judge
meanings-shown = (refl, refl, refl, refl)

pub length-shown : LengthShown
unfolding length_ok byte0_from answer_byte head_fault
length-shown = (refl, refl, refl, refl)
