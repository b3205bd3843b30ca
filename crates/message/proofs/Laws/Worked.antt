-- Every example gets its refusal, the patterns of enables are those that they should be, where gaps may be and which counts, and the fixed
-- discovery shows: computed. Assumes nothing.
use mathlib.Core.Path.{◌≡◌, refl}
use mathlib.Core.Bool.{true}
use Rattle.word.specs.Words.{words_of, bytes_of}
use Rattle.header.specs.Limits.{length_ok}
use Rattle.header.specs.Header.{kind_no, head_of}
use Rattle.message.specs.Faults.{pattern_ok, fault_of}
use Rattle.message.specs.Address.{address_from}
use Rattle.message.specs.Request.{replies}
use Rattle.message.specs.Walk.{step_on, command_of, commands_from, ended, read}
use Rattle.message.specs.Discovery.{discovery_bytes}
use Rattle.message.specs.Examples.{requests, right, every, patterns, gaps_at, PatternsCounted, GapsShown, CountsShown, DiscoveryShown}

pub worked : every right requests ≡ true
unfolding requests words_of bytes_of kind_no head_of pattern_ok fault_of step_on address_from command_of commands_from replies ended length_ok read
worked = refl

pub patterns-counted : PatternsCounted
unfolding patterns pattern_ok
patterns-counted = (refl, refl, refl, refl, refl, refl)

pub gaps-shown : GapsShown
unfolding gaps_at pattern_ok
gaps-shown = (refl, refl, refl, refl, refl, refl)

pub counts-shown : CountsShown
counts-shown = (refl, refl, refl, refl, refl, refl, refl, refl, refl)

pub discovery-shown : DiscoveryShown
unfolding discovery_bytes bytes_of
discovery-shown = refl
