-- Records and tags in figures: computed. Assumes nothing.
use mathlib.Core.Path.{refl}
use Rattle.tags.specs.Record.{mark_of, holds, words_at, request_at, words_ok, place_ok, places_ok, held_ok, record_ok, kept_ok, written, one_more}
use Rattle.tags.specs.Rule.{expected, rule_of}
use Rattle.tags.specs.Examples.{held_of, verdicts, RecordsShown, BuffersShown, MarksShown, KeepingShown, HeldShown, RulesShown, AllTagsShown}

pub records-shown : RecordsShown
unfolding record_ok held_ok places_ok place_ok words_ok
records-shown =
    record {
      least = refl;
      most = refl;
      five = refl;
      tag = refl;
      none = refl;
      over = refl;
      no_request = refl;
      over_request = refl;
      free = refl;
      newest = refl;
      middle = refl;
      oldest = refl;
      fourth = refl;
      fresh = refl;
    }

pub buffers-shown : BuffersShown
unfolding record_ok held_ok places_ok place_ok words_ok kept_ok
buffers-shown = record { least = refl; short = refl; short_request = refl; words = refl; longer = refl; both = refl; memory = refl }

pub marks-shown : MarksShown
unfolding mark_of
marks-shown = record { none = refl; first = refl; last = refl; unlooked = refl }

pub keeping-shown : KeepingShown
unfolding written one_more words_at request_at
keeping-shown = record { first = refl; second = refl; five = refl; words = refl; request = refl; stays = refl; fresh = refl }

pub held-shown : HeldShown
unfolding held_of holds
held-shown = record { none = refl; one = refl; two = refl; four = refl }

pub rules-shown : RulesShown
unfolding rule_of holds expected
rules-shown =
    record {
      fresh = refl;
      fresh_else = refl;
      again = refl;
      next = refl;
      early = refl;
      old = refl;
      older = refl;
      wrapped = refl;
      late = refl;
      asked = refl;
    }

pub all-tags-shown : AllTagsShown
unfolding verdicts rule_of holds expected
all-tags-shown =
    record {
      fresh = refl;
      one0 = refl;
      four0 = refl;
      one7 = refl;
      two7 = refl;
      three7 = refl;
      four7 = refl;
      four15 = refl;
      asked = refl;
      asked_fresh = refl;
      unlooked = refl;
    }
