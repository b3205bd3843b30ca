-- Ranges, and memory after writes, in figures: computed. Assumes nothing.
use mathlib.Core.Path.{refl}
use Rattle.word.specs.Enables.{byte_of, bit_of, of_bytes, merged}
use Rattle.header.specs.Header.{kind_no}
use Rattle.memory.specs.Moves.{outside, stores_behind, stores, moves, after_moves, memory_after}
use Rattle.memory.specs.Examples.{ranges, RangesHold, WritesShown}

pub ranges-hold : RangesHold
unfolding ranges outside
ranges-hold = refl

pub writes-shown : WritesShown
unfolding byte_of bit_of of_bytes merged kind_no outside stores_behind stores moves after_moves memory_after
writes-shown =
    record {
      bytes0 = refl;
      bytes1 = refl;
      bytes2 = refl;
      bytes3 = refl;
      none = refl;
      all = refl;
      middle = refl;
      further = refl;
      past = refl;
      two = refl;
      six = refl;
      wide = refl;
      order = refl;
      stops = refl;
    }
