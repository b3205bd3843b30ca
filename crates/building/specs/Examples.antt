-- Refusals 21 to 26 by their numbers: what begin, add and close get, with each order of two, each number's two sides,
-- and what is not looked at. `proofs/Laws/Benched.antt` computes them. Assumes nothing.
use Rattle.std.specs.Prelude.{ℕ, ◌≡◌, Bool, true, false, List, [], ◌∷◌}
use Rattle.message.specs.Request.{All}
use Rattle.building.specs.declared.record.Building.{Building}
use Rattle.building.specs.declared.asked.Asked.{Asked}
use Rattle.building.specs.Build.{opened, begun, add_fault, close_fault}

-- a command as it is asked for: address, first and last enables, count
abbrev pub ask : ℕ → ℕ → ℕ → ℕ → Asked
ask address first last count = record { address = address; first = first; last = last; count = count }

-- the number that a call gets, and the one that it must get
pub record Number : Type 0 where
  pub given : ℕ
  pub is : ℕ

abbrev pub Same : Number → Type 0
Same l = l.given ≡ l.is

-- a record of tag 0 in 32-bit mode with nothing added; one with something added; the bench sheet's write (a), open and
-- closed
abbrev pub fresh : ℕ → Building
fresh kind = opened kind 0 false false

abbrev pub sofar : ℕ → Bool → ℕ → ℕ → ℕ → Bool → Building
sofar kind wide words last answer shut =
    record {
      kind = kind;
      tag = 0;
      wide = wide;
      discovery = false;
      words = words;
      last = last;
      answer = answer;
      closed = shut;
    }

abbrev pub write_a : Bool → Building
write_a shut = sofar 1 false 3 0 1 shut

-- begin's number, by the output's length, kind and tag
abbrev pub begin : ℕ → ℕ → ℕ → ℕ → Number
begin room kind tag n = record { given = (begun room kind tag false false).refusal.number; is = n }

unfoldable pub begins : List Number
begins =
    begin 0 1 0 21
    ∷ begin 1472 1 0 21
    ∷ begin 8971 1 0 21
    ∷ begin 8972 0 0 0
    ∷ begin 8973 1 0 0
    ∷ begin 8972 2 15 0
    ∷ begin 8972 3 15 21
    ∷ begin 8972 2 16 21
    ∷ begin 8972 4294967295 0 21
    ∷ begin 8972 0 4294967295 21
    ∷ []

-- adding's number, by the output's length, the record, the command and the data words lent
abbrev pub add : ℕ → Building → Asked → ℕ → ℕ → Number
add room b asked lent n = record { given = add_fault room b asked lent; is = n }

-- of a first write, read or NOP in an output of 8,972 bytes
abbrev pub write : ℕ → ℕ → ℕ → ℕ → ℕ → Number
write address first last lent n = add 8972 (fresh 1) (ask address first last 9) lent n

abbrev pub read : ℕ → ℕ → ℕ → Number
read address count n = add 8972 (fresh 2) (ask address 16 16 count) 0 n

abbrev pub nop : ℕ → ℕ → Number
nop lent n = add 8972 (fresh 0) (ask 18446744073709551615 16 16 9) lent n

unfoldable pub adds : List Number
adds =
    -- 21: a short output; a record that no sequence of calls gives; both before 22, in a closed record
    add 8971 (fresh 1) (ask 4 0xF 0 0) 1 21
    ∷ add 8971 (write_a true) (ask 4 0xF 0 0) 1 21
    ∷ add 8972 (fresh 3) (ask 4 0xF 0 0) 1 21
    ∷ add 8972 (opened 1 16 false false) (ask 4 0xF 0 0) 1 21
    ∷ add 8972 (sofar 1 false 4 2 2 true) (ask 4 0xF 0 0) 1 21
    ∷ add 8972 (sofar 0 false 0 0 0 true) (ask 0 0 0 0) 1 21
    -- 22: adding after closing, before 23
    ∷ add 8972 (write_a true) (ask 4 0xF 0 0) 1 22
    ∷ add 8972 (write_a true) (ask 4 0xF 0 0) 0 22
    -- 23: counts of writes, of reads, whose data words are not looked at, of NOPs
    ∷ write 4 0xF 0 0 23
    ∷ write 4 0xF 0 1 0
    ∷ write 4 0xF 0xF 4095 26
    ∷ write 4 0xF 0xF 4096 23
    ∷ write 4 0xF 0 4097 23
    ∷ read 4 0 23
    ∷ read 4 1 0
    ∷ read 4 4095 26
    ∷ read 4 4096 23
    ∷ read 4 4097 23
    ∷ add 8972 (fresh 2) (ask 4 16 16 1) 4097 0
    ∷ nop 0 0
    ∷ nop 2 0
    ∷ nop 3 23
    ∷ nop 4096 23
    -- 23 before 24, before 25, before 26
    ∷ write 4 16 0 0 23
    ∷ read 4294967296 0 23
    ∷ add 8972 (sofar 0 false 2243 2240 2243 false) (ask 0 0 0 0) 3 23
    -- 24: with one word the last is 0 and the first anything; with two at 8 both are nonzero; at 12, or with three, the
    -- lists of [3]; fields of four bits
    ∷ write 12 0x0 0x0 1 0
    ∷ write 12 0x5 0x0 1 0
    ∷ write 12 0xF 0x1 1 24
    ∷ write 8 0x5 0xA 2 0
    ∷ write 8 0x0 0xF 2 24
    ∷ write 8 0xF 0x0 2 24
    ∷ write 12 0x5 0xF 2 24
    ∷ write 12 0xF 0xA 2 24
    ∷ write 12 0x8 0x1 2 0
    ∷ write 8 0xC 0x7 3 0
    ∷ write 8 0x5 0xF 3 24
    ∷ write 12 15 0 1 0
    ∷ write 12 16 0 1 24
    ∷ write 8 15 15 2 0
    ∷ write 8 15 16 2 24
    ∷ write 8 31 31 2 24
    -- 24 before 25, before 26
    ∷ write 4294967296 0xF 0x1 1 24
    ∷ write 4 0xF 0x0 2242 24
    -- 25: 2^32 and more in 32-bit mode; let by in 64-bit mode
    ∷ write 4294967295 0xF 0 1 0
    ∷ write 4294967296 0xF 0 1 25
    ∷ write 8589934592 0xF 0 1 25
    ∷ write 18446744073709551615 0xF 0 1 25
    ∷ read 4294967295 1 0
    ∷ read 4294967296 1 25
    ∷ add 8972 (opened 1 0 true false) (ask 4294967296 0xF 0 0) 1 0
    ∷ add 8972 (opened 1 0 true false) (ask 18446744073709551615 0xF 0 0) 1 0
    ∷ add 8972 (opened 2 0 true false) (ask 4294967296 0 0 1) 0 0
    -- 25 before 26
    ∷ write 4294967296 0xF 0xF 2242 25
    ∷ read 4294967296 2243 25
    -- 26: requests of 2,243 words and of one more: writes, first, in 64-bit mode and behind another; NOPs; reads of 64
    -- bits
    ∷ write 4 0xF 0xF 2241 0
    ∷ write 4 0xF 0xF 2242 26
    ∷ add 8972 (opened 1 0 true false) (ask 4 0xF 0xF 0) 2240 0
    ∷ add 8972 (opened 1 0 true false) (ask 4 0xF 0xF 0) 2241 26
    ∷ add 8972 (write_a false) (ask 4 0xF 0xF 0) 2238 0
    ∷ add 8972 (write_a false) (ask 4 0xF 0xF 0) 2239 26
    ∷ add 8972 (sofar 0 false 2241 2240 2241 false) (ask 0 0 0 0) 1 0
    ∷ add 8972 (sofar 0 false 2241 2240 2241 false) (ask 0 0 0 0) 2 26
    ∷ add 8972 (sofar 2 true 2238 2235 1492 false) (ask 4 0 0 1) 0 0
    ∷ add 8972 (sofar 2 true 2241 2238 1494 false) (ask 4 0 0 1) 0 26
    -- all-OK answers of 2,243 words and of one more
    ∷ read 4 2242 0
    ∷ read 4 2243 26
    ∷ add 8972 (sofar 2 false 2 0 2 false) (ask 4 0 0 2240) 0 0
    ∷ add 8972 (sofar 2 false 2 0 2 false) (ask 4 0 0 2241) 0 26
    ∷ []

-- closing's number, by the output's length and the record
abbrev pub close : ℕ → Building → ℕ → Number
close room b n = record { given = close_fault room b; is = n }

unfoldable pub closings : List Number
closings =
    -- a write, a read, a NOP; the largest
    close 8972 (write_a false) 0
    ∷ close 8972 (sofar 2 false 2 0 2 false) 0
    ∷ close 8972 (sofar 0 true 1 0 1 false) 0
    ∷ close 8972 (sofar 1 false 2243 0 1 false) 0
    ∷ close 8972 (sofar 2 false 2 0 2243 false) 0
    -- 22: twice, and with nothing added
    ∷ close 8972 (write_a true) 22
    ∷ close 8972 (fresh 0) 22
    ∷ close 8972 (fresh 1) 22
    -- 21: a short output, before 22
    ∷ close 8971 (write_a false) 21
    ∷ close 8971 (write_a true) 21
    ∷ close 8971 (fresh 1) 21
    -- 21: kind 3, tag 16, before 22; a message or an answer past the limit; a write without data, a last header that
    -- leaves no room for the others, a read of a word too many and one whose answer has no data, a NOP of three, one
    -- whose answer is shorter; closed and empty
    ∷ close 8972 (fresh 3) 21
    ∷ close 8972 (opened 1 16 false false) 21
    ∷ close 8972 (sofar 1 false 2244 0 1 false) 21
    ∷ close 8972 (sofar 2 false 2 0 2244 false) 21
    ∷ close 8972 (sofar 1 false 2 0 1 false) 21
    ∷ close 8972 (sofar 1 false 5 2 2 false) 21
    ∷ close 8972 (sofar 2 false 3 0 2 false) 21
    ∷ close 8972 (sofar 2 false 2 0 1 false) 21
    ∷ close 8972 (sofar 0 false 4 0 4 false) 21
    ∷ close 8972 (sofar 0 false 2 0 1 false) 21
    ∷ close 8972 (sofar 0 false 0 0 0 true) 21
    ∷ []

-- every number is as it must be
pub record NumbersHold : Type 0 where
  pub begins : All Same begins
  pub adds : All Same adds
  pub closings : All Same closings
