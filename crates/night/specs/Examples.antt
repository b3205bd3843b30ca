-- Nights from bytes, each with all that is printed of it. `proofs/Laws/Example.antt` computes them. Assumes nothing.
use Rattle.std.specs.Prelude.{ℕ, ◌-◌, ◌≡◌, Bool, true, ◌&&◌, List, [], ◌∷◌, ◌++◌, length, take, replicate}
use Prim.Native.String.{String}
use Rattle.word.specs.Words.{bytes_of, same}
use Rattle.header.specs.Limits.{limit_bytes}
use Rattle.message.specs.Examples.{fifth_differs}
use Rattle.figures.specs.BenchSheet.{write_feed, write_other, write_longer}
use Rattle.night.specs.Text.{ascii, decimal, Short, text_of}
use Rattle.night.specs.Night.{after_record, at_first, night_text}

-- a record of this length over these bytes; EE in the unused ones
unfoldable pub record_of : ℕ → List ℕ → List ℕ
record_of n bytes = bytes_of (n ∷ []) ++ (bytes ++ replicate (limit_bytes - length bytes) 0xEE)

-- a record that holds a datagram of these words
unfoldable pub holds : List ℕ → List ℕ
holds words = record_of (length (bytes_of words)) (bytes_of words)

-- (a) of the bench sheet, and (d)
abbrev pub a : List ℕ
a = holds write_feed

abbrev pub d : List ℕ
d = holds (0x80010F12 ∷ 0x00000004 ∷ 0x00000000 ∷ [])

-- a read of one word, the message's tag beside it
abbrev pub reads : ℕ → ℕ → List ℕ
reads header address = holds (header ∷ address ∷ [])

pub record Printed : Type 0 where
  pub input : List ℕ
  pub text : String

abbrev pub prints : List ℕ → String → Printed
prints input text = record { input = input; text = text }

unfoldable pub nights : List Printed
nights =
    -- "For records holding (a), (a) again and (d) .. the whole output is", with [4]'s index
    prints (a ++ (a ++ d)) "1 sent 1\n2 sent 1\n3 refused 11 at 0\ntag 0\n"
    -- [7] (a), then (a) with another data word, and longer: 12 each time; (a) again is still the repeat
    ∷ prints (a ++ (holds write_other ++ (holds write_longer ++ a)))
    "1 sent 1\n2 refused 12 at 0\n3 refused 12 at 0\n4 sent 1\ntag 0\n"
    -- "the last line is `tag none` when fresh"
    ∷ prints [] "tag none\n"
    -- "A tail shorter than a record prints its number and `short`": a byte, and a byte less than a record
    ∷ prints (0 ∷ []) "1 short\ntag none\n"
    ∷ prints (a ++ take 8975 a) "1 sent 1\n2 short\ntag 0\n"
    -- "A length over 1,472 is refusal 2", of the limit since [6], whatever the bytes are; and of the limit not
    ∷ prints (record_of 8973 (bytes_of write_feed)) "1 refused 2 at 0\ntag none\n"
    ∷ prints (record_of 4294967295 (bytes_of write_feed)) "1 refused 2 at 0\ntag none\n"
    ∷ prints (record_of 8972 (bytes_of (0x70000010 ∷ []))) "1 refused 6 at 0\ntag none\n"
    -- [4] "refused 4 at 12"
    ∷ prints (holds fifth_differs) "1 refused 4 at 12\ntag none\n"
    -- "over 1,024 .. words": the last one is read, the one behind it is Error, a header alone
    ∷ prints (reads 0x80010020 4092 ++ reads 0x80010021 4096) "1 sent 2\n2 sent 1\ntag 1\n"
    -- [9] "a fresh controller now takes only tag 0, else 11"
    ∷ prints (reads 0x80010021 0) "1 refused 11 at 0\ntag none\n"
    -- [9] "to answer repeats of any": tags 0 and 1, then 0 again; the last line has the newest
    ∷ prints (reads 0x80010020 0 ++ (reads 0x80020021 0 ++ reads 0x80010020 0)) "1 sent 2\n2 sent 3\n3 sent 2\ntag 1\n"
    ∷ []

unfoldable pub right : Printed → Bool
right p = same (night_text p.input) (ascii p.text)

unfoldable pub every : List Printed → Bool
every [] = true
every (p ∷ ps) = right p && every ps

abbrev pub NightsShown : Type 0
NightsShown = every nights ≡ true

-- "1,024 zero words": what a read of all of them sends
abbrev pub ZerosShown : Type 0
ZerosShown =
    take 4100 (after_record at_first (replicate limit_bytes 0xEE) (reads 0x84000020 0)).output
    ≡ bytes_of (0x84000030 ∷ replicate 1024 0)

-- numbers in decimal, and a record's beside a word
abbrev pub DecimalsShown : Type 0
DecimalsShown =
    (decimal 0 ≡ ascii "0") × (decimal 9 ≡ ascii "9") × (decimal 10 ≡ ascii "10") × (decimal 2243 ≡ ascii "2243")
    × (decimal 4294967295 ≡ ascii "4294967295") × (decimal 18446744073709551615 ≡ ascii "18446744073709551615")
    × (text_of 1000000 Short ≡ ascii "1000000 short\n")
