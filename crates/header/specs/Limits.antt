-- The one limit that everything else follows from, the lengths that a datagram may have, and the number of tags.
-- Assumes nothing.
use Rattle.std.specs.Prelude.{ℕ, ◌*◌, ◌%◌, Bool, false, cond, leb, eqb}

-- "A message has 1 to 2,243 words, 4 to 8,972 bytes", with the numbers of request [6]
abbrev pub limit : ℕ
limit = 2243

abbrev pub limit_bytes : ℕ
limit_bytes = 4 * limit

-- tags go from 0 to 15, "modulo 16"
abbrev pub tag_count : ℕ
tag_count = 16

-- not "0 bytes, not a multiple of 4, or over" the limit in bytes
unfoldable pub length_ok : ℕ → Bool
length_ok n = cond (eqb n 0) false (cond (eqb (n % 4) 0) (leb n limit_bytes) false)
