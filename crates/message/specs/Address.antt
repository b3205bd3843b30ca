-- The address of a command in words: read, written, and which numbers they can carry. Assumes nothing.
use Rattle.std.specs.Prelude.{ℕ, zero, suc, ◌+◌, ◌*◌, ◌/◌, ◌%◌, List, [], ◌∷◌, get_or}

-- "64-bit address (two words, low first); else one word": the address in n words, and its n words
unfoldable pub address_from : ℕ → List ℕ → ℕ
address_from zero ws = 0
address_from (suc zero) ws = get_or ws 0 0
address_from (suc (suc n)) ws = get_or ws 0 0 + 4294967296 * get_or ws 1 0

unfoldable pub address_in : ℕ → ℕ → List ℕ
address_in zero a = []
address_in (suc zero) a = a ∷ []
address_in (suc (suc n)) a = a % 4294967296 ∷ a / 4294967296 ∷ []

-- the numbers that n address words can carry are those below this one
unfoldable pub address_top : ℕ → ℕ
address_top zero = 1
address_top (suc zero) = 4294967296
address_top (suc (suc n)) = 18446744073709551616
