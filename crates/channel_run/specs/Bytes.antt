-- A message or an answer as the programs hold it, and a message of one command. Assumes nothing.
use Rattle.std.specs.Prelude.{ℕ, ◌*◌, ◌%◌, ◌≡◌, false, cond, List, [], ◌∷◌, ltb, eqb, length, get_or, set, take, replicate}
use Rattle.std.specs.Prelude.{Result, Ok, Err}
use Rattle.header.specs.declared.refusal.Refusal.{Refusal}
use Rattle.header.specs.Limits.{limit, limit_bytes}
use Rattle.building.specs.declared.asked.Asked.{Asked}
use Rattle.building.specs.Build.{begun, added, added_to, closed, closed_to}
use Rattle.channel_run.specs.declared.Bytes.{Bytes}

-- the first n of these bytes, and the datagram that they are
abbrev pub first_of : List ℕ → ℕ → Bytes
first_of bytes n = record { bytes = bytes; n = n }

abbrev pub datagram_in : Bytes → List ℕ
datagram_in b = take b.n b.bytes

-- an output of zeros; nothing of it is nothing
abbrev pub zeros : List ℕ
zeros = replicate limit_bytes 0

abbrev pub no_bytes : Bytes
no_bytes = first_of zeros 0

-- a channel of eight places: what stands at a number, modulo 8, and the channel with a datagram there, where it is one
unfoldable pub place_of : List Bytes → ℕ → Bytes
place_of channel i = get_or channel (i % 8) (first_of [] 0)

unfoldable pub placed : List Bytes → ℕ → Bytes → List Bytes
placed channel i datagram = cond (eqb datagram.n 0) channel (set channel (i % 8) datagram)

-- one command, with this word as its data: begun, added and closed in an output of zeros; nothing where the record then
-- says more words than the limit
unfoldable pub composed : ℕ → ℕ → Asked → ℕ → Bytes
composed kind tag asked word =
    let b = (begun (length zeros) kind tag false false).building in
    let out = added_to zeros b asked (word ∷ []) in
    let a = (added zeros b asked (word ∷ [])).building in
    let words = (closed out a).building.words in
    cond (ltb limit words) no_bytes (first_of (closed_to out a) (4 * words))

-- what building it in an output of zeros comes to: the message's length in bytes, or none where it is refused
abbrev pub OneBuilt : ℕ → ℕ → Asked → ℕ → Result ℕ Refusal → List ℕ → Type 0
OneBuilt kind tag asked word (Ok n) out = first_of out n ≡ composed kind tag asked word
OneBuilt kind tag asked word (Err r) out = no_bytes ≡ composed kind tag asked word
