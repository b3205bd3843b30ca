-- The tag record: which are allowed, which tags it holds and where, what it advertises, and the record after a message.
-- Assumes nothing.
use Rattle.std.specs.Prelude.{ℕ, ◌+◌, ◌-◌, ◌*◌, ◌%◌, Bool, true, false, cond, ◌&&◌, ◌||◌, List, [], ◌∷◌, ltb, leb, eqb, get_or}
use Rattle.header.specs.Header.{tag_of}
use Rattle.header.specs.Limits.{limit, limit_bytes, tag_count}
use Rattle.tags.specs.declared.record.TagRecord.{TagRecord}

-- [9] "keeps the last four answers with their tags"
abbrev pub places : ℕ
places = 4

-- the place of a tag's answer and request: four tags in a row have four places, across 15 and 0 too
abbrev pub place_of : ℕ → ℕ
place_of tag = tag % places

-- [9] "a fresh record has none"
abbrev pub is_fresh : TagRecord → Bool
is_fresh tags = eqb tags.held 0

-- "The fresh record"
abbrev pub fresh_record : TagRecord
fresh_record = record { held = 0; tag = 0; words = 0 ∷ 0 ∷ 0 ∷ 0 ∷ []; request = 0 ∷ 0 ∷ 0 ∷ 0 ∷ [] }

-- "word 1 is the stored tag at entry plus 16, or 0 where none is stored"; [9] the newest
unfoldable pub mark_of : TagRecord → ℕ
mark_of tags = cond (is_fresh tags) 0 (tags.tag + 16)

-- how far a tag is back from the newest, modulo 16
abbrev pub back : ℕ → ℕ → ℕ
back newest tag = (newest + tag_count - tag) % tag_count

-- [9] "any other holds one to four, their tags going back from the newest by one, modulo 16"
unfoldable pub holds : TagRecord → ℕ → Bool
holds tags tag = cond (is_fresh tags) false (ltb (back tags.tag tag) tags.held)

-- the words of the answer and of the request that are kept for a tag
unfoldable pub words_at : TagRecord → ℕ → ℕ
words_at tags tag = get_or tags.words (place_of tag) 0

unfoldable pub request_at : TagRecord → ℕ → ℕ
request_at tags tag = get_or tags.request (place_of tag) 0

-- "Memory is a lent run of 1 to 16,384 32-bit words"
abbrev pub most_memory : ℕ
most_memory = 16384

-- 1, record, stored answers and kept requests: "stored answer .. has a forbidden length, or the record is not fresh and
-- not (tag 0 to 15, length 1 to" the limit); [7] "Refusal 1 covers the new buffer and the record's request length"; [9]
-- "each length as before, else 1": of the places that are held
unfoldable pub words_ok : ℕ → Bool
words_ok words = cond (ltb words 1) false (leb words limit)

-- a place, whose message is so far back from the newest
unfoldable pub place_ok : ℕ → ℕ → ℕ → ℕ → Bool
place_ok held back words request = leb held back || (words_ok words && words_ok request)

-- place p, whose message is as far back as p is behind the newest one's place
abbrev pub lengths_ok : TagRecord → ℕ → Bool
lengths_ok tags p =
    place_ok tags.held ((tags.tag + (places - p)) % places) (get_or tags.words p 0) (get_or tags.request p 0)

unfoldable pub places_ok : TagRecord → Bool
places_ok tags = ((lengths_ok tags 0 && lengths_ok tags 1) && lengths_ok tags 2) && lengths_ok tags 3

unfoldable pub held_ok : TagRecord → Bool
held_ok tags = cond (ltb places tags.held) false (cond (leb tag_count tags.tag) false (places_ok tags))

unfoldable pub record_ok : TagRecord → Bool
record_ok tags = cond (is_fresh tags) true (held_ok tags)

-- the stored answers and the kept requests have a part of the limit for each place
unfoldable pub kept_ok : ℕ → ℕ → TagRecord → Bool
kept_ok stored kept tags =
    cond (record_ok tags) (cond (ltb stored (places * limit)) false (leb (places * limit_bytes) kept)) false

-- four lengths with n at place p: the other three stay
unfoldable pub written : List ℕ → ℕ → ℕ → List ℕ
written lengths p n =
    cond (eqb p 0) n (get_or lengths 0 0) ∷ cond (eqb p 1) n (get_or lengths 1 0)
    ∷ cond (eqb p 2) n (get_or lengths 2 0) ∷ cond (eqb p 3) n (get_or lengths 3 0) ∷ []

-- "the last four": one more is held, of four at most
unfoldable pub one_more : ℕ → ℕ
one_more held = cond (ltb held places) (held + 1) places

-- "store tag and answer", the answer of n words, and [7] "keep the last request as well as its answer", of so many
-- words, at the place of the tag; else "tag and stored answer stay"
abbrev pub record_by : Bool → TagRecord → ℕ → ℕ → ℕ → TagRecord
record_by true tags byte0 n request = record {
  held = one_more tags.held;
  tag = tag_of byte0;
  words = written tags.words (place_of (tag_of byte0)) n;
  request = written tags.request (place_of (tag_of byte0)) request;
}
record_by false tags byte0 n request = tags
