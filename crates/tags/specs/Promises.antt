-- What is promised of the record, by the tags that it holds and not by their places. The proofs are in
-- proofs/Laws/Promises.antt. Assumes nothing.
use Rattle.std.specs.Prelude.{ℕ, ◌+◌, ◌%◌, ◌≤◌, ◌<◌, ◌≡◌, true, ◌⊎◌}
use Rattle.header.specs.Limits.{limit, tag_count}
use Rattle.tags.specs.declared.record.TagRecord.{TagRecord}
use Rattle.tags.specs.Record.{place_of, holds, words_at, request_at, record_ok}

-- "length 1 to" the limit, of the answer and [7] of the request
pub record RightLengths (tags : TagRecord) (tag : ℕ) : Type 0 where
  pub some : 1 ≤ words_at tags tag
  pub words : words_at tags tag ≤ limit
  pub asked : 1 ≤ request_at tags tag
  pub request : request_at tags tag ≤ limit

-- [9] "any other holds one to four, .. and each length as before, else 1": of each tag that it holds
pub record HoldsRight (tags : TagRecord) : Type 0 where
  pub few : tags.held ≤ 4
  pub newest : tags.tag < 16
  pub lengths : (tag : ℕ) → tag < 16 → holds tags tag ≡ true → RightLengths tags tag

-- check 1 of the record, exactly: "a fresh record has none", and any other is right
pub record AllowedExactly (tags : TagRecord) : Type 0 where
  pub fine : (tags.held ≡ 0) ⊎ HoldsRight tags → record_ok tags ≡ true
  pub only : record_ok tags ≡ true → (tags.held ≡ 0) ⊎ HoldsRight tags

-- "their tags going back from the newest by one, modulo 16": a tag is held exactly if it is so many back, fewer than
-- are held
pub record HeldExactly (tags : TagRecord) (tag : ℕ) : Type 0 where
  pub held : (j : ℕ) → j < tags.held → (tag + j) % tag_count ≡ tags.tag → holds tags tag ≡ true
  pub only : holds tags tag ≡ true → (j : ℕ) × (j < tags.held) × ((tag + j) % tag_count ≡ tags.tag)

-- four tags in a row have four places
abbrev pub PlacesApart : Type 0
PlacesApart = (tag i j : ℕ) → i < 4 → j < 4 → place_of ((tag + i) % tag_count) ≡ place_of ((tag + j) % tag_count) → i ≡ j
