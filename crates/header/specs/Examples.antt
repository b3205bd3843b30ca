-- The header's fields, the sizes that follow from them, the limit and the tags in figures. `proofs/Laws/Worked.antt`
-- computes them. Assumes nothing.
use Rattle.std.specs.Prelude.{ℕ, ◌≡◌, true, false, List, [], ◌∷◌}
use Rattle.header.specs.Limits.{limit, length_ok}
use Rattle.header.specs.Header.{tag_of, next_tag, number_of, kind_of, wide_of, discovery_of, byte1_of, first_field}
use Rattle.header.specs.Header.{last_field, count_of, reserved_of, last_of, bit, size_of}

-- [6] "8,972 bytes, 2,243 words": so many bytes are let by, a word more is not; nor are none, nor a part of a word
abbrev pub LimitShown : Type 0
LimitShown =
    (limit ≡ 2243) × (length_ok 8972 ≡ true) × (length_ok 8976 ≡ false) × (length_ok 0 ≡ false) × (length_ok 3 ≡ false)
    × (length_ok 4 ≡ true) × (length_ok 5 ≡ false) × (length_ok 6 ≡ false) × (length_ok 8 ≡ true)
    × (length_ok 8970 ≡ false)
    × (length_ok 8973 ≡ false)

-- the fields of a header in the order of the table: bits 3:0, 5:4, 6, 7, 11:8, 15:12, 27:16, 30:28 and 31
unfoldable pub fields_of : ℕ → List ℕ
fields_of h = tag_of h ∷ number_of (kind_of h) ∷ bit (wide_of h) ∷ bit (discovery_of h) ∷ first_field (byte1_of h)
    ∷ last_field (byte1_of h)
    ∷ count_of h
    ∷ reserved_of h
    ∷ bit (last_of h)
    ∷ []

abbrev pub Reads : ℕ → ℕ → ℕ → ℕ → ℕ → ℕ → ℕ → ℕ → ℕ → ℕ → Type 0
Reads h tag kind wide discovery first last count reserved ends =
    fields_of h ≡ tag ∷ kind ∷ wide ∷ discovery ∷ first ∷ last ∷ count ∷ reserved ∷ ends ∷ []

-- the table: each field alone with all its bits set, all fields, the lowest bit of each longer one; and headers of the
-- bench sheet
pub record HeadersShown : Type 0 where
  pub tag : Reads 0x0000000F 15 0 0 0 0 0 0 0 0
  pub kind : Reads 0x00000030 0 3 0 0 0 0 0 0 0
  pub wide : Reads 0x00000040 0 0 1 0 0 0 0 0 0
  pub discovery : Reads 0x00000080 0 0 0 1 0 0 0 0 0
  pub first : Reads 0x00000F00 0 0 0 0 15 0 0 0 0
  pub last : Reads 0x0000F000 0 0 0 0 0 15 0 0 0
  pub count : Reads 0x0FFF0000 0 0 0 0 0 0 4095 0 0
  pub reserved : Reads 0x70000000 0 0 0 0 0 0 0 7 0
  pub ends : Reads 0x80000000 0 0 0 0 0 0 0 0 1
  pub all : Reads 0xFFFFFFFF 15 3 1 1 15 15 4095 7 1
  pub lowest : Reads 0x10011111 1 1 0 0 1 1 1 1 0
  pub nop : Reads 0x80010080 0 0 0 1 0 0 1 0 1
  pub read : Reads 0x800100A0 0 2 0 1 0 0 1 0 1
  pub merged : Reads 0x80010411 1 1 0 0 4 0 1 0 1
  pub write : Reads 0x80010F50 0 1 1 0 15 0 1 0 1
  pub error : Reads 0x80000270 0 3 1 0 2 0 0 0 1
  pub longest : Reads 0x88C20020 0 2 0 0 0 0 2242 0 1

-- "A write carries address and count words; a read carries its address only; a NOP carries count words and no address":
-- with the header, in 32 and in 64 bits; a response carries count words
pub record SizesShown : Type 0 where
  pub nop : size_of 0x80020000 ≡ 3
  pub wide_nop : size_of 0x80020040 ≡ 3
  pub write : size_of 0x80020010 ≡ 4
  pub wide_write : size_of 0x80020050 ≡ 5
  pub read : size_of 0x80020020 ≡ 2
  pub wide_read : size_of 0x80020060 ≡ 3
  pub response : size_of 0x80020030 ≡ 3
  pub longest : size_of 0x0FFF0010 ≡ 4097

-- "The next tag, modulo 16"
abbrev pub TagsShown : Type 0
TagsShown = (next_tag 0 ≡ 1) × (next_tag 14 ≡ 15) × (next_tag 15 ≡ 0)
