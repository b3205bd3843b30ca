-- The figures of the header, its sizes, the limit and the tags: computed. Assumes nothing.
use mathlib.Core.Path.{refl}
use Rattle.header.specs.Limits.{length_ok}
use Rattle.header.specs.Header.{kind_no, size_of}
use Rattle.header.specs.Examples.{fields_of, LimitShown, HeadersShown, SizesShown, TagsShown}

pub limit-shown : LimitShown
unfolding length_ok
limit-shown = (refl, refl, refl, refl, refl, refl, refl, refl, refl, refl, refl)

pub headers-shown : HeadersShown
unfolding fields_of kind_no
headers-shown =
    record {
      tag = refl;
      kind = refl;
      wide = refl;
      discovery = refl;
      first = refl;
      last = refl;
      count = refl;
      reserved = refl;
      ends = refl;
      all = refl;
      lowest = refl;
      nop = refl;
      read = refl;
      merged = refl;
      write = refl;
      error = refl;
      longest = refl;
    }

pub sizes-shown : SizesShown
unfolding size_of kind_no
sizes-shown = record { nop = refl; wide_nop = refl; write = refl; wide_write = refl; read = refl; wide_read = refl; response = refl; longest = refl }

pub tags-shown : TagsShown
tags-shown = (refl, refl, refl)
