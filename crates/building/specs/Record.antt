-- The building record, and the formula of the records that some sequence of calls gives (specs/Reach.antt says it in
-- those words). Assumes nothing.
use Rattle.std.specs.Prelude.{ℕ, ◌+◌, ◌-◌, ◌*◌, ◌/◌, ◌%◌, Bool, false, not, cond, ◌&&◌, ltb, leb, eqb}
use Rattle.header.specs.declared.Kind.{Kind}
use Rattle.header.specs.declared.Kind.TheVariants.{Nop, Write, Read, Response}
use Rattle.header.specs.Limits.{limit, tag_count}
use Rattle.header.specs.Header.{kind_no, kind_of, byte0_from, address_words}
use Rattle.building.specs.declared.record.Building.{Building}

-- not "kind over 2, tag over 15"
unfoldable pub start_ok : ℕ → ℕ → Bool
start_ok kind tag = ltb kind 3 && ltb tag tag_count

-- byte 0 of the headers, from "begin's four"
unfoldable pub byte0_by : Building → ℕ
byte0_by b = byte0_from b.tag (kind_no b.kind) b.wide b.discovery

-- nothing was added: no words, no answer, not closed
unfoldable pub fresh_ok : Building → Bool
fresh_ok b = eqb b.last 0 && eqb b.answer 0 && not b.closed

-- commands with `a` address words, the last header at word `last`, can have come to these words and this all-OK answer:
-- NOPs are answered by as many words, and have 1 to 3
unfoldable pub nops_ok : ℕ → ℕ → ℕ → Bool
nops_ok words last answer = eqb answer words && leb (words - last) 3

-- writes have 2 + a words or more, and are answered by one each
unfoldable pub writes_ok : ℕ → ℕ → ℕ → ℕ → Bool
writes_ok a words last answer = leb (2 + a) (words - last)
    && cond (eqb answer 1) (eqb last 0) (leb ((answer - 1) * (2 + a)) last)

-- reads have 1 + a words, and are answered by 2 or more each
unfoldable pub reads_ok : ℕ → ℕ → ℕ → ℕ → Bool
reads_ok a words last answer = eqb (words - last) (1 + a) && eqb (words % (1 + a)) 0
    && leb (2 * (words / (1 + a))) answer

abbrev pub shape_ok : Kind → ℕ → ℕ → ℕ → ℕ → Bool
shape_ok Nop a words last answer = nops_ok words last answer
shape_ok Write a words last answer = writes_ok a words last answer
shape_ok Read a words last answer = reads_ok a words last answer
shape_ok Response a words last answer = false

-- something was added: within the limit, and of that shape
unfoldable pub some_ok : Building → Bool
some_ok b =
    leb b.words limit && leb 1 b.answer && leb b.answer limit && ltb b.last b.words
    && shape_ok (kind_of (byte0_by b)) (address_words (byte0_by b)) b.words b.last b.answer

-- the records that some sequence of calls gives
unfoldable pub reachable : Building → Bool
reachable b = start_ok b.kind b.tag && cond (eqb b.words 0) (fresh_ok b) (some_ok b)
