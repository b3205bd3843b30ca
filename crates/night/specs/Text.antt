-- The lines of a replay as text, in ASCII. Assumes nothing.
use Rattle.std.specs.Prelude.{ℕ, zero, suc, ◌+◌, ◌/◌, ◌%◌, ◌≡◌, cond, List, [], ◌∷◌, ◌++◌, ltb, eqb, length}
use Prim.Native.Char.{code}
use Prim.Native.String.{String, [] as empty, ◌∷◌ as ◌then◌}
use Rattle.word.specs.Words.{put}
use Rattle.header.specs.declared.refusal.Refusal.{Refusal}
use Rattle.tags.specs.declared.record.TagRecord.{TagRecord}
use Rattle.tags.specs.Record.{is_fresh}

-- the bytes of a text
abbrev pub ascii : String → List ℕ
ascii empty = []
ascii (c then s) = code c ∷ ascii s

-- the digits of a number of at most k digits, the most significant first, no zero in front
unfoldable pub digits_in : ℕ → ℕ → List ℕ
digits_in zero n = []
digits_in (suc k) n = cond (ltb n 10) ((48 + n) ∷ []) (digits_in k (n / 10) ++ ((48 + n % 10) ∷ []))

-- the bytes of a line's buffer
abbrev pub line_bytes : ℕ
line_bytes = 80

-- a number in decimal: 20 digits hold every number of 64 bits
abbrev pub most_digits : ℕ
most_digits = 20

unfoldable pub decimal : ℕ → List ℕ
decimal n = digits_in most_digits n

-- what a record gives: so many words sent, a refusal, or "`short`"
pub data Line : Type 0 where
  Sent : ℕ → Line
  Refused : Refusal → Line
  Short : Line

-- by the refusal (number 0: none) and the words sent
unfoldable pub line_of : Refusal → ℕ → Line
line_of r words = cond (eqb r.number 0) (Sent words) (Refused r)

-- the record's number, and what it gives; [4] a refusal with its index
unfoldable pub text_of : ℕ → Line → List ℕ
text_of k (Sent words) = decimal k ++ (ascii " sent " ++ (decimal words ++ ascii "\n"))
text_of k (Refused r) =
    decimal k ++ (ascii " refused " ++ (decimal r.number ++ (ascii " at " ++ (decimal r.at ++ ascii "\n"))))
text_of k Short = decimal k ++ ascii " short\n"

-- "the last line is `tag none` when fresh"; [9] else the newest tag
unfoldable pub tag_text : TagRecord → List ℕ
tag_text t = ascii "tag " ++ (cond (is_fresh t) (ascii "none") (decimal t.tag) ++ ascii "\n")

-- the run s was put into the text l from index `at` on, which gave l' and the index r behind it
pub record Wrote (l : List ℕ) (at : ℕ) (s : List ℕ) (r : ℕ) (l' : List ℕ) : Type 0 where
  pub ends : r ≡ at + length s
  pub text : l' ≡ put l at s
