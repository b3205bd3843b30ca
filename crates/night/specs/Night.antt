-- "The replay program": the records of a night, what each makes of the controller, and the text of it all. Assumes
-- nothing.
use Rattle.std.specs.Prelude.{ℕ, zero, suc, ◌+◌, ◌*◌, ◌/◌, Bool, true, false, cond, List, [], ◌++◌, ltb, eqb, length, take, drop, get_or, replicate}
use Rattle.word.specs.Words.{words_of, put}
use Rattle.header.specs.Limits.{limit, limit_bytes}
use Rattle.header.specs.Refusal.{refusal}
use Rattle.tags.specs.Record.{places, fresh_record}
use Rattle.completer.specs.Controller.{Controller, lent, After, left}
use Rattle.completer.specs.Serving.{after}
use Rattle.night.specs.declared.Night.{Night}
use Rattle.night.specs.Text.{Short, line_of, text_of, tag_text}

-- "records of 1,476 bytes, no file header: a 4-byte length, then 1,472 bytes"; [6] made the latter 8,972
abbrev pub record_bytes : ℕ
record_bytes = 4 + limit_bytes

-- "a 4-byte length"
unfoldable pub length_of : List ℕ → ℕ
length_of r = get_or (words_of r) 0 0

-- "unused ones ignored"
unfoldable pub datagram_of : List ℕ → List ℕ
datagram_of r = take (length_of r) (drop 4 r)

-- what is there after a record was served; "A length over 1,472 is refusal 2"
unfoldable pub after_record : Controller → List ℕ → List ℕ → After
after_record c output r =
    cond (ltb limit_bytes (length_of r)) (left (refusal 2) 0 c output) (after c output (datagram_of r))

-- a turn: the controller after it, its text, and whether records may follow
pub record Turned : Type 0 where
  pub controller : Controller
  pub text : List ℕ
  pub more : Bool

abbrev pub turned : Controller → List ℕ → Bool → Turned
turned controller text more = record { controller = controller; text = text; more = more }

-- record k, a whole one: its line, "Sent gives words"; each is lent an output of zeros
unfoldable pub whole_turn : Controller → ℕ → List ℕ → Turned
whole_turn c k r =
    let a = after_record c (replicate limit_bytes 0) r in
    turned a.controller (text_of k (line_of a.refusal (a.sent / 4))) true

-- what was got of record k. "A tail shorter than a record prints its number and `short`"; where there is none, nothing
unfoldable pub turn_of : Controller → ℕ → List ℕ → Turned
turn_of c k got =
    cond (eqb (length got) 0) (turned c [] false)
    (cond (ltb (length got) record_bytes) (turned c (text_of k Short) false) (whole_turn c k got))

-- "It starts fresh over 1,024 zero words"; nothing reads a stored answer or a kept request before it is written
abbrev pub memory_words : ℕ
memory_words = 1024

unfoldable pub at_first : Controller
at_first =
    lent (replicate memory_words 0) (replicate (places * limit) 0) (replicate (places * limit_bytes) 0) fresh_record

-- record k of the input, counted from 0, or what there is of it
unfoldable pub record_at : List ℕ → ℕ → List ℕ
record_at input k = take record_bytes (drop (k * record_bytes) input)

-- the controller and the text after k turns
unfoldable pub turns : List ℕ → ℕ → Turned
turns input zero = turned at_first [] true
turns input (suc k) =
    let before = turns input k in
    let t = turn_of before.controller (suc k) (record_at input k) in
    turned t.controller (before.text ++ t.text) t.more

-- all that is printed of a night: a turn for each whole record and one for what is left, "the last line is `tag none`
-- when fresh"
unfoldable pub night_text : List ℕ → List ℕ
night_text input =
    let end = turns input (suc (length input / record_bytes)) in
    end.text ++ tag_text end.controller.tags

-- the state as the program holds it
abbrev pub controller_of : Night → Controller
controller_of n = lent n.memory n.stored n.kept n.tags

-- what a turn leaves: the state, whether records may follow, and a line of so many bytes at the front of the lent one
pub record Left : Type 0 where
  pub controller : Controller
  pub more : Bool
  pub length : ℕ
  pub line : List ℕ

abbrev pub leaves : Controller → Bool → ℕ → List ℕ → Left
leaves controller more length line = record { controller = controller; more = more; length = length; line = line }

-- a turn's text put into the lent line; "later" bytes keep what they held
unfoldable pub left_by : Turned → List ℕ → Left
left_by t line = leaves t.controller t.more (length t.text) (put line 0 t.text)
