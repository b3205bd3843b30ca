-- Building a message: begin, add, close, and their refusals 21 to 26. Assumes nothing.
use Rattle.std.specs.Prelude.{ℕ, ◌+◌, ◌*◌, ◌%◌, Bool, true, false, not, cond, ◌&&◌, List, [], ◌∷◌, length, get_or, leb, eqb, Result}
use Rattle.word.specs.Words.{put, put_words}
use Rattle.header.specs.declared.refusal.Refusal.{Refusal}
use Rattle.header.specs.Limits.{limit_bytes}
use Rattle.header.specs.Header.{kind_of}
use Rattle.header.specs.Refusal.{refusal, unless, result_of}
use Rattle.message.specs.Request.{command_words}
use Rattle.building.specs.declared.record.Building.{Building}
use Rattle.building.specs.declared.asked.Asked.{Asked}
use Rattle.building.specs.Record.{start_ok, byte0_by, reachable}
use Rattle.building.specs.Asked.{count_by, command_by, size_by, reply_by, command_fault}

-- what a call gives back: its refusal, number 0 for none, and the record
pub record Built : Type 0 where
  pub refusal : Refusal
  pub building : Building

-- as a function gives it back
abbrev pub built_of : Built → Result Building Refusal
built_of built = result_of built.refusal built.building

-- from the refusal's number
abbrev pub gives : ℕ → Building → Built
gives number b = record { refusal = refusal number; building = b }

-- "A message is built in a lent output of" the limit in bytes "or more"
abbrev pub long_ok : ℕ → Bool
long_ok room = leb limit_bytes room

-- "begin (kind, tag, address mode, discovery)": nothing added yet
unfoldable pub opened : ℕ → ℕ → Bool → Bool → Building
opened kind tag wide discovery =
    record {
      kind = kind;
      tag = tag;
      wide = wide;
      discovery = discovery;
      words = 0;
      last = 0;
      answer = 0;
      closed = false;
    }

-- the record beside a refused begin, which no call gives: of kind 3, which 21 refuses (`RefusedBeginStops` in
-- specs/Promises.antt)
abbrev pub no_building : Building
no_building = opened 3 0 false false

-- 21 of begin: "short output, kind over 2, tag over 15"
unfoldable pub begun : ℕ → ℕ → ℕ → Bool → Bool → Built
begun room kind tag wide discovery =
    cond (long_ok room && start_ok kind tag) (gives 0 (opened kind tag wide discovery))
    (gives 21 no_building)

-- 21 of add and close: "short output .. or a building record that no sequence of calls gives"
abbrev pub usable : ℕ → Building → Bool
usable room b = long_ok room && reachable b

-- 21, "22 adding after closing", then the command's own
unfoldable pub add_fault : ℕ → Building → Asked → ℕ → ℕ
add_fault room b asked lent =
    unless (usable room b) 21
    (unless (not b.closed) 22
    (command_fault (byte0_by b) b.words b.answer asked (count_by (kind_of (byte0_by b)) asked.count lent)))

-- 21, then 22 "closing twice or closing with nothing added"
unfoldable pub close_fault : ℕ → Building → ℕ
close_fault room b = unless (usable room b) 21 (unless (not b.closed && not (eqb b.words 0)) 22 0)

-- the record with one more command, of this count
unfoldable pub grown : Building → ℕ → Building
grown b count =
    record {
      kind = b.kind;
      tag = b.tag;
      wide = b.wide;
      discovery = b.discovery;
      words = b.words + size_by (byte0_by b) count;
      last = b.words;
      answer = b.answer + reply_by (byte0_by b) count;
      closed = false;
    }

-- the record closed
unfoldable pub shut : Building → Building
shut b =
    record {
      kind = b.kind;
      tag = b.tag;
      wide = b.wide;
      discovery = b.discovery;
      words = b.words;
      last = b.last;
      answer = b.answer;
      closed = true;
    }

-- "Closing sets LAST on the last one": bit 31 of the header at word `last` is bit 7 of its fourth byte
unfoldable pub last_set : List ℕ → ℕ → List ℕ
last_set out last = put out (4 * last + 3) ((get_or out (4 * last + 3) 0 % 128 + 128) ∷ [])

-- adding a command: what the call gives back, and the output; refusals "change nothing"
unfoldable pub added : List ℕ → Building → Asked → List ℕ → Built
added out b asked payload =
    cond (eqb (add_fault (length out) b asked (length payload)) 0)
    (gives 0 (grown b (count_by (kind_of (byte0_by b)) asked.count (length payload))))
    (gives (add_fault (length out) b asked (length payload)) b)

-- "Only the added command's bytes .. change": they stand behind the words so far
unfoldable pub added_to : List ℕ → Building → Asked → List ℕ → List ℕ
added_to out b asked payload =
    cond (eqb (add_fault (length out) b asked (length payload)) 0)
    (put_words out b.words (command_words (byte0_by b) false (command_by (byte0_by b) asked payload)))
    out

-- closing: what the call gives back, and the output
unfoldable pub closed : List ℕ → Building → Built
closed out b = cond (eqb (close_fault (length out) b) 0) (gives 0 (shut b)) (gives (close_fault (length out) b) b)

-- "or that one bit"
unfoldable pub closed_to : List ℕ → Building → List ℕ
closed_to out b = cond (eqb (close_fault (length out) b) 0) (last_set out b.last) out
