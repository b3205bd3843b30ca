-- What the code of carrying out goes by: one command, and at the end a whole message. Only `Carries` is cited above
-- this crate; nobody needs to read the rest. Assumes nothing.
use Rattle.std.specs.Prelude.{ℕ, ◌+◌, ◌<◌, ◌≤◌, ◌≡◌, Bool, true, cond, List, [], length, get_or, take, drop, Option, Some, None}
use Rattle.word.specs.Words.{words_of}
use Rattle.header.specs.Limits.{limit}
use Rattle.header.specs.Header.{kind_of, byte1_of, count_of, last_of, address_words, data_words, body_words}
use Rattle.header.specs.Header.{reply_words}
use Rattle.message.specs.Faults.{count_ok}
use Rattle.message.specs.Request.{Command, Request}
use Rattle.message.specs.Address.{address_from}
use Rattle.answer.specs.Answer.{answered_words}
use Rattle.memory.specs.Moves.{fails, moves_of, after_moves, memory_after}
use Rattle.carrying.specs.declared.carry.Task.{Task}
use Rattle.carrying.specs.declared.putting.Answer.{Answer}
use Rattle.carrying.specs.Answers.{answer_of, words_to}
use Rattle.carrying.specs.Putting.{Puts, Adds, Room}

-- the command whose header stands at word `at` of the words ws
abbrev pub command_at : ℕ → List ℕ → ℕ → Command
command_at byte0 ws at =
    record {
      byte1 = byte1_of (get_or ws at 0);
      count = count_of (get_or ws at 0);
      address = address_from (address_words byte0) (drop (at + 1) ws);
      payload = take (data_words (kind_of byte0) (count_of (get_or ws at 0))) (drop (at + 1 + address_words byte0) ws);
    }

-- where the next header stands, if the message goes on
abbrev pub goes_to : Bool → ℕ → Option ℕ
goes_to stop next = cond stop None (Some next)

-- a command of an accepted message stands there, and its answer behind a stays within the limit
pub record Here (t : Task) (at : ℕ) (a : Answer) : Type 0 where
  pub kind : t.kind ≡ kind_of t.byte0
  pub byte : t.answer < 256
  pub counted : count_ok (kind_of t.byte0) (count_of (get_or (words_of t.datagram.now) at 0)) ≡ true
  pub inside :
      at + 1 + body_words t.byte0 (count_of (get_or (words_of t.datagram.now) at 0)) ≤ length (words_of t.datagram.now)
  pub room : a.words + 1 + reply_words (kind_of t.byte0) (count_of (get_or (words_of t.datagram.now) at 0)) ≤ limit
  pub buffers : Room a.stored.now a.output.now

-- whether the message ends at the command c: LAST or not, it may fail
abbrev pub stops : Task → Command → Bool → List ℕ → Bool
stops t c last m = cond (fails t.kind (length m) c) true last

-- one command c carried out, LAST or not, its answer put behind a, which is then b; where the message goes on, the next
-- header stands at word `behind`
pub record CarriesOne (t : Task) (c : Command) (last : Bool) (behind : ℕ) (m : List ℕ) (a : Answer) (on : Option ℕ)
    (m' : List ℕ) (b : Answer) : Type 0 where
  pub goes : on ≡ goes_to (stops t c last m) behind
  pub memory : m' ≡ after_moves m (cond (fails t.kind (length m) c) [] (moves_of t.kind c))
  pub adds : Adds (answered_words t.answer (stops t c last m) (answer_of t.kind t.mark m c)) a b

-- the same of the command that stands at word `at`
abbrev pub CarriesHere : Task → ℕ → List ℕ → Answer → Option ℕ → List ℕ → Answer → Type 0
CarriesHere t at m a on m' b =
    let h = get_or (words_of t.datagram.now) at 0 in
    CarriesOne t (command_at t.byte0 (words_of t.datagram.now) at) (last_of h) (at + 1 + body_words t.byte0 (count_of h))
    m a on m' b

-- a NOP does the same whatever memory holds, and leaves it
abbrev pub CarriesNop : Task → ℕ → Answer → Option ℕ → Answer → Type 0
CarriesNop t at a on b = (m : List ℕ) → CarriesHere t at m a on m b

-- a request carried out: n words of answer, at the front of the output and, where it is kept, of the stored words
pub record Carries (r : Request) (mark : ℕ) (keep : Bool) (m s o : List ℕ) (n : ℕ) (m' s' o' : List ℕ) : Type 0 where
  pub words : n ≡ length (words_to r mark m)
  pub memory : m' ≡ memory_after r m
  pub puts : Puts keep 0 (words_to r mark m) s o s' o'
