-- Carrying out a message, the answer: what each command is answered, with memory as it then is. Assumes nothing.
use Rattle.std.specs.Prelude.{ℕ, ◌/◌, cond, List, [], ◌∷◌, length, take, drop}
use Rattle.header.specs.declared.Kind.{Kind}
use Rattle.header.specs.declared.Kind.TheVariants.{Nop, Write, Read, Response}
use Rattle.header.specs.Limits.{limit_bytes}
use Rattle.header.specs.Header.{kind_of}
use Rattle.message.specs.Request.{Command, Request}
use Rattle.answer.specs.declared.Status.TheVariants.{Ok, Error}
use Rattle.answer.specs.Answer.{Answered, answer_byte, answer_words}
use Rattle.memory.specs.Moves.{fails, moves_of, after_moves}

-- "Advertisement word 0 is" the limit in bytes; "word 1 is the stored tag at entry plus 16, or 0 where none is stored":
-- `mark` is word 1
abbrev pub advertisement : ℕ → List ℕ
advertisement mark = limit_bytes ∷ mark ∷ []

-- "OK read: count and data as asked. OK write: count 0. OK NOP: the first count words of the advertisement"
abbrev pub ok_words : Kind → ℕ → List ℕ → Command → List ℕ
ok_words Nop mark memory c = take c.count (advertisement mark)
ok_words Write mark memory c = []
ok_words Read mark memory c = take c.count (drop (c.address / 4) memory)
ok_words Response mark memory c = []

abbrev pub done : Kind → ℕ → List ℕ → Command → Answered
done kind mark memory c = record { status = Ok; payload = ok_words kind mark memory c }

-- "Error: count 0"
abbrev pub failed : Answered
failed = record { status = Error; payload = [] }

unfoldable pub answer_of : Kind → ℕ → List ℕ → Command → Answered
answer_of kind mark memory c = cond (fails kind (length memory) c) failed (done kind mark memory c)

-- "one header for each command up to the last or the first Error"
unfoldable pub answers : Kind → ℕ → List ℕ → List Command → List Answered
answers kind mark memory [] = []
answers kind mark memory (c ∷ cs) =
    answer_of kind mark memory c
    ∷ cond (fails kind (length memory) c) [] (answers kind mark (after_moves memory (moves_of kind c)) cs)

-- the answer to a request
unfoldable pub answer_to : Request → ℕ → List ℕ → List Answered
answer_to r mark memory = answers (kind_of r.byte0) mark memory r.commands

-- and its words
unfoldable pub words_to : Request → ℕ → List ℕ → List ℕ
words_to r mark memory = answer_words (answer_byte r.byte0) (answer_to r mark memory)
