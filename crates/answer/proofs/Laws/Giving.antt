-- What whoever gives an answer uses: its words one by one, and when it fits. The controller's end cites these. Assumes nothing.
use Prim.Native.Nat.{ℕ, ◌+◌}
use mathlib.Core.Path.{◌≡◌, refl}
use mathlib.Core.Bool.{Bool, true, false}
use mathlib.Core.List.{List, [], ◌∷◌, ◌++◌}
use lib.ListN.{length}
use Rattle.word.specs.Words.{bytes_of}
use Rattle.header.specs.Header.{kind_of, header_from, reply_words}
use Rattle.message.specs.Request.{Command, Request, replies, none}
use Rattle.answer.specs.Answer.{Answered, code_of, answer_byte, stops, answered_words, answer_words, encode_answer, FitsAnswered, FitsAnswers}

-- the words of one answer, and of an answer before others
pub answered-is : (byte : ℕ) (last : Bool) (a : Answered) → answered_words byte last a ≡ header_from byte (code_of a.status) (length a.payload) last ∷ a.payload
unfolding answered_words
answered-is byte last a = refl

pub answer-none : (byte : ℕ) → answer_words byte [] ≡ []
unfolding answer_words
answer-none byte = refl

pub answer-more : (byte : ℕ) (a : Answered) (more : List Answered) → answer_words byte (a ∷ more) ≡ answered_words byte (none more) a ++ answer_words byte more
unfolding answer_words
answer-more byte a more = refl

pub replies-more : (byte0 : ℕ) (c : Command) (cs : List Command) → replies byte0 (c ∷ cs) ≡ 1 + reply_words (kind_of byte0) c.count + replies byte0 cs
unfolding replies
replies-more byte0 c cs = refl

-- an answer fits where it stops at the last command or an Error, or goes on with one that fits
pub fits-stop : (byte0 : ℕ) (c : Command) (cs : List Command) (a : Answered) → FitsAnswered byte0 c a → stops a.status (none cs) ≡ true
    → FitsAnswers byte0 (c ∷ cs) (a ∷ [])
unfolding FitsAnswers
fits-stop byte0 c cs a f e = (f, rw e refl)

pub fits_on : (byte0 : ℕ) (c : Command) (cs : List Command) (a : Answered) (more : List Answered) → FitsAnswered byte0 c a → stops a.status (none cs) ≡ false
    → FitsAnswers byte0 cs more → FitsAnswers byte0 (c ∷ cs) (a ∷ more)
unfolding FitsAnswers
fits_on byte0 c cs a more f e g = (f, rw e g)

-- an answer's bytes
pub encoded-is : (r : Request) (items : List Answered) → encode_answer r items ≡ bytes_of (answer_words (answer_byte r.byte0) items)
unfolding encode_answer
encoded-is r items = refl
