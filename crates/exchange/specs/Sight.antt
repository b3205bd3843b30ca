-- What the facts about single calls look at: `once` asks for it, and the promise does not name it. Assumes nothing.
use Rattle.std.specs.Prelude.{ℕ, suc, ◌≡◌, Bool, true, cond, not, ◌&&◌, List, [], ◌∷◌, eqb, get_or}
use Rattle.word.specs.Words.{bytes_of}
use Rattle.header.specs.Limits.{tag_count}
use Rattle.header.specs.Header.{tag_of, kind_of, discovery_of}
use Rattle.message.specs.Request.{Request, Fits}
use Rattle.message.specs.Walk.{request_of}
use Rattle.answer.specs.Answer.{Answered, encode_answer, FitsAnswer}
use Rattle.tags.specs.Record.{back}
use Rattle.completer.specs.Controller.{Controller, request_in, answer_in}
use Rattle.initiator.specs.declared.sender.Sender.{Sender}
use Rattle.initiator.specs.Places.{answered_at}
use Rattle.once.specs.Tags.{Slot, asked, answered, Sight}
use Rattle.exchange.specs.Outcomes.{Outcome, each, told, results_in}
use Rattle.exchange.specs.Ends.{Waiting, Loader, ends}
use Rattle.exchange.specs.Terms.{Plain, terms, Sound}

-- the tag that is j back from the newest: `back`, since a tag that is j back has j for its distance and the other way
-- round; and the stored answer of it as it is sent; and all that are held, the newest first. Words past an answer's
-- length are not seen.
abbrev pub stored_at : Controller → ℕ → ℕ × List ℕ
stored_at c j =
    (back c.tags.tag j, bytes_of (answer_in c.stored c.tags (back c.tags.tag j)))

abbrev pub stored_by : Controller → List (ℕ × List ℕ)
stored_by c = each c.tags.held (stored_at c)

-- the messages that wait, the oldest first; of an answered one, what its answer tells
abbrev pub seen : List Waiting → List (Slot (List ℕ) Outcome)
seen [] = []
seen (asked message ∷ l) = asked message ∷ seen l
seen (answered message answer ∷ l) = answered message (told message answer) ∷ seen l

-- whether the sender's record says of what is lent, from place p on, who is answered, and that no more wait
abbrev pub agrees : Sender → ℕ → List Waiting → Bool
agrees s p [] = eqb s.waiting p
agrees s p (asked message ∷ l) = not (answered_at s p) && agrees s (suc p) l
agrees s p (answered message answer ∷ l) = answered_at s p && agrees s (suc p) l

-- the next tag; one that is none, of a loader whose record does not say what is lent
abbrev pub next_by : Loader → ℕ
next_by s = cond (agrees s.sender 0 s.waiting) s.sender.next tag_count

-- the bytes of an answer that may be given to the request
pub record Encodes (r : Request) (items : List Answered) (answer : List ℕ) : Type 0 where
  pub fits : FitsAnswer r items
  pub is : answer ≡ encode_answer r items

-- an answer to the message, that says this outcome
pub record Answers (message : List ℕ) (o : Outcome) (answer : List ℕ) : Type 0 where
  pub items : List Answered
  pub encodes : Encodes (request_of message) items answer
  pub says : o ≡ results_in (kind_of (request_of message).byte0) items

-- an answer to a discovery
pub record Strange (answer : List ℕ) : Type 0 where
  pub request : Request
  pub fits : Fits request
  pub finds : discovery_of request.byte0 ≡ true
  pub items : List Answered
  pub encodes : Encodes request items answer

abbrev pub sight : Sight ends terms
sight =
    record {
      Plain = Plain;
      tag = λ message. tag_of (get_or message 0 0);
      Sound = Sound;
      stored = stored_by;
      Holds = λ c j message. request_in c.kept c.tags (back c.tags.tag j) ≡ message;
      next = next_by;
      waiting = λ s. seen s.waiting;
      Copy = λ message datagram. datagram ≡ message;
      Answer = Answers;
      Strange = Strange;
    }
