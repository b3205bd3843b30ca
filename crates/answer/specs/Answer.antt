-- What an answer means, judged against its request and written to bytes. Assumes nothing.
use Rattle.std.specs.Prelude.{ℕ, zero, suc, ◌+◌, ◌-◌, ◌≡◌, Bool, true, cond, List, [], ◌∷◌, ◌++◌, length, get_or, take, drop, ltb, leb, eqb}
use Rattle.std.specs.Prelude.{Result, Ok as OkResult, Err, ⊤}
use Rattle.std.specs.Bool.{beq}
use Rattle.word.specs.Words.{words_of, bytes_of, Words}
use Rattle.header.specs.declared.Kind.TheVariants.{Response}
use Rattle.header.specs.declared.refusal.Refusal.{Refusal}
use Rattle.header.specs.Header.{tag_of, kind_of, wide_of, discovery_of, byte0_of, byte1_of, count_of, reserved_of, last_of}
use Rattle.header.specs.Header.{byte0_from, header_from, reply_words, ends_ok}
use Rattle.header.specs.Refusal.{refused_at, refusal, unless, result_of}
use Rattle.header.specs.Limits.{length_ok}
use Rattle.message.specs.Request.{Command, Request, Reading, Refused, Means, before, none}
use Rattle.answer.specs.declared.Status.{Status}
use Rattle.answer.specs.declared.Status.TheVariants.{Ok, Timeout, Error}
use Rattle.answer.specs.declared.Seen.{Seen}

-- "response: 0 OK, 1 Timeout, 2 Error"
abbrev pub code_of : Status → ℕ
code_of Ok = 0
code_of Timeout = 1
code_of Error = 2

unfoldable pub status_no : ℕ → Status
status_no zero = Ok
status_no (suc zero) = Timeout
status_no (suc (suc n)) = Error

-- the status that a number names: 0 to 2
abbrev pub known_status : ℕ → Result Status ⊤
known_status n = cond (ltb n 3) (OkResult (status_no n)) (Err tt)

-- what one command was answered: "the status and read data of each answered command"
pub record Answered : Type 0 where
  pub status : Status
  pub payload : List ℕ

-- "byte 0 of the request with the kind made 3"
unfoldable pub answer_byte : ℕ → ℕ
answer_byte byte0 = byte0_from (tag_of byte0) Response (wide_of byte0) (discovery_of byte0)

-- the data words of an answer to a command with this count; "nonzero status: count 0"
abbrev pub wanted : ℕ → ℕ → Status → ℕ
wanted byte0 count Ok = reply_words (kind_of byte0) count
wanted byte0 count Timeout = 0
wanted byte0 count Error = 0

-- "LAST belongs on the last command's header or the first nonzero status"
abbrev pub stops : Status → Bool → Bool
stops Ok last = last
stops Timeout last = true
stops Error last = true

-- the first fault of an answer's header h with `left` words after it, to a command with this count; last: it is the
-- last command
unfoldable pub answer_fault : ℕ → ℕ → Bool → ℕ → ℕ → ℕ
answer_fault byte0 count last h left =
    unless (eqb (byte0_of h) (answer_byte byte0)) 34
    (unless (eqb (reserved_of h) 0) 34
    (unless (ltb (byte1_of h) 3) 34
    (unless (eqb (count_of h) (wanted byte0 count (status_no (byte1_of h)))) 34
    (unless (leb (count_of h) left) 35
    (unless (beq (last_of h) (stops (status_no (byte1_of h)) last)) 35
    (unless (ends_ok (last_of h) (count_of h) left) 35 0))))))

-- an answer's header as it was read
unfoldable pub seen_of : ℕ → Seen
seen_of h = record { status = status_no (byte1_of h); count = count_of h; last = last_of h }

-- the same of the header at word `at`, or its refusal
unfoldable pub look_on : ℕ → ℕ → Bool → ℕ → ℕ → ℕ → Result Seen Refusal
look_on byte0 count last at h left = result_of (refused_at (answer_fault byte0 count last h left) at) (seen_of h)

-- at word `at` of the words ws; "35 (no word)"
unfoldable pub look_at : ℕ → ℕ → Bool → List ℕ → ℕ → Result Seen Refusal
look_at byte0 count last ws at = cond (ltb at (length ws))
    (look_on byte0 count last at (get_or ws at 0) (length ws - at - 1)) (Err (refused_at 35 at))

-- what a look comes to: `rest` follows the header, and `go n` is what follows behind n words of it
abbrev pub look_turn : Result Seen Refusal → List ℕ → (ℕ → Reading (List Answered)) → Reading (List Answered)
look_turn (Err r) rest go = Refused r
look_turn (OkResult s) rest go =
    cond s.last (Means (record { status = s.status; payload = take s.count rest } ∷ []))
    (before (record { status = s.status; payload = take s.count rest }) (go s.count))

-- the answers to the commands cs in the words ws, the first of which is word `at` of the answer
unfoldable pub answers_from : ℕ → ℕ → List Command → List ℕ → Reading (List Answered)
answers_from byte0 at [] ws = Refused (refused_at 35 at)
answers_from byte0 at (c ∷ cs) [] = Refused (refused_at 35 at)
answers_from byte0 at (c ∷ cs) (h ∷ rest) =
    look_turn (look_on byte0 c.count (none cs) at h (length rest)) rest
    (λ n. answers_from byte0 (at + 1 + n) cs (drop n rest))

-- 32, then 33, of an answer to a request of this byte 0; number 0 for none
unfoldable pub head_fault : ℕ → List ℕ → Refusal
head_fault byte0 dg = unless (length_ok (length dg)) (refusal 32)
    (unless (eqb (get_or dg 0 0) (answer_byte byte0)) (refusal 33) (refusal 0))

-- an answer datagram to a request: 32, 33, and at each header 35 (no word), 34, 35
unfoldable pub judge : Request → List ℕ → Reading (List Answered)
judge r dg =
    cond (length_ok (length dg))
    (cond (eqb (get_or dg 0 0) (answer_byte r.byte0)) (answers_from r.byte0 0 r.commands (words_of dg))
    (Refused (refusal 33)))
    (Refused (refusal 32))

-- one answer's words, status in byte 1
unfoldable pub answered_words : ℕ → Bool → Answered → List ℕ
answered_words byte last a = header_from byte (code_of a.status) (length a.payload) last ∷ a.payload

-- "The answer has one header for each command up to the last or the first Error .. LAST on the last one"
unfoldable pub answer_words : ℕ → List Answered → List ℕ
answer_words byte [] = []
answer_words byte (a ∷ more) = answered_words byte (none more) a ++ answer_words byte more

-- an answer's bytes
unfoldable pub encode_answer : Request → List Answered → List ℕ
encode_answer r items = bytes_of (answer_words (answer_byte r.byte0) items)

-- an answer that may be given to a command of this byte 0
pub record FitsAnswered (byte0 : ℕ) (c : Command) (a : Answered) : Type 0 where
  pub long : length a.payload ≡ wanted byte0 c.count a.status
  pub words : Words a.payload

-- answers up to the last command or the first nonzero status
unfoldable pub FitsAnswers : ℕ → List Command → List Answered → Type 0
FitsAnswers byte0 cs [] = ⊥
FitsAnswers byte0 [] (a ∷ more) = ⊥
FitsAnswers byte0 (c ∷ cs) (a ∷ more) = FitsAnswered byte0 c a
    × cond (stops a.status (none cs)) (more ≡ []) (FitsAnswers byte0 cs more)

-- a list that fits a request
abbrev pub FitsAnswer : Request → List Answered → Type 0
FitsAnswer r items = FitsAnswers r.byte0 r.commands items
