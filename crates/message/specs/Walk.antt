-- What any bytes mean, or their refusal: one step of the walk, the walk, and what the function `walk` tells of it.
-- "Then the commands are walked, at each header 3 (no word there), 4 to 8, 3 (body past the end), 9. Then 10". Assumes
-- nothing.
use Rattle.std.specs.Prelude.{ℕ, zero, suc, ◌+◌, ◌-◌, cond, List, [], ◌∷◌, length, get_or, take, drop, ltb, leb, Result, Ok, Err}
use Rattle.word.specs.Words.{words_of}
use Rattle.header.specs.declared.Head.{Head}
use Rattle.header.specs.declared.refusal.Refusal.{Refusal}
use Rattle.header.specs.Limits.{limit, length_ok}
use Rattle.header.specs.Header.{kind_of, byte1_of, count_of, address_words, data_words, head_of}
use Rattle.header.specs.Refusal.{refused_at, refusal, result_of}
use Rattle.message.specs.Faults.{fault_of}
use Rattle.message.specs.Request.{Command, Request, Reading, before, replies, Refused, Means}
use Rattle.message.specs.Address.{address_from}

-- the header at word `at` as it was read, or its refusal
unfoldable pub step_on : ℕ → ℕ → ℕ → ℕ → ℕ → Result Head Refusal
step_on byte0 at h left address = result_of (refused_at (fault_of byte0 h left address) at) (head_of byte0 h)

-- the command of the header h and the words that follow it
unfoldable pub command_of : ℕ → ℕ → List ℕ → Command
command_of byte0 h rest =
    record {
      byte1 = byte1_of h;
      count = count_of h;
      address = address_from (address_words byte0) rest;
      payload = take (data_words (kind_of byte0) (count_of h)) (drop (address_words byte0) rest);
    }

-- what a step comes to: c is the command read, and `go n` what follows behind n words
abbrev pub turn : Result Head Refusal → Command → (ℕ → Reading (List Command)) → Reading (List Command)
turn (Err r) c go = Refused r
turn (Ok d) c go = cond d.last (Means (c ∷ [])) (before c (go d.body))

-- "Then the commands are walked": the commands in the words ws, the next header, word `at` of the message, standing
-- behind `skip` of them; "3 (no word there)" at the place where it should stand
unfoldable pub commands_from : ℕ → ℕ → ℕ → List ℕ → Reading (List Command)
commands_from byte0 at skip [] = Refused (refused_at 3 at)
commands_from byte0 at (suc skip) (w ∷ ws) = commands_from byte0 at skip ws
commands_from byte0 at zero (h ∷ rest) =
    turn (step_on byte0 at h (length rest) (address_from (address_words byte0) rest)) (command_of byte0 h rest)
    (λ n. commands_from byte0 (at + 1 + n) n rest)

-- "Then 10": the answer with all commands OK would pass the limit
unfoldable pub ended : ℕ → Reading (List Command) → Reading Request
ended byte0 (Refused r) = Refused r
ended byte0 (Means cs) = cond (leb (replies byte0 cs) limit) (Means (record { byte0 = byte0; commands = cs }))
    (Refused (refusal 10))

-- a datagram: 2, then the walk, then 10
unfoldable pub read : List ℕ → Reading Request
read dg = cond (length_ok (length dg)) (ended (get_or dg 0 0) (commands_from (get_or dg 0 0) 0 0 (words_of dg)))
    (Refused (refusal 2))

-- what a datagram asks; nothing where it is refused
abbrev pub request_in : Reading Request → Request
request_in (Refused n) = record { byte0 = 0; commands = [] }
request_in (Means r) = r

unfoldable pub request_of : List ℕ → Request
request_of dg = request_in (read dg)

-- its step at word `at` of the words ws; "3 (no word there)"
unfoldable pub step_at : ℕ → List ℕ → ℕ → Result Head Refusal
step_at byte0 ws at =
    cond (ltb at (length ws))
    (step_on byte0 at (get_or ws at 0) (length ws - at - 1) (address_from (address_words byte0) (drop (at + 1) ws)))
    (Err (refused_at 3 at))

-- what the walk tells at the end of its commands, whose all-OK answer has so many words: 10, or byte 0
unfoldable pub end_of : ℕ → ℕ → Result ℕ Refusal
end_of byte0 answer = cond (leb answer limit) (Ok byte0) (Err (refusal 10))

-- and of commands that follow others whose answers have so many words
unfoldable pub finish : ℕ → ℕ → Reading (List Command) → Result ℕ Refusal
finish byte0 answer (Refused r) = Err r
finish byte0 answer (Means cs) = end_of byte0 (answer + replies byte0 cs)
