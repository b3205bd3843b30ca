-- What a request means, and its writing to bytes. Assumes nothing.
use Rattle.std.specs.Prelude.{ℕ, ◌+◌, ◌<◌, ◌≤◌, ◌≡◌, Bool, true, false, List, [], ◌∷◌, ◌++◌, length, Result, Ok, Err}
use Rattle.word.specs.Words.{bytes_of, Words}
use Rattle.header.specs.declared.refusal.Refusal.{Refusal}
use Rattle.header.specs.Limits.{limit}
use Rattle.header.specs.Header.{kind_of, header_from, address_words, data_words, reply_words}
use Rattle.header.specs.Refusal.{refusal}
use Rattle.message.specs.Faults.{asks, count_ok, enables_ok}
use Rattle.message.specs.Address.{address_in, address_top}

-- "Each command is a header, then its address, then its data": byte 1 as it came, count, address as one number, data
-- words
pub record Command : Type 0 where
  pub byte1 : ℕ
  pub count : ℕ
  pub address : ℕ
  pub payload : List ℕ

-- "Byte 0 of the header is the same throughout a message"
pub record Request : Type 0 where
  pub byte0 : ℕ
  pub commands : List Command

-- what a datagram comes to: a refusal, or what it means
pub data Reading (A : Type 0) : Type 0 where
  Refused : Refusal → Reading A
  Means : A → Reading A

-- its refusal; number 0 is none
abbrev pub refusal_in : {A : Type 0} → Reading A → Refusal
refusal_in (Refused r) = r
refusal_in (Means a) = refusal 0

-- what a function gives back of a reading
abbrev pub given : {A B : Type 0} → (A → B) → Reading A → Result B Refusal
given f (Refused r) = Err r
given f (Means a) = Ok (f a)

-- a command before those that follow it
abbrev pub before : {A : Type 0} → A → Reading (List A) → Reading (List A)
before c (Refused r) = Refused r
before c (Means cs) = Means (c ∷ cs)

-- whether nothing follows
abbrev pub none : {A : Type 0} → List A → Bool
none [] = true
none (x ∷ xs) = false

-- the words of "the answer with all commands OK"
unfoldable pub replies : ℕ → List Command → ℕ
replies byte0 [] = 0
replies byte0 (c ∷ cs) = 1 + reply_words (kind_of byte0) c.count + replies byte0 cs

-- a command's words
unfoldable pub command_words : ℕ → Bool → Command → List ℕ
command_words byte0 last c = header_from byte0 c.byte1 c.count last
    ∷ (address_in (address_words byte0) c.address ++ c.payload)

-- "LAST stands on the last header only"
unfoldable pub request_words : ℕ → List Command → List ℕ
request_words byte0 [] = []
request_words byte0 (c ∷ cs) = command_words byte0 (none cs) c ++ request_words byte0 cs

-- a request's bytes
unfoldable pub written : Request → List ℕ
written r = bytes_of (request_words r.byte0 r.commands)

-- a command that may stand in a message of this byte 0
pub record FitsCommand (byte0 : ℕ) (c : Command) : Type 0 where
  pub byte : c.byte1 < 256
  pub twelve : c.count < 4096
  pub counted : count_ok (kind_of byte0) c.count ≡ true
  pub enabled : enables_ok (kind_of byte0) c.count c.address c.byte1 ≡ true
  pub reaches : c.address < address_top (address_words byte0)
  pub long : length c.payload ≡ data_words (kind_of byte0) c.count
  pub words : Words c.payload

unfoldable pub All : {A : Type 0} → (A → Type 0) → List A → Type 0
All P [] = Unit {0}
All P (x ∷ xs) = P x × All P xs

-- a fitting request but for the length of its answer
pub record FitsAsked (r : Request) : Type 0 where
  pub byte : r.byte0 < 256
  pub asking : asks (kind_of r.byte0) ≡ true
  pub some : none r.commands ≡ false
  pub all : All (FitsCommand r.byte0) r.commands
  pub short : length (request_words r.byte0 r.commands) ≤ limit

-- a fitting request
pub record Fits (r : Request) : Type 0 where
  pub asked : FitsAsked r
  pub answer : replies r.byte0 r.commands ≤ limit
