-- What the promise says of messages and of what is lent, by the definitions of the two ends. Assumes nothing.
use Rattle.std.specs.Prelude.{ℕ, ◌*◌, ◌≤◌, ◌≡◌, true, false, List, eqb, length}
use Rattle.word.specs.Words.{Bytes, Words}
use Rattle.header.specs.declared.Kind.TheVariants.{Write}
use Rattle.header.specs.Limits.{limit, limit_bytes}
use Rattle.header.specs.Header.{kind_of, discovery_of}
use Rattle.message.specs.Request.{Request, Reading, Refused, Means}
use Rattle.message.specs.Walk.{read, request_of}
use Rattle.memory.specs.Moves.{memory_after}
use Rattle.tags.specs.Record.{places, most_memory, record_ok}
use Rattle.completer.specs.Controller.{Controller}
use Rattle.initiator.specs.Asking.{asks_as}
use Rattle.initiator.specs.Places.{new_tag}
use Rattle.once.specs.Promise.{Terms}
use Rattle.exchange.specs.Outcomes.{outcome_over}
use Rattle.exchange.specs.Ends.{Loader, ends}

-- a well-formed message, no discovery
pub record Plain (message : List ℕ) : Type 0 where
  pub bytes : Bytes message
  pub request : Request
  pub is : read message ≡ Means request
  pub clear : discovery_of request.byte0 ≡ false

-- "well-formed messages, no discoveries, each tagged as offering asks": bytes that 31 lets by under "the tag after the
-- newest"
pub record Offers (s : Loader) (message : List ℕ) : Type 0 where
  pub bytes : Bytes message
  pub asked : asks_as (eqb (new_tag s.sender)) (read message) ≡ true

-- "discoveries without writes", well-formed or refused: what 2 to 10 refuse is nobody's message
abbrev pub finds_only : Reading Request → Type 0
finds_only (Refused n) = Unit {0}
finds_only (Means r) = (discovery_of r.byte0 ≡ true) × (kind_of r.byte0 ≡ Write → ⊥)

pub record Finds (datagram : List ℕ) : Type 0 where
  pub bytes : Bytes datagram
  pub only : finds_only (read datagram)

-- "an output of at least" the limit in bytes
abbrev pub Lendable : List ℕ → Type 0
Lendable output = limit_bytes ≤ length output

abbrev pub terms : Terms ends
terms =
    record {
      Memory = List ℕ;
      memory = λ c. c.memory;
      carry = λ memory message. memory_after (request_of message) memory;
      outcome = outcome_over;
      Fits = Offers;
      Quiet = Finds;
      Lendable = Lendable;
    }

-- An allowed controller: "Memory is a lent run of 1 to 16,384 32-bit words", "a stored answer of at least" the limit,
-- [7] a kept request's buffer "of the same length", in bytes, [9] four of each, and an allowed record.
pub record Sound (c : Controller) : Type 0 where
  pub words : Words c.memory
  pub some : 1 ≤ length c.memory
  pub most : length c.memory ≤ most_memory
  pub stored : places * limit ≤ length c.stored
  pub kept : places * limit_bytes ≤ length c.kept
  pub tags : record_ok c.tags ≡ true
