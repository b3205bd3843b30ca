-- The refusals 2 to 10 in their own words, apart from the walk: what `proofs/Laws/Exactly.antt` shows of `read`.
-- Assumes nothing.
use Rattle.std.specs.Prelude.{ℕ, ◌<◌, ◌≤◌, ◌≡◌, ◌↔◌, true, false, List, [], ◌∷◌, ◌++◌, length, get_or}
use Rattle.word.specs.Words.{words_of}
use Rattle.header.specs.Limits.{limit, length_ok}
use Rattle.header.specs.Header.{address_words}
use Rattle.header.specs.Refusal.{refused_at}
use Rattle.message.specs.Faults.{fault_of}
use Rattle.message.specs.Request.{Command, Request, Refused, Means, replies, command_words, written, FitsCommand}
use Rattle.message.specs.Request.{All, FitsAsked, Fits}
use Rattle.message.specs.Address.{address_from}
use Rattle.message.specs.Walk.{read}

-- commands that others follow: none of them is LAST
unfoldable pub open_words : ℕ → List Command → List ℕ
open_words byte0 [] = []
open_words byte0 (c ∷ cs) = command_words byte0 false c ++ open_words byte0 cs

-- the first fault where a header should stand: "3 (no word there)", else the header's own
unfoldable pub fault_in : ℕ → List ℕ → ℕ
fault_in byte0 [] = 3
fault_in byte0 (h ∷ rest) = fault_of byte0 h (length rest) (address_from (address_words byte0) rest)

-- good commands are followed by a header, at word `at`, whose first fault, in the document's order, is n
pub record FaultAfter (byte0 n at : ℕ) (ws : List ℕ) : Type 0 where
  pub good : List Command
  pub fit : All (FitsCommand byte0) good
  pub tail : List ℕ
  pub is : ws ≡ open_words byte0 good ++ tail
  pub fault : fault_in byte0 tail ≡ n
  pub place : length (open_words byte0 good) ≡ at

-- a request that fits but for its answer
pub record TooLong (dg : List ℕ) : Type 0 where
  pub request : Request
  pub asked : FitsAsked request
  pub is : dg ≡ written request
  pub over : limit < replies request.byte0 request.commands

-- "given exactly when": for any bytes, each refusal with its index, and none of them
pub record Exactly (dg : List ℕ) : Type 0 where
  pub two : (at : ℕ) → (read dg ≡ Refused (refused_at 2 at)) ↔ ((length_ok (length dg) ≡ false) × (at ≡ 0))
  pub faults : (n at : ℕ) → 3 ≤ n → n ≤ 9
      → (read dg ≡ Refused (refused_at n at))
      ↔ ((length_ok (length dg) ≡ true) × FaultAfter (get_or dg 0 0) n at (words_of dg))
  pub ten : (at : ℕ) → (read dg ≡ Refused (refused_at 10 at)) ↔ (TooLong dg × (at ≡ 0))
  pub fine : (r : Request) → (read dg ≡ Means r) ↔ (Fits r × (dg ≡ written r))
