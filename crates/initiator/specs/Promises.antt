-- What is promised of the sender, in other words than its definitions. The proofs are in proofs/Laws/Promises.antt.
-- Assumes nothing.
use Rattle.std.specs.Prelude.{ℕ, ◌+◌, ◌%◌, ◌≤◌, ◌<◌, ◌≡◌, true, false, not, ◌&&◌, ◌||◌, List, [], eqb, length, get_or, Ok, Err}
use Rattle.header.specs.declared.refusal.Refusal.{Refusal}
use Rattle.header.specs.Limits.{length_ok}
use Rattle.header.specs.Header.{tag_of, discovery_of}
use Rattle.header.specs.Refusal.{refused_at, refusal}
use Rattle.message.specs.Request.{Request, Refused, Means, Fits}
use Rattle.message.specs.Walk.{read}
use Rattle.message.specs.Discovery.{discovery_request}
use Rattle.answer.specs.Answer.{Answered, judge, encode_answer, FitsAnswer}
use Rattle.initiator.specs.declared.sender.Sender.{Sender}
use Rattle.initiator.specs.declared.sender.Moved.{Moved}
use Rattle.initiator.specs.declared.sender.Taken.{Taken}
use Rattle.initiator.specs.Outcome.{judged_by, outcome_of}
use Rattle.initiator.specs.Places.{waits_for}
use Rattle.initiator.specs.Sender.{send_fault, offer_of, send_of, take_of, start_of}
use Rattle.initiator.specs.Sender.{offer_by, moved_from, sent_by, take_by, taken_from, discovered_by, or_stopped}

-- a refusal leaves the sender as it was, and nothing ends
abbrev pub KeepsRefused : Sender → Moved → Type 0
KeepsRefused s moved = (moved.refusal.number ≡ 0 → ⊥) → moved.sender ≡ s

abbrev pub KeepsNotTaken : Sender → Taken → Type 0
KeepsNotTaken s taken = (taken.refusal.number ≡ 0 → ⊥) → (taken.sender ≡ s) × (taken.ended ≡ 0)

-- what an accepted offer is and does
pub record Offered (s : Sender) (message : List ℕ) : Type 0 where
  -- fewer than four waited, answered ones among them
  pub room : s.waiting < 4
  -- "Offering takes the tag after the newest", and one more waits
  pub tag : tag_of (get_or message 0 0) ≡ (s.next + s.waiting) % 16
  pub next : (offer_of s message).sender.next ≡ s.next
  pub waiting : (offer_of s message).sender.waiting ≡ s.waiting + 1
  -- it waits and is not answered, and all the others are as they were
  pub waits : (t : ℕ) → t < 16
      → waits_for (offer_of s message).sender t ≡ (waits_for s t || eqb t (tag_of (get_or message 0 0)))

abbrev pub OfferedIs : Sender → List ℕ → Type 0
OfferedIs s message = (offer_of s message).refusal.number ≡ 0 → Offered s message

-- what an accepted answer is and does
pub record Accepted (s : Sender) (message answer : List ℕ) : Type 0 where
  -- the message waited and was not answered
  pub waited : waits_for s (tag_of (get_or message 0 0)) ≡ true
  -- only an answer to the oldest ends messages; as many wait less, and the next tag moves by as many modulo 16
  pub oldest : tag_of (get_or message 0 0) ≡ s.next → 0 < (take_of s message answer).ended
  pub younger : (tag_of (get_or message 0 0) ≡ s.next → ⊥) → (take_of s message answer).ended ≡ 0
  pub waiting : (take_of s message answer).sender.waiting + (take_of s message answer).ended ≡ s.waiting
  pub next : (take_of s message answer).sender.next ≡ (s.next + (take_of s message answer).ended) % 16
  -- it is answered, and who else waits and is not answered is as it was: so those that ended are the oldest, answered,
  -- and the one behind them is not
  pub waits : (t : ℕ) → t < 16
      → waits_for (take_of s message answer).sender t ≡ (waits_for s t && not (eqb t (tag_of (get_or message 0 0))))
  -- the answer has the message's tag, and is no answer to a discovery
  pub tag : tag_of (get_or answer 0 0) ≡ tag_of (get_or message 0 0)
  pub plain : discovery_of (get_or answer 0 0) ≡ false
  -- its outcome is the list that it encodes
  pub request : Request
  pub asked : read message ≡ Means request
  pub fits : Fits request
  pub items : List Answered
  pub told : judged_by (read message) answer ≡ Means items
  pub encoded : answer ≡ encode_answer request items
  pub answers : FitsAnswer request items

abbrev pub AcceptedIs : Sender → List ℕ → List ℕ → Type 0
AcceptedIs s message answer = (take_of s message answer).refusal.number ≡ 0 → Accepted s message answer

-- where one waits, the oldest waits and is not answered
abbrev pub OldestWaits : Sender → Type 0
OldestWaits s = s.next < 16 → 0 < s.waiting → waits_for s s.next ≡ true

-- "33 judges by the request lent": whatever message is lent with an answer, only the one that waits, is not answered
-- and has the answer's tag can be taken
pub record OnlyItsOwn (s : Sender) (message answer : List ℕ) : Type 0 where
  pub own : (take_of s message answer).refusal.number ≡ 0
      → (waits_for s (tag_of (get_or message 0 0)) ≡ true) × (tag_of (get_or answer 0 0) ≡ tag_of (get_or message 0 0))
  -- one that does not wait, or is answered already, is 31
  pub absent : s.next < 16 → 0 < s.waiting → s.waiting ≤ 4 → waits_for s (tag_of (get_or message 0 0)) ≡ false
      → (send_fault s message).number ≡ 31
  -- one that may be sent, of another tag than the answer's, is 33
  pub other : (send_fault s message).number ≡ 0 → length_ok (length answer) ≡ true
      → (tag_of (get_or answer 0 0) ≡ tag_of (get_or message 0 0) → ⊥) → (take_of s message answer).refusal ≡ refusal 33
  -- what may not be sent is not taken, for the same refusal
  pub unsent : ((send_fault s message).number ≡ 0 → ⊥) → (take_of s message answer).refusal ≡ send_fault s message
  -- and every refusal changes nothing
  pub keeps : KeepsNotTaken s (take_of s message answer)

-- acceptance depends on request and answer alone: whichever sender the message waits at
abbrev pub Alone : Sender → Sender → List ℕ → List ℕ → Type 0
Alone s t message answer = (send_fault s message).number ≡ 0 → (send_fault t message).number ≡ 0
    → (take_of s message answer).refusal ≡ (take_of t message answer).refusal

-- "31 .. gives the index in the request": that of the refusal which any controller would give it, whichever call says
-- 31
pub record SaysWhere (message : List ℕ) (at : ℕ) : Type 0 where
  pub offer : (s : Sender) → s.next < 16 → s.waiting < 4 → (offer_of s message).refusal ≡ refused_at 31 at
  pub send : (s : Sender) → s.next < 16 → 0 < s.waiting → s.waiting ≤ 4 → send_fault s message ≡ refused_at 31 at
  pub take : (s : Sender) (answer : List ℕ) → s.next < 16 → 0 < s.waiting → s.waiting ≤ 4
      → (take_of s message answer).refusal ≡ refused_at 31 at
  pub told : (answer : List ℕ) (k : ℕ) → outcome_of message answer k ≡ Err (refused_at 31 at)

abbrev pub Where : List ℕ → Type 0
Where message = (n at : ℕ) → read message ≡ Refused (refused_at n at) → SaysWhere message at

-- "All others, also 31 for .. the tag, give 0": of a well-formed message no sender's call says where
abbrev pub OthersGiveZero : List ℕ → Type 0
OthersGiveZero message = (r : Request) → read message ≡ Means r → (s : Sender)
    → ((offer_of s message).refusal.at ≡ 0) × ((send_fault s message).at ≡ 0)

-- "33 to 35" likewise: what an answer is judged to be is what each call says of it
pub record HandsOn (answer : List ℕ) (r : Refusal) : Type 0 where
  pub take : (s : Sender) (message : List ℕ) → (send_fault s message).number ≡ 0
      → judged_by (read message) answer ≡ Refused r → (take_of s message answer).refusal ≡ r
  pub told : (message : List ℕ) (k : ℕ) → judged_by (read message) answer ≡ Refused r
      → outcome_of message answer k ≡ Err r
  pub start : judge discovery_request answer ≡ Refused r → (start_of answer).refusal ≡ r

-- What the sender's functions give back tells all that `offer_of`, `send_of`, `take_of` and `start_of` say, of which
-- the theorems above speak: refused, the sender that was lent is kept, a part is empty, and a discovery's is stopped.
pub record ResultsTell : Type 0 where
  pub offer : (s : Sender) (message : List ℕ) → moved_from s (offer_by s message) ≡ offer_of s message
  pub take : (s : Sender) (message answer : List ℕ)
      → taken_from s (take_by s message answer) ≡ take_of s message answer
  pub sent : (s : Sender) (message part : List ℕ) → Ok part ≡ sent_by s message
      → (part ≡ send_of s message) × (refusal 0 ≡ send_fault s message)
  pub unsent : (s : Sender) (message : List ℕ) (r : Refusal) → Err r ≡ sent_by s message
      → ([] ≡ send_of s message) × (r ≡ send_fault s message)
  pub discovered : (answer : List ℕ) → or_stopped (discovered_by answer) ≡ start_of answer
