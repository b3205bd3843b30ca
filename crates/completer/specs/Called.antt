-- What is promised of a call, each about one thing, for whoever stands above it. The proofs are in
-- proofs/Laws/Called.antt, Served.antt and Discovered.antt. Assumes nothing.
use Rattle.std.specs.Prelude.{ℕ, ◌+◌, ◌<◌, ◌≡◌, Bool, true, false, ◌&&◌, ◌⊎◌, List, [], ◌∷◌, ◌++◌, length, take, Ok}
use Rattle.word.specs.Words.{bytes_of, Bytes, Words}
use Rattle.header.specs.declared.refusal.Refusal.{Refusal}
use Rattle.header.specs.Header.{tag_of, discovery_of}
use Rattle.header.specs.Refusal.{refusal}
use Rattle.message.specs.Request.{Request, Refused, Means}
use Rattle.message.specs.Walk.{read, request_of}
use Rattle.message.specs.Discovery.{discovery_bytes}
use Rattle.answer.specs.Discovery.{discovery_answer}
use Rattle.tags.specs.declared.rule.Verdict.TheVariants.{New, Repeat, Discovery}
use Rattle.tags.specs.Record.{places, back, holds, mark_of, kept_ok}
use Rattle.completer.specs.Controller.{Controller, request_in, answer_in, After}
use Rattle.completer.specs.Verdict.{lent_ok, verdict_of}
use Rattle.completer.specs.Serving.{answer_by, sends, after}

-- "Each gives its number and length 0; memory, stored answer, record and output are unchanged"
pub record Unchanged (c : Controller) (o : List ℕ) (a : After) : Type 0 where
  pub sent : a.sent ≡ 0
  pub controller : a.controller ≡ c
  pub output : a.output ≡ o

abbrev pub RefusalKeeps : Controller → List ℕ → List ℕ → Type 0
RefusalKeeps c o dg = ((after c o dg).refusal.number ≡ 0 → ⊥) → Unchanged c o (after c o dg)

-- whether all that is lent is allowed
abbrev pub allowed : Controller → List ℕ → Bool
allowed c o = lent_ok (length c.memory) (length o) && kept_ok (length c.stored) (length c.kept) c.tags

-- "Checks 1 and 2 come first": 1, with index 0. Refusals 2 to 10 are `read`'s own, number and index. "All others ..
-- give 0"
pub record RefusedWhere (c : Controller) (o dg : List ℕ) : Type 0 where
  pub lent : allowed c o ≡ false → (after c o dg).refusal ≡ refusal 1
  pub walked : (r : Refusal) → allowed c o ≡ true → read dg ≡ Refused r → (after c o dg).refusal ≡ r
  pub others : (r : Request) → read dg ≡ Means r → (after c o dg).refusal.at ≡ 0

-- [7] a repeat whose bytes differ, in the document's words: the message is well-formed, the record holds its tag, the
-- discovery bit is clear, and what is kept for that tag is not the datagram, by its length or by a byte
pub record OtherBytes (c : Controller) (dg : List ℕ) : Type 0 where
  pub request : Request
  pub reads : read dg ≡ Means request
  pub clear : discovery_of request.byte0 ≡ false
  pub held : holds c.tags (tag_of request.byte0) ≡ true
  pub differ : request_in c.kept c.tags (tag_of request.byte0) ≡ dg → ⊥

-- [7] "refused as 12, after 11": then, with index 0, and of bytes only then
pub record TwelveExactly (c : Controller) (o dg : List ℕ) : Type 0 where
  pub given : allowed c o ≡ true → OtherBytes c dg → (after c o dg).refusal ≡ refusal 12
  pub only : Bytes dg → (after c o dg).refusal.number ≡ 12 → (allowed c o ≡ true) × OtherBytes c dg

-- the tag of a message, by its first header
abbrev pub tag_in : List ℕ → ℕ
tag_in dg = tag_of (request_of dg).byte0

-- "The next tag, modulo 16, is new: carry out, store tag and answer": what is stored for its tag is the answer, and the
-- answer is sent; [7] what is kept is the datagram; [9] its tag is the newest
pub record Stored (answer dg : List ℕ) (a : After) : Type 0 where
  pub stored : answer_in a.controller.stored a.controller.tags (tag_in dg) ≡ answer
  pub kept : request_in a.controller.kept a.controller.tags (tag_in dg) ≡ dg
  pub held : holds a.controller.tags (tag_in dg) ≡ true
  pub newest : a.controller.tags.tag ≡ tag_in dg
  pub sent : take a.sent a.output ≡ bytes_of answer

abbrev pub NewStores : Controller → List ℕ → List ℕ → Type 0
NewStores c o dg = verdict_of c o dg ≡ Ok New → Stored (answer_by c (request_of dg)) dg (after c o dg)

-- what c held for a tag, d holds
pub record SameFor (c d : Controller) (tag : ℕ) : Type 0 where
  pub was : holds c.tags tag ≡ true
  pub stored : answer_in d.stored d.tags tag ≡ answer_in c.stored c.tags tag
  pub kept : request_in d.kept d.tags tag ≡ request_in c.kept c.tags tag

-- [9] "keeps the last four answers with their tags": whatever else is held after a new message was held before it, with
-- the same answer and the same request
abbrev pub OthersStay : Controller → List ℕ → List ℕ → Type 0
OthersStay c o dg = Words c.memory → Bytes dg → verdict_of c o dg ≡ Ok New → (tag : ℕ) → tag < 16
    → holds (after c o dg).controller.tags tag ≡ true → (tag ≡ tag_in dg → ⊥)
    → SameFor c (after c o dg).controller tag

-- and all that were held stay held, but for the fourth
abbrev pub FourHeld : Controller → List ℕ → List ℕ → Type 0
FourHeld c o dg = verdict_of c o dg ≡ Ok New → (tag : ℕ) → tag < 16 → holds c.tags tag ≡ true
    → back c.tags.tag tag + 1 < places → holds (after c o dg).controller.tags tag ≡ true

-- "to answer repeats of any": "the stored answer is sent, nothing else happens"; it is the one of the message's own
-- tag, and [7] the message is the kept request
pub record SentAgain (c : Controller) (dg : List ℕ) (tag : ℕ) (a : After) : Type 0 where
  pub held : holds c.tags tag ≡ true
  pub of : tag_in dg ≡ tag
  pub sent : take a.sent a.output ≡ bytes_of (answer_in c.stored c.tags tag)
  pub same : request_in c.kept c.tags tag ≡ dg
  pub controller : a.controller ≡ c

abbrev pub RepeatSends : Controller → List ℕ → List ℕ → Type 0
RepeatSends c o dg = (tag : ℕ) → verdict_of c o dg ≡ Ok (Repeat tag) → SentAgain c dg tag (after c o dg)

-- "the message is carried out, and tag and stored answer stay"; so does the kept request
pub record Stays (c d : Controller) : Type 0 where
  pub tags : d.tags ≡ c.tags
  pub stored : d.stored ≡ c.stored
  pub kept : d.kept ≡ c.kept

abbrev pub DiscoveryKeeps : Controller → List ℕ → List ℕ → Type 0
DiscoveryKeeps c o dg = verdict_of c o dg ≡ Ok Discovery → Stays c (after c o dg).controller

-- the answer to the fixed discovery depends on the newest tag alone
abbrev pub DiscoveryAnswered : Controller → List ℕ → Type 0
DiscoveryAnswered c o = allowed c o ≡ true → after c o discovery_bytes ≡ sends 3 (discovery_answer (mark_of c.tags)) c o

-- [7] calls one after another, of an output and a datagram each, whatever they are
abbrev pub served : Controller → List (List ℕ × List ℕ) → Controller
served c [] = c
served c (call ∷ calls) = served (after c call.0 call.1).controller calls

-- what is held for a tag is the last new message of that tag among these calls, and the answer that it got in its call
pub record LastNew (c : Controller) (calls : List (List ℕ × List ℕ)) (d : Controller) (tag : ℕ) : Type 0 where
  pub before : List (List ℕ × List ℕ)
  pub call : List ℕ × List ℕ
  pub behind : List (List ℕ × List ℕ)
  pub are : calls ≡ before ++ (call ∷ behind)
  pub new : verdict_of (served c before) call.0 call.1 ≡ Ok New
  pub of : tag_in call.1 ≡ tag
  pub kept : request_in d.kept d.tags tag ≡ call.1
  pub stored : answer_in d.stored d.tags tag ≡ answer_by (served c before) (request_of call.1)

-- calls of bytes
abbrev pub OfBytes : List (List ℕ × List ℕ) → Type 0
OfBytes [] = Unit {0}
OfBytes (call ∷ calls) = Bytes call.1 × OfBytes calls

-- or there was none, and it was held at the start, the same answer and the same request
abbrev pub OwnAnswer : Controller → List (List ℕ × List ℕ) → Type 0
OwnAnswer c calls = Words c.memory → OfBytes calls → (tag : ℕ) → tag < 16 → holds (served c calls).tags tag ≡ true
    → LastNew c calls (served c calls) tag ⊎ SameFor c (served c calls) tag
