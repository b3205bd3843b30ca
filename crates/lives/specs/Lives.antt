-- [10] "Any number of restarts", of the two ends of this project: how a loader begins and how a controller comes up,
-- then the theorems, which proofs/Lives.antt proves. Lives, and what they carry out, are defined in Lives of `once`;
-- the ends, and demand 3's premises, in `exchange`. Assumes nothing.
use Rattle.std.specs.Prelude.{ℕ, ◌*◌, ◌≤◌, ◌≡◌, true, cond, List, [], ◌∷◌, ◌++◌, eqb, length}
use Rattle.std.proofs.Math.Option.{Option, none, some}
use Rattle.header.specs.Limits.{limit, limit_bytes}
use Rattle.message.specs.Discovery.{discovery_bytes}
use Rattle.tags.specs.Record.{places, is_fresh}
use Rattle.completer.specs.Controller.{Controller}
use Rattle.completer.specs.Serving.{after}
use Rattle.initiator.specs.declared.sender.Moved.{Moved}
use Rattle.initiator.specs.Sender.{fresh_sender, start_of}
use Rattle.once.specs.World.{Event, World}
use Rattle.once.specs.Promise.{Progress, Extends}
use Rattle.once.specs.Lives.{Restarts, Others, Opening, unasked, Life, begun, Lives, quietly, AllQuiet}
use Rattle.once.specs.Lives as lives
use Rattle.exchange.specs.Ends.{Loader, ends}
use Rattle.exchange.specs.Terms.{terms, Sound}
use Rattle.exchange.specs.Promise.{Begins, window, ages, comes}

-- "asks by discovery": the sender that an answer makes, where it is not refused; nothing waits
abbrev pub learnt_in : Moved → Option Loader
learnt_in r = cond (eqb r.refusal.number 0) (some (record { sender = r.sender; waiting = [] })) none

-- A reset, between two calls; one within a call is [8]'s. The controller "comes up fresh": memory stays; the stored
-- answers and the kept requests may hold anything.
pub record ComesUp (c c' : Controller) : Type 0 where
  pub memory : c'.memory ≡ c.memory
  pub stored : places * limit ≤ length c'.stored
  pub kept : places * limit_bytes ≤ length c'.kept
  pub fresh : is_fresh c'.tags ≡ true

abbrev pub restarts : Restarts ends
restarts =
    record {
      ask = discovery_bytes;
      learn = λ answer. learnt_in (start_of answer);
      Fresh = λ c. is_fresh c.tags ≡ true;
      first = record { sender = fresh_sender; waiting = [] };
      ComesUp = ComesUp;
    }

-- the words of `once`, of our two ends: the controller that lives left, that of the present life, and its world
abbrev pub left : Controller → Lives ends → Controller
left c ls = lives.left window restarts c ls

abbrev pub sender_by : Opening ends → Loader
sender_by o = lives.sender_by window restarts o

abbrev pub world : Controller → Opening ends → List (Event ends) → World ends
world c o es = lives.world window restarts c o es

-- what is allowed
abbrev pub Lived : Controller → Life ends → Type 0
Lived c l = lives.Lived terms window ages restarts c l

abbrev pub AllLived : Controller → Lives ends → Type 0
AllLived c ls = lives.AllLived terms window ages restarts c ls

-- "at every moment memory is what the lives make of it, one after another, each by some first part of its own list,
-- every message carried out once"
abbrev pub LivesMemory : Type 0
LivesMemory = (c : Controller) → Sound c → lives.MemoryOfLives terms window ages restarts c

-- What had happened at any moment of allowed lives is itself allowed: so what holds of the present life so far held at
-- each of its moments, and at each moment of every life that is over, at its end too.
abbrev pub LivesMoments : Type 0
LivesMoments = (c : Controller) → lives.Moments terms window ages restarts c

-- The parts are not chosen anew at each moment: that of a life that is over stays, whatever follows, and that of the
-- present life only grows.
abbrev pub LivesStay : Type 0
LivesStay = lives.PartsStay window restarts × lives.PartGrows window restarts

-- In each life k lies between the number finished and four more, outcomes are from the carrying out upon "what the
-- earlier lives left", and "When a life finishes its list, memory is the whole of that list upon" it.
abbrev pub LivesEach : Type 0
LivesEach = (c : Controller) → Sound c → lives.EachLife terms window ages restarts c

-- what holds in each life, of the controller that it found
abbrev pub InEach : (Controller → Opening ends → List (Event ends) → Type 0) → Type 0
InEach Holds = (c : Controller) → Sound c → lives.InEach terms window ages restarts c Holds

-- Each life starts as demand 3 wants it, "from a fresh pair or a discovery answer made since the last accepted
-- request": so all theorems of `exchange` hold in it.
abbrev pub LivesStart : Type 0
LivesStart = InEach (λ c o es. Begins c (sender_by o))

-- "all are finished by send N times L", in each life; and its premises can always be met further
abbrev pub LivesFinish : Type 0
LivesFinish =
    InEach (λ c o es. Progress ends terms window ages c (sender_by o) × Extends ends terms window ages c (sender_by o))

-- a life can begin after any, by asking, whatever discoveries come besides
abbrev pub LivesBegin : Type 0
LivesBegin = (c : Controller) → Sound c → lives.LifeBegins terms window ages restarts c

-- and without asking, with any controller whose record is fresh; so the first with a fresh one, and any after a reset
abbrev pub LivesBeginFresh : Type 0
LivesBeginFresh = (c : Controller) → is_fresh c.tags ≡ true → Lived c (begun unasked [])

abbrev pub LivesBeginReset : Type 0
LivesBeginReset = (c c' : Controller) → ComesUp c c' → Lived c' (begun unasked [])

-- [7] No life ever gets 12, to whatever comes: before the loader has heard, and then.
pub record NoTwelve (c : Controller) : Type 0 where
  pub before :
      (ls : Lives ends) (xs : Others ends) (datagram output : List ℕ) → AllLived c ls
      → AllQuiet terms (xs ++ (datagram, output) ∷ [])
      → (after (quietly ends (left c ls) xs) output datagram).refusal.number ≡ 12 → ⊥
  pub then :
      (ls : Lives ends) (o : Opening ends) (es : List (Event ends)) (e : Event ends) → AllLived c ls
      → Lived (left c ls) (begun o (es ++ e ∷ [])) → (datagram output : List ℕ)
      → comes ends (world (left c ls) o es) e ≡ some (datagram, output)
      → (after (world (left c ls) o es).controller output datagram).refusal.number ≡ 12 → ⊥

abbrev pub LivesNever12 : Type 0
LivesNever12 = (c : Controller) → Sound c → NoTwelve c
