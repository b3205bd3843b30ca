-- Any number of restarts: the loader's lives, one after another, over one controller, and what they make of memory.
-- The theorems are in proofs/Lives.antt. Assumes nothing.
use Rattle.std.specs.Prelude.{ℕ, ◌≤◌, ◌≡◌, length, take}
use Rattle.std.proofs.Math.Option.{Option, some}
use mathlib.Core.List.{List, [], ◌∷◌, ◌++◌, foldl}
use Rattle.once.specs.World.{Ends, Event, other, World, finished}
use Rattle.once.specs.Promise.{Terms, Ages, AllowedRun, after, made, Safe}

-- How a loader begins anew, and how a controller comes up.
pub record Restarts (E : Ends) : Type 1 where
  -- "asks by discovery": the fixed discovery, and the sender that its answer makes; none where it is refused
  pub ask : E.Datagram
  pub learn : E.Datagram → Option E.Sender
  -- "from a fresh pair": the controller's record is fresh; the sender of a loader that then begins without asking
  pub Fresh : E.Controller → Type 0
  pub first : E.Sender
  -- ComesUp c c': after a reset the controller c comes up as c'
  pub ComesUp : E.Controller → E.Controller → Type 0

-- What comes to the controller that is no copy of a message, with what it is lent.
abbrev pub Others : Ends → Type 0
Others E = List (E.Datagram × E.Lent)

abbrev pub others : {E : Ends} → Others E → List (Event E)
others [] = []
others (x ∷ xs) = other x.0 x.1 ∷ others xs

-- r is l, or l with more behind it
abbrev pub Longer : {X : Type 0} → List X → List X → Type 0
Longer {X} l r = (more : List X) × (r ≡ l ++ more)

-- How a life comes to its sender.
-- unasked: the pair is fresh, and the loader does not ask.
-- asking xs b ys s: xs came to the controller, then the fixed discovery, which was lent b, then ys; then the loader
-- took the answer to that discovery, which made the sender s.
pub data Opening (E : Ends) : Type 0 where
  unasked : Opening E
  asking : Others E → E.Lent → Others E → E.Sender → Opening E

-- A life of the loader so far; it may be over at any moment.
-- unheard xs: it has not asked, or no answer has reached it; xs came to the controller.
-- begun o es: it came to its sender by o, and then es happened. It chooses its list on the way, by what it offers.
pub data Life (E : Ends) : Type 0 where
  unheard : Others E → Life E
  begun : Opening E → List (Event E) → Life E

-- How a life ends: "The loader loses all it knows at any moment", or the controller is reset and comes up as c, which
-- "also restarts the loader". A reset falls between two calls of the controller; one within a call is [8]'s.
pub data Ending (E : Ends) : Type 0 where
  restart : Ending E
  reset : E.Controller → Ending E

-- lives that are over, the first one first
abbrev pub Lives : Ends → Type 0
Lives E = List (Life E × Ending E)

-- the controller after these
abbrev pub quietly : (E : Ends) → E.Controller → Others E → E.Controller
quietly E c [] = c
quietly E c (x ∷ xs) = quietly E (E.serve c x.1 x.0).0 xs

-- each is a discovery without writes, and what is lent has an allowed length
abbrev pub AllQuiet : {E : Ends} → Terms E → Others E → Type 0
AllQuiet T [] = Unit {0}
AllQuiet T (x ∷ xs) = (T.Quiet x.0 × T.Lendable x.1) × AllQuiet T xs

module _ {E : Ends} (W : ℕ) (R : Restarts E) where
  -- a life's sender, and all that happened in it
  abbrev pub sender_by : Opening E → E.Sender
  sender_by unasked = R.first
  sender_by (asking xs b ys s) = s

  abbrev pub happened : Opening E → List (Event E) → List (Event E)
  happened unasked es = es
  happened (asking xs b ys s) es = (others xs ++ other R.ask b ∷ others ys) ++ es

  -- The world of a life that found the controller c. "Nothing sent before a restart arrives after it, nor any answer to
  -- it": it starts with nothing in the air and nothing given.
  abbrev pub world : E.Controller → Opening E → List (Event E) → World E
  world c o es = after E W c (sender_by o) (happened o es)

  -- the controller after a life; its list, and how many of it are carried out: the first part
  abbrev pub end_of : E.Controller → Life E → E.Controller
  end_of c (unheard xs) = quietly E c xs
  end_of c (begun o es) = (world c o es).controller

  abbrev pub list_of : E.Controller → Life E → List E.Message
  list_of c (unheard xs) = []
  list_of c (begun o es) = (world c o es).offered

  abbrev pub taken_of : E.Controller → Life E → ℕ
  taken_of c (unheard xs) = 0
  taken_of c (begun o es) = (world c o es).taken

  abbrev pub part_of : E.Controller → Life E → List E.Message
  part_of c l = take (taken_of c l) (list_of c l)

  -- the controller that the next life finds
  abbrev pub next : E.Controller → Life E × Ending E → E.Controller
  next c (l, restart) = end_of c l
  next c (l, reset c') = c'

  -- the controller that some lives left, and the first part of each one's list
  abbrev pub left : E.Controller → Lives E → E.Controller
  left c ls = foldl next c ls

  abbrev pub parts : E.Controller → Lives E → List (List E.Message)
  parts c [] = []
  parts c (l ∷ ls) = part_of c l.0 ∷ parts (next c l) ls

  -- "some first part" is not chosen anew at each moment: whatever lives follow, those of the lives that are over stay
  abbrev pub PartsStay : Type 0
  PartsStay = (c : E.Controller) (ls ms : Lives E) → parts c (ls ++ ms) ≡ parts c ls ++ parts (left c ls) ms

  -- and as a life goes on, its list and its part only grow, at their ends
  abbrev pub PartGrows : Type 0
  PartGrows =
      (c : E.Controller) (o : Opening E) (es more : List (Event E))
      → Longer (list_of c (begun o es)) (list_of c (begun o (es ++ more)))
      × Longer (part_of c (begun o es)) (part_of c (begun o (es ++ more)))

module _ {E : Ends} (T : Terms E) (W : ℕ) (A : Ages) (R : Restarts E) where
  -- The sender is that of a fresh pair, or one that the controller's answer to the fixed discovery makes, given in this
  -- life.
  abbrev pub Opens : E.Controller → Opening E → Type 0
  Opens c unasked = R.Fresh c
  Opens c (asking xs b ys s) =
      (answer : E.Datagram) × ((E.serve (quietly E c xs) b R.ask).1 ≡ some answer) × (R.learn answer ≡ some s)

  -- The life is allowed: "demand 3's other premises stay".
  abbrev pub Lived : E.Controller → Life E → Type 0
  Lived c (unheard xs) = AllQuiet T xs
  Lived c (begun o es) = Opens c o × AllowedRun E T W A c (sender_by W R o) (happened W R o es)

  -- and so is its end, c being the controller then
  abbrev pub Ended : E.Controller → Ending E → Type 0
  Ended c restart = Unit {0}
  Ended c (reset c') = R.ComesUp c c'

  abbrev pub AllLived : E.Controller → Lives E → Type 0
  AllLived c [] = Unit {0}
  AllLived c (l ∷ ls) = (Lived c l.0 × Ended (end_of W R c l.0) l.1) × AllLived (next W R c l) ls

  -- What had happened at any moment of allowed lives is itself allowed, so that "at every moment" is said of the end.
  -- over: up to the end of a life that is over. The others: up to each moment of a life, also before it has heard.
  pub record Moments (c : E.Controller) : Type 0 where
    pub over : (ls : Lives E) (l : Life E) (e : Ending E) (ms : Lives E)
        → AllLived c (ls ++ (l, e) ∷ ms) → AllLived c ls × Lived (left W R c ls) l
    pub quiet : (xs ys : Others E) → Lived c (unheard (xs ++ ys)) → Lived c (unheard xs)
    pub heard : (xs : Others E) (b : E.Lent) (ys : Others E) (s : E.Sender) (es : List (Event E))
        → Lived c (begun (asking xs b ys s) es) → Lived c (unheard (xs ++ (R.ask, b) ∷ ys))
    pub then : (o : Opening E) (es more : List (Event E)) → Lived c (begun o (es ++ more)) → Lived c (begun o es)

  module _ (c : E.Controller) where
    -- "at every moment memory is what the lives make of it, one after another, each by some first part of its own list,
    -- every message carried out once": ls are the lives that are over, l is the present one so far.
    abbrev pub MemoryOfLives : Type 0
    MemoryOfLives =
        (ls : Lives E) (l : Life E) → AllLived c ls → Lived (left W R c ls) l
        → T.memory (end_of W R (left W R c ls) l)
        ≡ foldl (made T) (T.memory c) (parts W R c ls ++ part_of W R (left W R c ls) l ∷ [])

    -- what holds of the present life, o and es, and of the controller that the lives before it left
    abbrev pub InEach : (E.Controller → Opening E → List (Event E) → Type 0) → Type 0
    InEach Holds =
        (ls : Lives E) (o : Opening E) (es : List (Event E)) → AllLived c ls → Lived (left W R c ls) (begun o es)
        → Holds (left W R c ls) o es

    -- A life can begin after any, whatever discoveries came before the one that is answered, and behind it.
    abbrev pub LifeBegins : Type 0
    LifeBegins =
        (ls : Lives E) (xs : Others E) (b : E.Lent) (ys : Others E) → AllLived c ls → AllQuiet T xs → T.Lendable b
        → AllQuiet T ys → (s : E.Sender) × Lived (left W R c ls) (begun (asking xs b ys s) [])

  -- Demand 3 in a life that found memory m: its part is k messages, from the number finished to W more, and outcomes
  -- are upon m, "what the earlier lives left". "When a life finishes its list, memory is the whole of that list".
  pub record Upon (m : T.Memory) (w : World E) : Type 0 where
    pub safe : Safe E T W m w
    pub part : safe.k ≡ w.taken
    pub whole : length w.offered ≤ finished E w → T.memory w.controller ≡ made T m w.offered

  abbrev pub EachLife : E.Controller → Type 0
  EachLife c = InEach c (λ d o es. Upon (T.memory d) (world W R d o es))

  -- The start of each life is one of demand 3, so that all of it holds there.
  abbrev pub EachStarts : (E.Controller → E.Sender → Type 0) → E.Controller → Type 0
  EachStarts Start c = InEach c (λ d o es. Start d (sender_by W R o))

  -- The facts that give this. Sound c: the controller is allowed. Start c s: the two are a start.
  pub record Renews (Sound : E.Controller → Type 0) (Start : E.Controller → E.Sender → Type 0) : Type 0 where
    -- a quiet datagram leaves memory, and who is a start
    pub quiet :
        {c : E.Controller} {b : E.Lent} {x : E.Datagram} → Sound c → T.Quiet x → T.Lendable b
        → Sound (E.serve c b x).0 × (T.memory (E.serve c b x).0 ≡ T.memory c)
        × ((s : E.Sender) → Start (E.serve c b x).0 s → Start c s)
    -- a fresh pair is a start, and so is a sender made from the answer with the controller that gave it
    pub unasked : {c : E.Controller} → Sound c → R.Fresh c → Start c R.first
    pub learns :
        {c : E.Controller} {b : E.Lent} {a : E.Datagram} {s : E.Sender} → Sound c → T.Lendable b
        → (E.serve c b R.ask).1 ≡ some a → R.learn a ≡ some s → Start c s
    -- the fixed discovery is quiet, and its answer makes a sender
    pub heard :
        {c : E.Controller} {b : E.Lent} → Sound c → T.Lendable b
        → T.Quiet R.ask
        × (a : E.Datagram) × (s : E.Sender) × ((E.serve c b R.ask).1 ≡ some a) × (R.learn a ≡ some s)
    -- a reset leaves memory
    pub resets : {c c' : E.Controller} → Sound c → R.ComesUp c c' → Sound c' × (T.memory c' ≡ T.memory c)
    -- an allowed run leaves an allowed controller
    pub ends :
        {c : E.Controller} {s : E.Sender} (es : List (Event E)) → Start c s → AllowedRun E T W A c s es
        → Sound (after E W c s es).controller
