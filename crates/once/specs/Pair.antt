-- A plain pair of ends with tags modulo 16, up to W messages waiting, over any memory and any bodies of messages: the
-- facts of Tags.antt hold of it (proofs/Pair.antt), so the promise does. Example.antt runs it. Assumes nothing.
use Rattle.std.specs.Prelude.{ℕ, zero, suc, ◌+◌, ◌%◌, ◌<◌, ◌≡◌, cond, ◌&&◌, List, [], ◌∷◌, ◌++◌, eqb, ltb, length, take}
use Rattle.std.proofs.Math.Option.{Option, none, some}
use Rattle.std.proofs.Math.ListN.{get_elem?}
use Rattle.once.specs.World.{Ends}
use Rattle.once.specs.Promise.{Terms}
use Rattle.once.specs.Tags.{tags_in, next_tag, Back, Slot, asked, answered, mark, ready, rest, Sight}

-- What carrying out a body does to memory, and its outcome.
pub record Work : Type 1 where
  pub Memory : Type 0
  pub Body : Type 0
  pub Outcome : Type 0
  pub carry : Memory → Body → Memory
  pub outcome : Memory → Body → Outcome

module _ (K : Work) where
  -- A message is a tag and a body.
  abbrev pub Message : Type 0
  Message = ℕ × K.Body

  -- found o: the answer to a discovery
  pub data Datagram : Type 0 where
    request : ℕ → K.Body → Datagram
    discovery : K.Body → Datagram
    answer : ℕ → K.Outcome → Datagram
    found : K.Outcome → Datagram

  -- the stored tags and answers, the newest first
  pub record Controller : Type 0 where
    pub memory : K.Memory
    pub stored : List (ℕ × Datagram)

  -- the tag of the oldest that waits, and who waits, the oldest first
  pub record Sender : Type 0 where
    pub next : ℕ
    pub waiting : List (Slot Message K.Outcome)

  -- the stored answer of tag t
  abbrev pub stored_for : ℕ → List (ℕ × Datagram) → Option Datagram
  stored_for t [] = none
  stored_for t (p ∷ ps) = cond (eqb t p.0) (some p.1) (stored_for t ps)

  -- "sending hands back that message's own bytes", unless it is answered
  abbrev pub send_as : Option (Slot Message K.Outcome) → Option Datagram
  send_as none = none
  send_as (some (asked d)) = some (request d.0 d.1)
  send_as (some (answered d o)) = none

  -- "31's tag is that of any waiting message not yet answered": its place, counted from p
  abbrev pub place_from : ℕ → ℕ → List (Slot Message K.Outcome) → Option ℕ
  place_from p t [] = none
  place_from p t (asked d ∷ l) = cond (eqb t d.0) (some p) (place_from (suc p) t l)
  place_from p t (answered d o ∷ l) = place_from (suc p) t l

  -- "An accepted answer ends it .. and the next tag is one more, modulo 16": each that is ready
  abbrev pub ended : Sender → List (Slot Message K.Outcome) → Sender × List K.Outcome
  ended s l = (record { next = (s.next + length (ready l)) % 16; waiting = rest l }, ready l)

  abbrev pub take_as : Option ℕ → Sender → K.Outcome → Sender × List K.Outcome
  take_as none s o = (s, [])
  take_as (some p) s o = ended s (mark p o s.waiting)

  abbrev pub heard : Sender → Datagram → Sender × List K.Outcome
  heard s (request t x) = (s, [])
  heard s (discovery x) = (s, [])
  heard s (answer t o) = take_as (place_from 0 t s.waiting) s o
  heard s (found o) = (s, [])

  -- a discovery that leaves every memory as it is, or what is refused anyhow
  abbrev pub Quiet : Datagram → Type 0
  Quiet (request t x) = ⊥
  Quiet (discovery x) = (m : K.Memory) → K.carry m x ≡ m
  Quiet (answer t o) = Unit {0}
  Quiet (found o) = Unit {0}

  module _ (W : ℕ) where
    -- "carry out, store tag and answer", the last W of them
    abbrev pub carried : Controller → ℕ → K.Body → Controller × Option Datagram
    carried c t x =
        let a = answer t (K.outcome c.memory x) in
        (record { memory = K.carry c.memory x; stored = take W ((t, a) ∷ c.stored) }, some a)

    -- by the stored answer of that tag: a repeat, "the stored answer is sent, nothing else happens"; or the next tag,
    -- new; or refused
    abbrev pub serve_as : Option Datagram → Controller → ℕ → K.Body → Controller × Option Datagram
    serve_as (some a) c t x = (c, some a)
    serve_as none c t x = cond (eqb t (next_tag (tags_in c.stored))) (carried c t x) (c, none)

    -- "With the discovery bit the tag is not compared, the message is carried out, and tag and stored answer stay."
    abbrev pub received : Controller → Datagram → Controller × Option Datagram
    received c (request t x) = serve_as (stored_for t c.stored) c t x
    received c (discovery x) =
        (record { memory = K.carry c.memory x; stored = c.stored }, some (found (K.outcome c.memory x)))
    received c (answer t o) = (c, none)
    received c (found o) = (c, none)

    -- What is lent is an output of some length; one of length 0 is refused.
    abbrev pub serve : Controller → ℕ → Datagram → Controller × Option Datagram
    serve c zero x = (c, none)
    serve c (suc b) x = received c x

    -- "36 is given when four wait"; "Offering takes the tag after the newest"
    abbrev pub offer_to : Sender → Message → Sender
    offer_to s d =
        cond (ltb (length s.waiting) W && eqb d.0 ((s.next + length s.waiting) % 16))
        (record { next = s.next; waiting = s.waiting ++ asked d ∷ [] }) s

    abbrev pub ends : Ends
    ends =
        record {
          Message = Message;
          Datagram = Datagram;
          Outcome = K.Outcome;
          Lent = ℕ;
          Controller = Controller;
          Sender = Sender;
          serve = serve;
          offer = offer_to;
          send = λ s p. send_as (get_elem? s.waiting p);
          take = heard;
        }

    abbrev pub terms : Terms ends
    terms =
        record {
          Memory = K.Memory;
          memory = λ c. c.memory;
          carry = λ m d. K.carry m d.1;
          outcome = λ m d. K.outcome m d.1;
          Fits = λ s d. (d.0 < 16) × (d.0 ≡ (s.next + length s.waiting) % 16);
          Quiet = Quiet;
          Lendable = λ b. 0 < b;
        }

    abbrev pub sight : Sight ends terms
    sight =
        record {
          Plain = λ d. d.0 < 16;
          tag = λ d. d.0;
          Sound = λ c. Back W (tags_in c.stored);
          stored = λ c. c.stored;
          Holds = λ c j d. Unit {0};
          next = λ s. s.next;
          waiting = λ s. s.waiting;
          Copy = λ d x. x ≡ request d.0 d.1;
          Answer = λ d o a. a ≡ answer d.0 o;
          Strange = λ a. (o : K.Outcome) × (a ≡ found o);
        }
