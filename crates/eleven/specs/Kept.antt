-- What "Nothing sent before a restart arrives after it, nor any answer to it" is for: two nights in which the channel
-- keeps something over a restart, and the promise is broken. proofs/Sharp.antt computes them. Assumes nothing.
use Rattle.std.specs.Prelude.{ℕ, ◌≡◌, List, [], ◌∷◌, ◌++◌}
use Rattle.std.proofs.Math.Option.{some}
use Rattle.word.specs.Words.{bytes_of}
use Rattle.header.specs.Refusal.{refusal}
use Rattle.completer.specs.Controller.{Controller}
use Rattle.completer.specs.Serving.{after}
use Rattle.once.specs.World.{Event, send, arrive, back, other, message, World}
use Rattle.once.specs.Lives.{Opening, unasked, asking, begun, restart, reset, Lives}
use Rattle.exchange.specs.Ends.{ends}
use Rattle.exchange.specs.Terms.{Finds}
use Rattle.exchange.specs.Promise.{FirstMessages}
use Rattle.exchange.specs.Example.{output, ok}
use Rattle.lives.specs.Lives.{left, world, Lived, AllLived}
use Rattle.eleven.specs.Eleven.{fresh, summer, numbered, offers, at}

-- A life sends two messages, of which the second does not arrive.
abbrev pub before : Lives ends
before = (begun unasked (offers 2 1 0 0 ++ send 0 ∷ send 1 ∷ arrive 0 output ∷ back 0 ∷ []), restart) ∷ []

-- The next one asks, learns tag 1 and offers its first message.
abbrev pub asked : Opening ends
asked = asking [] output [] (at 1)

abbrev pub offered : List (Event ends)
offered = offers 1 2 0 1

-- Now the other comes, with that very tag; and then the message.
abbrev pub stale : List (Event ends)
stale = other (numbered 1 1 1) output ∷ []

abbrev pub later : List (Event ends) → World ends
later es = world (left summer before) asked es

abbrev pub mixture : World ends
mixture = later (offered ++ stale ++ send 0 ∷ arrive 0 output ∷ [])

pub record KeptRequest : Type 0 where
  pub allowed : AllLived summer before
  pub begins : Lived (left summer before) (begun asked offered)
  -- it is no discovery: not allowed
  pub not : Finds (numbered 1 1 1) → ⊥
  -- it is carried out, a message of a life that is over; and the message is refused, 12
  pub memory : (later (offered ++ stale)).controller.memory ≡ 0x100 ∷ 0x101 ∷ 0x53 ∷ []
  pub refused : (after (later (offered ++ stale)).controller output (numbered 2 0 1)).refusal ≡ refusal 12
  -- so memory is not what the life's first messages make of what it found
  pub broken : FirstMessages (left summer before).memory mixture → ⊥

-- A life's message is carried out, and the controller is reset before the answer is back.
abbrev pub served : List (Event ends)
served = offers 1 1 0 0 ++ send 0 ∷ arrive 0 output ∷ []

abbrev pub anew : Controller
anew = fresh (0x100 ∷ 0x52 ∷ 0x53 ∷ []) 7

abbrev pub reset_once : Lives ends
reset_once = (begun unasked served, reset anew) ∷ []

-- The next one starts with the fresh pair, and offers its first message, of that tag again.
abbrev pub again : World ends
again = world anew unasked (offers 1 2 0 0)

abbrev pub answer : List ℕ
answer = bytes_of (0x80000030 ∷ [])

pub record KeptAnswer : Type 0 where
  pub given : (world summer unasked served).answers ≡ (message 0, some answer) ∷ []
  pub allowed : AllLived summer reset_once
  pub begins : Lived anew (begun unasked (offers 1 2 0 0))
  -- the answer comes now: the loader is told that the message went well, and it was never sent
  pub told : ends.take again.sender answer ≡ (at 1, ok [] ∷ [])
  pub nothing : again.controller ≡ anew
