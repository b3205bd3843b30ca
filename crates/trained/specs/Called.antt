-- [13] The calls of crate `table`, as a life makes them: its loader offers what `message` gave, and hands every answer
-- that comes to `take`. Assumes nothing.
use Rattle.std.specs.Prelude.{ℕ, ◌≡◌, List, [], ◌∷◌, take}
use Rattle.std.proofs.Math.Option.{Option, none, some}
use Rattle.word.specs.Words.{Words}
use Rattle.once.specs.Tags.{message_in}
use Rattle.once.specs.World.{Event, offer, send, arrive, back, other, World, given, step}
use Rattle.exchange.specs.Ends.{Waiting, Loader, ends}
use Rattle.exchange.specs.Terms.{Offers}
use Rattle.exchange.specs.Promise.{window}
use Rattle.table.specs.declared.attempt.Attempt.{Attempt}
use Rattle.table.specs.Calls.{made_of, made_to, taken_of}

-- `message`, not refused, gave this message, and the attempt is then the other one
pub record Gives (start room : ℕ) (rows : List ℕ) (a : Attempt) (message : List ℕ) (then : Attempt) : Type 0 where
  pub out : List ℕ
  pub fine : (made_of a start room rows out).refusal ≡ 0
  pub bytes : message ≡ take (made_of a start room rows out).length (made_to a start room rows out)
  pub attempt : then ≡ (made_of a start room rows out).attempt

-- `take` is lent the message that waits, and what came
abbrev pub lent_of : List Waiting → List ℕ
lent_of [] = []
lent_of (x ∷ more) = message_in x

abbrev pub taken_with : List ℕ → Attempt → Loader → Option (List ℕ) → Attempt
taken_with rows a s none = a
taken_with rows a s (some answer) = (taken_of a (lent_of s.waiting) answer rows).attempt

-- The attempt is a where the world is w, and then this happens: each message that is offered is what `message` gave,
-- and each answer that comes is handed to `take`.
abbrev pub Calls : ℕ → ℕ → List ℕ → Attempt → World ends → List (Event ends) → Type 0
Calls start room rows a w [] = Unit {0}
Calls start room rows a w (offer message ∷ es) =
    (then : Attempt) × Gives start room rows a message then
    × Calls start room rows then (step ends window w (offer message)) es
Calls start room rows a w (send p ∷ es) = Calls start room rows a (step ends window w (send p)) es
Calls start room rows a w (arrive j b ∷ es) = Calls start room rows a (step ends window w (arrive j b)) es
Calls start room rows a w (back n ∷ es) =
    Calls start room rows (taken_with rows a w.sender (given ends w n).1) (step ends window w (back n)) es
Calls start room rows a w (other x b ∷ es) = Calls start room rows a (step ends window w (other x b)) es

-- the attempt then, as the calls handed it back
abbrev pub held_by : (start room : ℕ) (rows : List ℕ) (a : Attempt) (w : World ends) (es : List (Event ends))
    → Calls start room rows a w es → Attempt
held_by start room rows a w [] g = a
held_by start room rows a w (offer message ∷ es) g =
    held_by start room rows g.0 (step ends window w (offer message)) es g.2
held_by start room rows a w (send p ∷ es) g = held_by start room rows a (step ends window w (send p)) es g
held_by start room rows a w (arrive j b ∷ es) g = held_by start room rows a (step ends window w (arrive j b)) es g
held_by start room rows a w (back n ∷ es) g =
    held_by start room rows (taken_with rows a w.sender (given ends w n).1) (step ends window w (back n)) es g
held_by start room rows a w (other x b ∷ es) g = held_by start room rows a (step ends window w (other x b)) es g

-- What `message` gave may be offered where it is, so that such a life is allowed.
abbrev pub GivenFits : Type 0
GivenFits =
    (start room : ℕ) (rows : List ℕ) (a then : Attempt) (s : Loader) (message : List ℕ) → Words rows
    → a.sender ≡ s.sender → Gives start room rows a message then → Offers s message
