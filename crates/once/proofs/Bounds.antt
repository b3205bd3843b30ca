-- How far behind a message may stand so that its tag still tells it from the others: the numbers that the proofs of the
-- laws rest on, named once. Assumes nothing.
use Prim.Native.Nat.{ℕ}

-- a request behind the next message
abbrev pub most_requests : ℕ
most_requests = 15

-- a message whose tag a stored answer has, behind the next
abbrev pub most_stored : ℕ
most_stored = 16

-- an answer behind the newest message
abbrev pub most_answers : ℕ
most_answers = 16
