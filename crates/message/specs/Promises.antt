-- What is promised of requests, written and read, in other words than the definitions of Request and Walk: the proofs
-- are in proofs/Laws/Round.antt, Back.antt and Exactly.antt. Assumes nothing.
use Rattle.std.specs.Prelude.{ℕ, ◌≤◌, ◌≡◌, List}
use Rattle.word.specs.Words.{Bytes}
use Rattle.header.specs.declared.refusal.Refusal.{Refusal}
use Rattle.message.specs.Request.{Request, Refused, Means, written, Fits}
use Rattle.message.specs.Walk.{read}

-- a fitting request's bytes read as itself
abbrev pub ReadWritten : Type 0
ReadWritten = (r : Request) → Fits r → read (written r) ≡ Means r

-- and bytes that read as a request are that request's, which fits
abbrev pub WrittenRead : Type 0
WrittenRead = (dg : List ℕ) (r : Request) → Bytes dg → read dg ≡ Means r → Fits r × (dg ≡ written r)

-- the refusals of a datagram by itself are 2 to 10: none is 0
abbrev pub RefusalRange : Type 0
RefusalRange = (dg : List ℕ) → Bytes dg → (r : Refusal) → read dg ≡ Refused r → (2 ≤ r.number) × (r.number ≤ 10)
