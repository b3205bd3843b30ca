-- 31: whether a request may be asked. Assumes nothing.
use Rattle.std.specs.Prelude.{ℕ, Bool, true, false, cond, Result}
use Rattle.header.specs.declared.refusal.Refusal.{Refusal}
use Rattle.header.specs.Header.{tag_of, discovery_of}
use Rattle.header.specs.Refusal.{refused_at, refusal}
use Rattle.message.specs.Request.{Request, Reading, Refused, Means, given}

-- "31: request would be refused 2 to 10, has the discovery bit", and "gives the index in the request": that of the
-- refusal which the request would get; 0 for the discovery bit
unfoldable pub plainly : Reading Request → Reading Request
plainly (Refused r) = Refused (refused_at 31 r.at)
plainly (Means q) = cond (discovery_of q.byte0) (Refused (refusal 31)) (Means q)

-- "or its tag is not" one that is asked for, with index 0: `fits` says of a tag whether it is
abbrev pub under_tag : (ℕ → Bool) → Reading Request → Reading Request
under_tag fits (Refused r) = Refused r
under_tag fits (Means q) = cond (fits (tag_of q.byte0)) (Means q) (Refused (refusal 31))

unfoldable pub asked_as : (ℕ → Bool) → Reading Request → Reading Request
asked_as fits p = under_tag fits (plainly p)

-- whether 31 lets it by
abbrev pub lets_by : Reading Request → Bool
lets_by (Refused r) = false
lets_by (Means q) = true

unfoldable pub asks_as : (ℕ → Bool) → Reading Request → Bool
asks_as fits p = lets_by (asked_as fits p)

-- what the functions give back of it: byte 0, or the refusal
abbrev pub asking_of : Reading Request → Result ℕ Refusal
asking_of p = given (λ (q : Request). q.byte0) p
