-- What is built is what is read. Assumes nothing.
use Rattle.std.specs.Prelude.{ℕ, ◌*◌, ◌≡◌, Bool, cond, List, [], ◌∷◌, ◌++◌, length, take, drop}
use Rattle.header.specs.Refusal.{refused_at, refusal}
use Rattle.message.specs.Request.{Command, Request, Refused, Means, written, replies, none}
use Rattle.message.specs.Walk.{read}
use Rattle.building.specs.declared.record.Building.{Building}
use Rattle.building.specs.declared.asked.Asked.{Asked}
use Rattle.building.specs.Record.{byte0_by}
use Rattle.building.specs.Asked.{command_by}
use Rattle.building.specs.Build.{begun, added, added_to, closed, closed_to}
use Rattle.building.specs.Reach.{Lent}

-- begun over the lent output `start`, then these commands added one after another, none refused: the record and the
-- output now
pub data Adding (start : List ℕ) : List Command → Building → List ℕ → Type 0 where
  begins : (kind tag : ℕ) (wide discovery : Bool) → (begun (length start) kind tag wide discovery).refusal ≡ refusal 0
      → Adding start [] (begun (length start) kind tag wide discovery).building start
  adds : {cs : List Command} {b : Building} {out : List ℕ} → Adding start cs b out → (asked : Asked) (payload : List ℕ)
      → Lent asked payload
      → (added out b asked payload).refusal ≡ refusal 0
      → Adding start (cs ++ command_by (byte0_by b) asked payload ∷ [])
      (added out b asked payload).building (added_to out b asked payload)

-- the first bytes of an output, as many as the record's words
abbrev pub built_bytes : Building → List ℕ → List ℕ
built_bytes b out = take (4 * b.words) out

-- a record and an output that hold a message: its bytes stand first, they are accepted and mean what was added, the
-- record has the length of its all-OK answer, and what lies behind is as it was
pub record Holds (start : List ℕ) (r : Request) (b : Building) (out : List ℕ) : Type 0 where
  pub bytes : built_bytes b out ≡ written r
  pub accepted : read (built_bytes b out) ≡ Means r
  pub answer : b.answer ≡ replies r.byte0 r.commands
  pub kept : drop (4 * b.words) out ≡ drop (4 * b.words) start

-- added and closed, what is built is what is read
abbrev pub BuiltIsRead : Type 0
BuiltIsRead =
    (start : List ℕ) (cs : List Command) (b : Building) (out : List ℕ) → Adding start cs b out
    → (closed out b).refusal ≡ refusal 0
    → Holds start (record { byte0 = byte0_by b; commands = cs }) (closed out b).building (closed_to out b)

-- not closed, it is refused: 2 with nothing added, else 3 behind its words
abbrev pub OpenIsRefused : Type 0
OpenIsRefused =
    (start : List ℕ) (cs : List Command) (b : Building) (out : List ℕ) → Adding start cs b out
    → read (built_bytes b out) ≡ Refused (cond (none cs) (refusal 2) (refused_at 3 b.words))
