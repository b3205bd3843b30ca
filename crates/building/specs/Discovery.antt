-- That building the fixed discovery gives it. Assumes nothing.
use Rattle.std.specs.Prelude.{ℕ, ◌≤◌, ◌≡◌, true, false, List, length}
use Rattle.header.specs.Limits.{limit_bytes}
use Rattle.header.specs.Refusal.{refusal}
use Rattle.message.specs.Discovery.{discovery_data, discovery_bytes}
use Rattle.building.specs.declared.record.Building.{Building}
use Rattle.building.specs.declared.asked.Asked.{Asked}
use Rattle.building.specs.Build.{begun, added, added_to, closed, closed_to}
use Rattle.building.specs.Reach.{Lent}
use Rattle.building.specs.Sequence.{built_bytes}

-- a NOP of tag 0 with the discovery bit, begun, and its data added; what a NOP has no use for is free
abbrev pub discovery_begun : List ℕ → Building
discovery_begun out = (begun (length out) 0 0 false true).building

abbrev pub discovery_added : List ℕ → Asked → Building
discovery_added out asked = (added out (discovery_begun out) asked discovery_data).building

abbrev pub discovery_out : List ℕ → Asked → List ℕ
discovery_out out asked = added_to out (discovery_begun out) asked discovery_data

-- closed, it is the fixed discovery
abbrev pub DiscoveryIsBuilt : Type 0
DiscoveryIsBuilt =
    (out : List ℕ) (asked : Asked) → limit_bytes ≤ length out → Lent asked discovery_data
    → ((closed (discovery_out out asked) (discovery_added out asked)).refusal ≡ refusal 0)
    × (built_bytes (closed (discovery_out out asked) (discovery_added out asked)).building
    (closed_to (discovery_out out asked) (discovery_added out asked)) ≡ discovery_bytes)
