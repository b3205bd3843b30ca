-- Building the fixed discovery gives it: `discovery-is-built`. Assumes nothing.
use Prim.Native.Nat.{ℕ, ◌≤◌}
use mathlib.Core.Path.{◌≡◌, ap, ◌∙◌}
use mathlib.Core.Bool.{true, false}
use mathlib.Core.List.{List, [], ◌∷◌, ◌++◌}
use native.Mathlib.Omega.{arith}
use borrow.Author.Tests.{le-leb}
use lib.ListN.{length}
use Rattle.word.specs.Words.{put_words}
use Rattle.word.proofs.Runs.{length-words}
use Rattle.header.specs.declared.Kind.TheVariants.{Nop}
use Rattle.header.specs.Limits.{limit_bytes}
use Rattle.header.specs.Header.{kind_of}
use Rattle.header.specs.Refusal.{refusal}
use Rattle.header.proofs.Laws.Header.{kind-number}
use Rattle.message.specs.Request.{command_words, written}
use Rattle.message.specs.Discovery.{discovery_byte, discovery_data, discovery_command, discovery_bytes}
use Rattle.message.proofs.Laws.Fixed.{discovery-byte, discovery-kind, discovery-long, same-discovery}
use Rattle.building.specs.declared.record.Building.{Building}
use Rattle.building.specs.declared.asked.Asked.{Asked}
use Rattle.building.specs.Build.{Built}
use Rattle.building.specs.Record.{start_ok, byte0_by, fresh_ok, nops_ok, some_ok, reachable}
use Rattle.building.specs.Asked.{command_by, count_fits, size_by, reply_by, room_fits, command_fault}
use Rattle.building.specs.Build.{gives, long_ok, opened, begun, add_fault, close_fault, grown, added, added_to, closed}
use Rattle.building.specs.Reach.{Lent}
use Rattle.building.specs.Sequence.{Adding, begins, adds}
use Rattle.building.specs.Discovery.{discovery_begun, discovery_added, discovery_out, DiscoveryIsBuilt}
use Rattle.building.proofs.Laws.Sequence.{built-is-read}

-- the record that begin gives, and that with the data added
abbrev first : Building
first = opened 0 0 false true

abbrev second : Building
second = grown first 2

-- byte 0 of both is the discovery's
first_byte : byte0_by first ≡ discovery_byte
unfolding byte0_by opened
first_byte = rw (kind-number Nop) discovery-byte

second-byte : byte0_by second ≡ discovery_byte
unfolding byte0_by grown opened
second-byte = rw (kind-number Nop) discovery-byte

first_kind : kind_of (byte0_by first) ≡ Nop
first_kind = ap kind_of first_byte ∙ discovery-kind

second-kind : kind_of (byte0_by second) ≡ Nop
second-kind = ap kind_of second-byte ∙ discovery-kind

-- what is asked for is its command
command-is : (asked : Asked) → command_by discovery_byte asked discovery_data ≡ discovery_command
unfolding command_by
command-is asked = rw discovery-kind

module _ (out : List ℕ) (asked : Asked) (room : limit_bytes ≤ length out) (lent : Lent asked discovery_data) where
  long : long_ok (length out) ≡ true
  long = le-leb limit_bytes (length out) room

  begun-is : begun (length out) 0 0 false true ≡ gives 0 first
  unfolding begun start_ok
  begun-is = rw long

  add-fault : add_fault (length out) first asked 2 ≡ 0
  unfolding add_fault reachable start_ok fresh_ok opened command_fault count_fits room_fits size_by reply_by
  add-fault = rw (long, first_kind)

  added_is : added out first asked discovery_data ≡ gives 0 second
  unfolding added
  added_is = rw (add-fault, first_kind)

  -- the same of the record as it comes
  begun_first : discovery_begun out ≡ first
  begun_first = ap (λ (g : Built). g.building) begun-is

  added-first : added out (discovery_begun out) asked discovery_data ≡ gives 0 second
  added-first = rw begun_first added_is

  added-second : discovery_added out asked ≡ second
  added-second = ap (λ (g : Built). g.building) added-first

  goes : Adding out ([] ++ command_by (byte0_by (discovery_begun out)) asked discovery_data ∷ []) (discovery_added out asked) (discovery_out out asked)
  goes =
      adds (begins 0 0 false true (ap (λ (g : Built). g.refusal) begun-is)) asked discovery_data lent (ap (λ (g : Built). g.refusal) added-first)

  -- its output is as long as it was
  out-is : discovery_out out asked ≡ put_words out 0 (command_words (byte0_by first) false (command_by (byte0_by first) asked discovery_data))
  unfolding added_to opened
  out-is = rw (begun_first, add-fault)

  out-long : limit_bytes ≤ length (discovery_out out asked)
  out-long =
      let three : length (command_words (byte0_by first) false (command_by (byte0_by first) asked discovery_data)) ≡ 3 = rw (first_byte, command-is asked) (discovery-long false) in
      let n = length-words out 0 (command_words (byte0_by first) false (command_by (byte0_by first) asked discovery_data)) (omega arith) in
      rw out-is (omega arith)

  close-fault : (m : ℕ) → long_ok m ≡ true → close_fault m second ≡ 0
  unfolding close_fault reachable start_ok some_ok nops_ok grown size_by reply_by opened
  close-fault m h = rw (h, second-kind, first_kind)

  closed-fine : (closed (discovery_out out asked) (discovery_added out asked)).refusal ≡ refusal 0
  unfolding closed
  closed-fine = rw (added-second, close-fault (length (discovery_out out asked)) (le-leb _ _ out-long))

  request-is : written (record { byte0 = byte0_by (discovery_added out asked); commands = [] ++ command_by (byte0_by (discovery_begun out)) asked discovery_data ∷ [] }) ≡ discovery_bytes
  request-is = rw (added-second, begun_first, second-byte, first_byte, command-is asked) same-discovery

pub discovery-is-built : DiscoveryIsBuilt
discovery-is-built out asked room lent =
    let z = closed-fine out asked room lent in
    (z, (built-is-read out _ _ _ (goes out asked room lent) z).bytes ∙ request-is out asked room lent)
