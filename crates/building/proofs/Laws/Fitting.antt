-- What fits is built: an output that is long enough is begun, a command that may stand in the message and leaves it
-- and its all-OK answer within the limit is added, and where one was, the message is closed. Assumes nothing.
use Prim.Native.Nat.{ℕ, ◌+◌, ◌*◌, ◌/◌, ◌%◌, ◌<◌, ◌≤◌}
use mathlib.Core.Path.{◌≡◌, refl, sym, ap, ◌∙◌}
use mathlib.Core.Bool.{Bool, true, false, ◌&&◌, false≢true}
use mathlib.Core.List.{List, [], ◌∷◌, ◌++◌}
use native.Mathlib.Omega.{arith}
use borrow.Author.Tests.{le-leb, lt-ltb, eq-eqb, ne_eqb}
use lib.Dec.{ltb}
use lib.ListN.{length, length-append}
use Rattle.word.proofs.Runs.{length-words, length-bytes}
use Rattle.header.specs.declared.Kind.{Kind}
use Rattle.header.specs.declared.Kind.TheVariants.{Nop, Write, Read, Response}
use Rattle.header.specs.Limits.{limit, limit_bytes, tag_count}
use Rattle.header.specs.Header.{kind_no, kind_of, wide_of, byte0_from, address_by, address_words}
use Rattle.header.specs.Refusal.{refusal}
use Rattle.message.specs.Address.{address_in, address_top}
use Rattle.message.specs.Faults.{enables_ok}
use Rattle.message.specs.Request.{Command, none, replies, command_words, request_words, written, FitsCommand}
use Rattle.message.specs.Exactly.{open_words}
use Rattle.message.proofs.Laws.Addresses.{top_one}
use Rattle.message.proofs.Laws.Pieces.{open_more, replies-more, request-more, written_is, command-pieces}
use Rattle.message.proofs.Laws.Round.{command-long}
use Rattle.building.specs.declared.record.Building.{Building}
use Rattle.building.specs.declared.asked.Asked.{Asked}
use Rattle.building.specs.Build.{Built}
use Rattle.building.specs.Record.{start_ok, byte0_by, reachable}
use Rattle.building.specs.Asked.{count_by, byte1_by, address_sent, data_sent, command_by, count_fits, fields_ok}
use Rattle.building.specs.Asked.{enables_fit, address_fits, narrow_ok, size_by, reply_by, room_fits, command_fault}
use Rattle.building.specs.Build.{gives, long_ok, opened, begun, add_fault, close_fault, grown, shut, added, closed}
use Rattle.building.specs.Reach.{Reached}
use Rattle.building.specs.Reach as reach
use Rattle.building.specs.Sequence.{Adding, begins, adds}
use Rattle.building.proofs.Inner.Passed.{bounded, Fitting}
use Rattle.building.proofs.Laws.Reach.{reached-exactly}
use Rattle.building.proofs.Laws.Sequence.{stands}

-- begun: 21 exactly for a short output or a large tag, where the kind is one of the three; else byte 0 is begin's four
module _ (room kind tag : ℕ) (wide discovery : Bool) (k : kind < 3) where
  pub begun-refused : (long_ok room && ltb tag tag_count) ≡ false
      → (begun room kind tag wide discovery).refusal ≡ refusal 21
  unfolding begun start_ok
  begun-refused e = rw (lt-ltb kind 3 k, e) refl

  module _ (e : (long_ok room && ltb tag tag_count) ≡ true) where
    begun-is : begun room kind tag wide discovery ≡ gives 0 (opened kind tag wide discovery)
    unfolding begun start_ok
    begun-is = rw (lt-ltb kind 3 k, e) refl

    pub begun-well : (begun room kind tag wide discovery).refusal ≡ refusal 0
    begun-well = ap (λ (g : Built). g.refusal) begun-is

    pub begun-byte : byte0_by (begun room kind tag wide discovery).building ≡ byte0_from tag (kind_no kind) wide discovery
    unfolding byte0_by opened
    begun-byte = ap (λ (g : Built). byte0_by g.building) begun-is

-- the command that is asked for, by the message's kind
pub command-asked : (byte0 : ℕ) (asked : Asked) (payload : List ℕ)
    → command_by byte0 asked payload
    ≡ record {
      byte1 = byte1_by (kind_of byte0) asked.first asked.last;
      count = count_by (kind_of byte0) asked.count (length payload);
      address = address_sent (kind_of byte0) asked.address;
      payload = data_sent (kind_of byte0) payload;
    }
unfolding command_by
command-asked byte0 asked payload = refl

fields_fit : (k : Kind) (count : ℕ) (asked : Asked) → asked.first < 16 → asked.last < 16
    → enables_ok k count (address_sent k asked.address) (byte1_by k asked.first asked.last) ≡ true
    → enables_fit k count asked ≡ true
unfolding fields_ok
fields_fit Nop count asked f l e = refl
fields_fit Write count asked f l e =
    let p : (asked.first + 16 * asked.last) % 16 ≡ asked.first = omega arith in
    let q : (asked.first + 16 * asked.last) / 16 ≡ asked.last = omega arith in
    rw (lt-ltb asked.first 16 f, lt-ltb asked.last 16 l) (rw (p, q) at e)
fields_fit Read count asked f l e = refl
fields_fit Response count asked f l e = refl

address-fits : (k : Kind) (wide : Bool) (address : ℕ) → address_sent k address < address_top (address_by k wide)
    → address_fits k wide address ≡ true
unfolding narrow_ok
address-fits Nop wide address h = refl
address-fits Write false address h = lt-ltb address 4294967296 (rw top_one at h)
address-fits Write true address h = refl
address-fits Read false address h = lt-ltb address 4294967296 (rw top_one at h)
address-fits Read true address h = refl
address-fits Response wide address h = refl

faultless : (byte0 words answer : ℕ) (asked : Asked) (count : ℕ) → Fitting byte0 words answer asked count
    → command_fault byte0 words answer asked count ≡ 0
unfolding command_fault count_fits room_fits
faultless byte0 words answer asked count f =
    let short = le-leb _ limit f.short in
    let few = le-leb _ limit f.few in
    rw (lt-ltb count 4096 f.twelve, f.counted, f.enabled, f.reaches, short, few) refl

-- begun and added to, it is not closed, and a record that some sequence of calls gives
reached : {o : List ℕ} {cs : List Command} {b : Building} {out : List ℕ} → Adding o cs b out → Reached b
reached {o} (begins kind tag wide discovery e) = reach.begins o kind tag wide discovery e
reached (adds {out = out} s asked payload l e) = reach.adds (reached s) out asked payload l

module _ {start : List ℕ} {cs : List Command} {b : Building} {out : List ℕ} (s : Adding start cs b out) where
  abbrev byte0 : ℕ
  byte0 = byte0_by b

  usable-out : (long_ok (length out) && reachable b) ≡ true
  usable-out =
      let st = stands s in
      let ws : List ℕ = open_words byte0 cs in
      let n = ap length st.is ∙ length-words start 0 ws (omega (arith, st.long, st.words, st.most)) in
      rw (le-leb limit_bytes (length out) (omega (arith, st.long, n)), (reached-exactly b).0 (reached s)) refl

  -- one command more
  module _ (asked : Asked) (payload : List ℕ) (first : asked.first < 16) (last : asked.last < 16)
      (f : FitsCommand byte0 (command_by byte0 asked payload))
      (short : length (open_words byte0 (cs ++ command_by byte0 asked payload ∷ [])) ≤ limit)
      (few : replies byte0 (cs ++ command_by byte0 asked payload ∷ []) ≤ limit) where
    abbrev c : Command
    c = command_by byte0 asked payload

    words-fit : b.words + size_by byte0 c.count ≤ limit
    unfolding size_by
    words-fit =
        let n = ap length (open_more byte0 cs c) ∙ length-append (open_words byte0 cs) _ in
        omega (arith, short, n, command-long byte0 false c f, (stands s).words)

    answer-fits : b.answer + reply_by byte0 c.count ≤ limit
    unfolding reply_by
    answer-fits = omega (arith, few, replies-more byte0 cs c, (stands s).answer)

    no-fault : add_fault (length out) b asked (length payload) ≡ 0
    unfolding add_fault command_by byte0_by
    no-fault =
        rw (usable-out, (stands s).opens)
        (faultless byte0 b.words b.answer asked _
        (record {
          twelve = f.twelve;
          counted = f.counted;
          enabled = fields_fit (kind_of byte0) _ asked first last f.enabled;
          reaches = address-fits (kind_of byte0) (wide_of byte0) asked.address f.reaches;
          short = words-fit;
          few = answer-fits;
        }))

    added_is : added out b asked payload ≡ gives 0 (grown b c.count)
    unfolding added command_by
    added_is = rw (eq-eqb _ 0 no-fault) refl

    pub added-well : (added out b asked payload).refusal ≡ refusal 0
    added-well = ap (λ (g : Built). g.refusal) added_is

    pub added-byte : byte0_by (added out b asked payload).building ≡ byte0
    unfolding byte0_by grown
    added-byte = ap (λ (g : Built). byte0_by g.building) added_is

-- as long with LAST as without
module _ (byte0 : ℕ) (cs : List Command) (c : Command) where
  long_as : (last : Bool)
      → length (command_words byte0 last c) ≡ 1 + length (address_in (address_words byte0) c.address ++ c.payload)
  long_as last = ap length (command-pieces byte0 last c) ∙ omega arith

  more-long : length (request_words byte0 (cs ++ c ∷ [])) ≡ length (open_words byte0 (cs ++ c ∷ []))
  more-long =
      rw (request-more byte0 cs c, open_more byte0 cs c)
      (simp length-append (omega (arith, long_as true, long_as false)))

  more-some : 0 < length (open_words byte0 (cs ++ c ∷ []))
  more-some = rw (open_more byte0 cs c) (simp length-append (omega (arith, long_as false)))

some_words : {start : List ℕ} {cs : List Command} {b : Building} {out : List ℕ} → Adding start cs b out
    → none cs ≡ false → (0 < length (open_words (byte0_by b) cs))
    × (length (request_words (byte0_by b) cs) ≡ length (open_words (byte0_by b) cs))
some_words (begins kind tag wide discovery e) h = absurd (false≢true (sym h))
some_words (adds {cs} {b} s asked payload l e) h =
    let c : Command = command_by (byte0_by b) asked payload in
    (more-some _ cs c, more-long _ cs c)

-- closed
module _ {start : List ℕ} {cs : List Command} {b : Building} {out : List ℕ} (s : Adding start cs b out)
    (some : none cs ≡ false) where
  no-close-fault : close_fault (length out) b ≡ 0
  unfolding close_fault
  no-close-fault =
      let z = ne_eqb b.words 0 (omega (arith, (stands s).words, (some_words s some).0)) in
      rw (usable-out s, (stands s).opens, z) refl

  closed_is : closed out b ≡ gives 0 (shut b)
  unfolding closed
  closed_is = rw (eq-eqb _ 0 no-close-fault) refl

  pub closed-well : (closed out b).refusal ≡ refusal 0
  closed-well = ap (λ (g : Built). g.refusal) closed_is

  pub closed-long : 4 * (closed out b).building.words ≡ length (written (record { byte0 = byte0_by b; commands = cs }))
  unfolding shut
  closed-long =
      let n = ap (λ (g : Built). g.building.words) closed_is in
      let l = ap length (sym (written_is (byte0_by b) cs)) ∙ length-bytes (request_words (byte0_by b) cs) in
      omega (arith, n, l, (stands s).words, (some_words s some).1)

  -- within the limit, in words
  pub closed-few : (closed out b).building.words ≤ limit
  closed-few = (bounded (closed out b).building ((reached-exactly _).0 (reach.closes (reached s) out))).words
