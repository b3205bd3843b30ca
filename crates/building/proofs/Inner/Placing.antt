-- What the steps of `build::add` come to, from what each step ensures. The proofs of `build` cite these. Assumes nothing.
use Prim.Native.Nat.{ℕ, ◌+◌, ◌*◌, ◌<◌, ◌≤◌}
use mathlib.Core.Path.{◌≡◌, refl, ap, ◌∙◌}
use mathlib.Core.Bool.{Bool, true, false}
use mathlib.Core.List.{List, [], ◌∷◌, ◌++◌}
use native.Mathlib.Omega.{arith}
use borrow.Author.Tests.{ltb-true}
use lib.ListN.{length, take}
use lib.Seq.{take-length, length-take-le}
use Rattle.word.specs.Words.{put_words, longest}
use Rattle.word.proofs.Runs.{words-words}
use Rattle.header.specs.declared.Kind.{Kind}
use Rattle.header.specs.declared.Kind.TheVariants.{Nop, Write, Read, Response}
use Rattle.header.specs.Limits.{limit}
use Rattle.header.specs.Header.{kind_of, wide_of, address_by, address_words, data_words, header_from}
use Rattle.header.proofs.Laws.Header.{data-le}
use Rattle.message.specs.Address.{address_in, address_top}
use Rattle.message.specs.Request.{command_words}
use Rattle.message.proofs.Laws.Addresses.{address-long, top-none, top_one, top-two}
use Rattle.message.proofs.Laws.Pieces.{command-pieces}
use Rattle.building.specs.declared.record.Building.{Building}
use Rattle.building.specs.declared.asked.Asked.{Asked}
use Rattle.building.specs.Record.{byte0_by}
use Rattle.building.specs.Asked.{count_by, byte1_by, address_sent, data_sent, command_by, enables_fit, address_fits, narrow_ok, size_by, reply_by}
use Rattle.building.specs.Build.{add_fault, grown}
use Rattle.building.proofs.Inner.Passed.{Adds, adds}

-- a header, an address and data, put one behind the other
module _ (l : List ℕ) (at h n a : ℕ) (payload : List ℕ) (k : n ≤ 2) (room : 4 * (at + (1 + (n + length payload))) ≤ length l) where
  pub put-pieces : {l1 l2 l3 : List ℕ} → l1 ≡ put_words l at (h ∷ []) → l2 ≡ put_words l1 (at + 1) (address_in n a) → l3 ≡ put_words l2 (at + 1 + n) payload
      → l3 ≡ put_words l at (h ∷ (address_in n a ++ payload))
  put-pieces {l1} {l2} {l3} p q r =
      let long = address-long n a k in
      let e2 : l2 ≡ put_words l at (h ∷ address_in n a) = q ∙ rw p (words-words l at (h ∷ []) (address_in n a) (omega arith)) in
      let e : at + 1 + n ≡ at + length (h ∷ address_in n a) = omega arith in
      r ∙ rw (e, e2) (words-words l at (h ∷ address_in n a) payload (omega arith))

-- the address that is sent fits in the message's address words
pub address-top : (k : Kind) (wide : Bool) (address a : ℕ) → a ≡ address_sent k address → a < 18446744073709551616 → address_fits k wide address ≡ true
    → a < address_top (address_by k wide)
unfolding narrow_ok
address-top Nop wide address a e h t = rw top-none (omega arith)
address-top Write false address a e h t = rw top_one (omega (arith, ltb-true address 4294967296 t))
address-top Write true address a e h t = rw top-two h
address-top Read false address a e h t = rw top_one (omega (arith, ltb-true address 4294967296 t))
address-top Read true address a e h t = rw top-two h
address-top Response wide address a e h t = rw top-none (omega arith)

-- the data that is sent, and its length
pub carried-is : (k : Kind) (payload : List ℕ) → take (data_words k (length payload)) payload ≡ data_sent k payload
carried-is Nop payload = take-length payload
carried-is Write payload = take-length payload
carried-is Read payload = refl
carried-is Response payload = take-length payload

pub carried-count : (k : Kind) (count lent : ℕ) → data_words k (count_by k count lent) ≡ data_words k lent
carried-count Nop count lent = refl
carried-count Write count lent = refl
carried-count Read count lent = refl
carried-count Response count lent = refl

-- a command that nothing is wrong with, from what the steps before its bytes are put ensure
module _ (room : ℕ) (b : Building) (asked : Asked) (payload : List ℕ) (pre : add_fault room b asked (length payload) ≡ 0) where
  abbrev counted : ℕ
  counted = count_by (kind_of (byte0_by b)) asked.count (length payload)

  abbrev ok : Adds room b asked counted
  ok = adds room b asked (length payload) pre

  pub placed-header : {byte0 count : ℕ} {k : Kind} → byte0 ≡ byte0_by b → k ≡ kind_of byte0 → count ≡ count_by k asked.count (length payload)
      → (count < 4096) × (enables_fit (kind_of byte0) count asked ≡ true)
  placed-header e f g = rw (g, f, e) (ok.fits.twelve, ok.fits.enabled)

  pub placed-address : {byte0 n a : ℕ} {k : Kind} → byte0 ≡ byte0_by b → k ≡ kind_of byte0 → n ≡ address_words byte0 → a ≡ address_sent k asked.address
      → a < 18446744073709551616 → a < address_top n
  placed-address {byte0} {n} {a} e f g i h = rw (g, e) (address-top (kind_of (byte0_by b)) (wide_of (byte0_by b)) asked.address a (rw (f, e) at i) h ok.fits.reaches)

  pub placed-sent : {byte0 sent : ℕ} {k : Kind} → byte0 ≡ byte0_by b → k ≡ kind_of byte0 → sent ≡ data_words k (length payload)
      → length (take sent payload) ≡ data_words (kind_of (byte0_by b)) (length payload)
  placed-sent e f g = rw (g, f, e) (length-take-le _ payload (data-le (kind_of (byte0_by b)) (length payload)))

  pub placed-room : {byte0 n sent : ℕ} {k : Kind} → byte0 ≡ byte0_by b → k ≡ kind_of byte0 → n ≡ address_words byte0 → sent ≡ data_words k (length payload)
      → (length (take sent payload) ≤ longest) × (4 * (b.words + (1 + (n + length (take sent payload)))) ≤ room)
  unfolding size_by
  placed-room {byte0} {n} {sent} {k} e f g i =
      let l = placed-sent e f i in
      let s : b.words + (1 + (address_words (byte0_by b) + data_words (kind_of (byte0_by b)) counted)) ≤ limit = ok.fits.short in
      let d = carried-count (kind_of (byte0_by b)) asked.count (length payload) in
      let n' : n ≡ address_words (byte0_by b) = g ∙ ap address_words e in
      let r = ok.long in
      (omega arith, omega arith)

  pub placed-bytes : (out : List ℕ) (at : ℕ) {byte0 h count n a sent : ℕ} {k : Kind} {m : List ℕ} → byte0 ≡ byte0_by b → k ≡ kind_of byte0
      → count ≡ count_by k asked.count (length payload)
      → h ≡ header_from byte0 (byte1_by (kind_of byte0) asked.first asked.last) count false → n ≡ address_words byte0 → sent ≡ data_words k (length payload)
      → a ≡ address_sent k asked.address → m ≡ put_words out at (h ∷ (address_in n a ++ take sent payload))
      → m ≡ put_words out at (command_words (byte0_by b) false (command_by (byte0_by b) asked payload))
  unfolding command_by
  placed-bytes out at e f g p q r t w =
      rw (command-pieces (byte0_by b) false (command_by (byte0_by b) asked payload), ← carried-is (kind_of (byte0_by b)) payload) (rw (p, q, t, r, g, f, e) at w)

  pub placed-grown : {byte0 count s r : ℕ} {k : Kind} → byte0 ≡ byte0_by b → k ≡ kind_of byte0 → count ≡ count_by k asked.count (length payload)
      → s ≡ size_by byte0 count → r ≡ reply_by byte0 count
      → (b.words + s ≤ limit) × (b.answer + r ≤ limit) × (record b { words = b.words + s; last = b.words; answer = b.answer + r } ≡ grown b counted)
  unfolding grown
  placed-grown e f g h i = rw (i, h, g, f, e) (ok.fits.short, ok.fits.few, rw ok.opens refl)
