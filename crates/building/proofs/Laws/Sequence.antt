-- What is built is what is read: `built-is-read` and `open-is-refused`. Assumes nothing.
use Prim.Native.Nat.{ℕ, ◌+◌, ◌*◌, ◌/◌, ◌%◌, ◌<◌, ◌≤◌}
use mathlib.Core.Path.{◌≡◌, refl, sym, ap, ◌∙◌}
use mathlib.Core.Bool.{Bool, true, false, cond, ◌&&◌}
use mathlib.Core.List.{List, [], ◌∷◌, ◌++◌}
use native.Mathlib.Omega.{arith}
use borrow.Author.Tests.{eqb-true, leb-true}
use lib.Dec.{eqb}
use lib.ListN.{length, take, length-append}
use Rattle.word.specs.Words.{bytes_of, Words, put_words}
use Rattle.word.proofs.Runs.{words-none, words-words, words-front, words-behind, put-high, below-take}
use Rattle.header.specs.declared.Kind.{Kind}
use Rattle.header.specs.declared.Kind.TheVariants.{Nop, Write, Read, Response}
use Rattle.header.specs.Limits.{limit, limit_bytes}
use Rattle.header.specs.Header.{kind_of, wide_of, address_words, data_words, header_from}
use Rattle.header.specs.Refusal.{refused_at, refusal}
use Rattle.header.proofs.Laws.Header.{byte0-lt}
use Rattle.header.proofs.Laws.Header.{header-last, header-low}
use Rattle.message.specs.Faults.{enables_ok}
use Rattle.message.specs.Request.{Command, Request, Refused, none, written, replies, command_words, request_words, All, FitsCommand, Fits}
use Rattle.message.specs.Address.{address_in}
use Rattle.message.specs.Exactly.{open_words}
use Rattle.message.proofs.Laws.Round.{command-long, read-written}
use Rattle.message.proofs.Laws.Exactly.{counted-asks}
use Rattle.message.proofs.Laws.Pieces.{command-pieces, written_is, open_more, request-more, replies-more, all_more, all_none, none_more, open_none, replies-none, open-refused}
use Rattle.building.specs.declared.record.Building.{Building}
use Rattle.building.specs.declared.asked.Asked.{Asked}
use Rattle.building.specs.Record.{start_ok, byte0_by}
use Rattle.building.specs.Asked.{count_by, byte1_by, address_sent, data_sent, command_by, enables_fit, size_by, reply_by}
use Rattle.building.specs.Build.{gives, long_ok, opened, no_building, begun, add_fault, close_fault, grown, shut, last_set, added, added_to, closed, closed_to}
use Rattle.building.specs.Reach.{Lent}
use Rattle.building.specs.Sequence.{Adding, begins, adds, built_bytes, Holds, BuiltIsRead, OpenIsRefused}
use Rattle.building.proofs.Inner.Passed as passed
use Rattle.building.proofs.Inner.Passed.{both, unrefused, Adds, Fitting, start-tag, fields-lt}
use Rattle.building.proofs.Inner.Placing.{address-top}

-- what an add that was not refused gives
record Took (out : List ℕ) (b : Building) (asked : Asked) (payload : List ℕ) : Type 0 where
  fault : add_fault (length out) b asked (length payload) ≡ 0
  building : (added out b asked payload).building ≡ grown b (count_by (kind_of (byte0_by b)) asked.count (length payload))
  output : added_to out b asked payload ≡ put_words out b.words (command_words (byte0_by b) false (command_by (byte0_by b) asked payload))

took : (out : List ℕ) (b : Building) (asked : Asked) (payload : List ℕ) → (added out b asked payload).refusal ≡ refusal 0 → Took out b asked payload
unfolding added added_to
took out b asked payload e = go (eqb (add_fault (length out) b asked (length payload)) 0) refl e
  where
    go : (t : Bool) → eqb (add_fault (length out) b asked (length payload)) 0 ≡ t
        → (cond t (gives 0 (grown b (count_by (kind_of (byte0_by b)) asked.count (length payload)))) (gives (add_fault (length out) b asked (length payload)) b)).refusal ≡ refusal 0
        → Took out b asked payload
    go true z e = record { fault = eqb-true _ _ z; building = rw z; output = rw z }
    go false z e = absurd (passed.off_zero z (unrefused e))

-- the command that was added fits
byte1-fits : (k : Kind) (count : ℕ) (asked : Asked) → enables_fit k count asked ≡ true
    → (byte1_by k asked.first asked.last < 256) × (enables_ok k count (address_sent k asked.address) (byte1_by k asked.first asked.last) ≡ true)
byte1-fits Nop count asked e = (omega arith, refl)
byte1-fits Read count asked e = (omega arith, refl)
byte1-fits Response count asked e = (omega arith, refl)
byte1-fits Write count asked e =
    let h = fields-lt count asked e in
    let f : (asked.first + 16 * asked.last) % 16 ≡ asked.first = omega arith in
    let l : (asked.first + 16 * asked.last) / 16 ≡ asked.last = omega arith in
    (omega arith, rw (f, l) h.2)

carried-long : (k : Kind) (count : ℕ) (payload : List ℕ) → length (data_sent k payload) ≡ data_words k (count_by k count (length payload))
carried-long Nop count payload = refl
carried-long Write count payload = refl
carried-long Read count payload = refl
carried-long Response count payload = refl

carried-words : (k : Kind) (payload : List ℕ) → Words payload → Words (data_sent k payload)
carried-words Nop payload h = h
carried-words Write payload h = h
carried-words Read payload h = below-take 4294967296 0 payload h
carried-words Response payload h = h

sent-lt : (k : Kind) (address : ℕ) → address < 18446744073709551616 → address_sent k address < 18446744073709551616
sent-lt Nop address h = omega arith
sent-lt Write address h = h
sent-lt Read address h = h
sent-lt Response address h = omega arith

command-fits : (byte0 w n : ℕ) (asked : Asked) (payload : List ℕ) → Lent asked payload
    → Fitting byte0 w n asked (count_by (kind_of byte0) asked.count (length payload)) → FitsCommand byte0 (command_by byte0 asked payload)
unfolding command_by
command-fits byte0 w n asked payload l f =
    let e = byte1-fits (kind_of byte0) _ asked f.enabled in
    record {
      byte = e.0;
      twelve = f.twelve;
      counted = f.counted;
      enabled = e.1;
      reaches = address-top (kind_of byte0) (wide_of byte0) asked.address _ refl (sent-lt (kind_of byte0) asked.address l.address) f.reaches;
      long = carried-long (kind_of byte0) asked.count payload;
      words = carried-words (kind_of byte0) payload l.words;
    }

-- what holds after each call: the commands' words stand first, and the record counts them
pub record Stands (start : List ℕ) (cs : List Command) (b : Building) (out : List ℕ) : Type 0 where
  pub long : limit_bytes ≤ length start
  pub tag : b.tag < 16
  pub all : All (FitsCommand (byte0_by b)) cs
  pub words : b.words ≡ length (open_words (byte0_by b) cs)
  pub answer : b.answer ≡ replies (byte0_by b) cs
  pub most : b.words ≤ limit
  pub few : b.answer ≤ limit
  pub opens : b.closed ≡ false
  pub is : out ≡ put_words start 0 (open_words (byte0_by b) cs)

stands-first : (start : List ℕ) (kind tag : ℕ) (wide discovery : Bool) → (begun (length start) kind tag wide discovery).refusal ≡ refusal 0
    → Stands start [] (begun (length start) kind tag wide discovery).building start
unfolding begun opened
stands-first start kind tag wide discovery e = go (long_ok (length start) && start_ok kind tag) refl e
  where
    go : (t : Bool) → (long_ok (length start) && start_ok kind tag) ≡ t → (cond t (gives 0 (opened kind tag wide discovery)) (gives 21 no_building)).refusal ≡ refusal 0
        → Stands start [] (cond t (gives 0 (opened kind tag wide discovery)) (gives 21 no_building)).building start
    go true z e =
        let b : Building = opened kind tag wide discovery in
        let t = both (long_ok (length start)) (start_ok kind tag) z in
        record {
          long = leb-true _ _ t.0;
          tag = (start-tag kind tag t.1).1;
          all = all_none (FitsCommand (byte0_by b));
          words = ap length (sym (open_none (byte0_by b)));
          answer = sym (replies-none (byte0_by b));
          most = omega arith;
          few = omega arith;
          opens = refl;
          is = rw (open_none (byte0_by b)) (sym (words-none start 0));
        }
    go false z e = absurd (omega (arith, unrefused e))

-- what a close that was not refused gives
record Shuts (out : List ℕ) (b : Building) : Type 0 where
  fault : close_fault (length out) b ≡ 0
  building : (closed out b).building ≡ shut b
  output : closed_to out b ≡ last_set out b.last

shuts : (out : List ℕ) (b : Building) → (closed out b).refusal ≡ refusal 0 → Shuts out b
unfolding closed closed_to
shuts out b e = go (eqb (close_fault (length out) b) 0) refl e
  where
    go : (t : Bool) → eqb (close_fault (length out) b) 0 ≡ t → (cond t (gives 0 (shut b)) (gives (close_fault (length out) b) b)).refusal ≡ refusal 0 → Shuts out b
    go true z e = record { fault = eqb-true _ _ z; building = rw z; output = rw z }
    go false z e = absurd (passed.off_zero z (unrefused e))

-- byte 0 is the same throughout, and a byte
grown-byte : (b : Building) (count : ℕ) → byte0_by (grown b count) ≡ byte0_by b
unfolding byte0_by grown
grown-byte b count = refl

tag-byte : (b : Building) → b.tag < 16 → byte0_by b < 256
unfolding byte0_by
tag-byte b h = byte0-lt b.tag _ b.wide b.discovery h

-- LAST set in a command that was put
last-put : (out : List ℕ) (at byte0 : ℕ) (c : Command) → byte0 < 256 → FitsCommand byte0 c → 4 * (at + length (command_words byte0 false c)) ≤ length out
    → last_set (put_words out at (command_words byte0 false c)) at ≡ put_words out at (command_words byte0 true c)
unfolding last_set
last-put out at byte0 c hb f room =
    let h : ℕ = header_from byte0 c.byte1 c.count false in
    let body : List ℕ = address_in (address_words byte0) c.address ++ c.payload in
    let e = command-pieces byte0 false c in
    let fits : 4 * (at + (1 + length body)) ≤ length out = omega (arith, ap length e) in
    rw (e, command-pieces byte0 true c, header-last byte0 c.byte1 c.count) (put-high out at h body (header-low byte0 c.byte1 c.count hb f.byte f.twelve) fits)

-- one command more, put behind what stands
module _ {start : List ℕ} {cs : List Command} {b : Building} {out : List ℕ} (s : Stands start cs b out)
    (asked : Asked) (payload : List ℕ) (l : Lent asked payload) (e : (added out b asked payload).refusal ≡ refusal 0) where
  abbrev byte0 : ℕ
  byte0 = byte0_by b

  abbrev c : Command
  c = command_by byte0 asked payload

  abbrev count : ℕ
  count = count_by (kind_of byte0) asked.count (length payload)

  abbrev t : Took out b asked payload
  t = took out b asked payload e

  abbrev a : Adds (length out) b asked count
  a = passed.adds (length out) b asked (length payload) t.fault

  more-fits : FitsCommand byte0 c
  more-fits = command-fits byte0 b.words b.answer asked payload l a.fits

  more-long : (last : Bool) → length (command_words byte0 last c) ≡ size_by byte0 count
  unfolding size_by command_by
  more-long last = command-long byte0 last c more-fits

  -- with LAST set or clear, the words so far and the command's are one run
  more-run : (last : Bool) → put_words out b.words (command_words byte0 last c) ≡ put_words start 0 (open_words byte0 cs ++ command_words byte0 last c)
  more-run last =
      let ws : List ℕ = open_words byte0 cs in
      let vs : List ℕ = command_words byte0 last c in
      let n : b.words ≡ 0 + length ws = omega (arith, s.words) in
      ap (λ (o : List ℕ). put_words o b.words vs) s.is ∙ ap (λ (i : ℕ). put_words (put_words start 0 ws) i vs) n
      ∙ words-words start 0 ws vs (omega (arith, s.words, s.long, a.fits.short, more-long last))

  abbrev cs' : List Command
  cs' = cs ++ c ∷ []

  more-words : (last : Bool) → b.words + size_by byte0 count ≡ length (open_words byte0 cs ++ command_words byte0 last c)
  more-words last = omega (arith, s.words, more-long last, length-append (open_words byte0 cs) (command_words byte0 last c))

  more-answer : b.answer + reply_by byte0 count ≡ replies byte0 cs'
  unfolding reply_by command_by
  more-answer = omega (arith, s.answer, replies-more byte0 cs c)

  stands-more : Stands start cs' (added out b asked payload).building (added_to out b asked payload)
  unfolding grown byte0_by
  stands-more =
      rw (t.building, t.output)
      (record {
        long = s.long;
        tag = s.tag;
        all = all_more (FitsCommand byte0) cs c s.all more-fits;
        words = more-words false ∙ ap length (sym (open_more byte0 cs c));
        answer = more-answer;
        most = a.fits.short;
        few = a.fits.few;
        opens = refl;
        is = more-run false ∙ ap (put_words start 0) (sym (open_more byte0 cs c));
      })

  abbrev made : Request
  made = record { byte0 = byte0; commands = cs' }

  made-words : length (request_words byte0 cs') ≡ b.words + size_by byte0 count
  made-words = ap length (request-more byte0 cs c) ∙ sym (more-words true)

  made-fits : Fits made
  made-fits =
      record {
        asked = record {
          byte = tag-byte b s.tag;
          asking = counted-asks (kind_of byte0) _ a.fits.counted;
          some = none_more cs c;
          all = all_more (FitsCommand byte0) cs c s.all (more-fits);
          short = omega (arith, made-words, a.fits.short);
        };
        answer = omega (arith, more-answer, a.fits.few);
      }

  made_bytes : last_set (put_words out b.words (command_words byte0 false c)) b.words ≡ put_words start 0 (request_words byte0 cs')
  made_bytes =
      last-put out b.words byte0 c (tag-byte b s.tag) (more-fits)
      (omega (arith, a.long, a.fits.short, more-long false))
      ∙ more-run true ∙ ap (put_words start 0) (sym (request-more byte0 cs c))

  -- closed, it is there
  made_holds : (b₁ : Building) (out₁ : List ℕ) → b₁ ≡ grown b count → out₁ ≡ put_words out b.words (command_words byte0 false c) → (closed out₁ b₁).refusal ≡ refusal 0
      → Holds start (record { byte0 = byte0_by b₁; commands = cs' }) (closed out₁ b₁).building (closed_to out₁ b₁)
  unfolding grown shut
  made_holds b₁ out₁ p q z =
      let k = shuts out₁ b₁ z in
      let w : (closed out₁ b₁).building.words ≡ length (request_words byte0 cs') = rw (k.building, p) (sym made-words) in
      let o : closed_to out₁ b₁ ≡ put_words start 0 (request_words byte0 cs') = k.output ∙ rw (q, p) made_bytes in
      let f : built_bytes (closed out₁ b₁).building (closed_to out₁ b₁) ≡ written made = rw (w, o) (words-front start (request_words byte0 cs') ∙ written_is byte0 cs') in
      rw (ap byte0_by p ∙ grown-byte b count)
      (record {
        bytes = f;
        accepted = rw f (read-written made made-fits);
        answer = rw (k.building, p) more-answer;
        kept = rw (w, o) (words-behind start (request_words byte0 cs'));
      })

pub stands : {start : List ℕ} {cs : List Command} {b : Building} {out : List ℕ} → Adding start cs b out → Stands start cs b out
stands {start} (begins kind tag wide discovery e) = stands-first start kind tag wide discovery e
stands (adds s asked payload l e) = stands-more (stands s) asked payload l e

-- not closed: 2 with nothing added, else 3 behind its words
open-read : {start : List ℕ} {cs : List Command} {b : Building} {out : List ℕ} → Stands start cs b out → built_bytes b out ≡ bytes_of (open_words (byte0_by b) cs)
open-read {start} {cs} {b} s = rw s.is (ap (λ (n : ℕ). take (4 * n) (put_words start 0 (open_words (byte0_by b) cs))) s.words ∙ words-front start (open_words (byte0_by b) cs))

pub open-is-refused : OpenIsRefused
open-is-refused start cs b out go =
    let s = stands go in
    rw (open-read s)
    (open-refused (byte0_by b) (tag-byte b s.tag) cs s.all (omega (arith, s.words, s.most)) ∙ ap (λ (n : ℕ). Refused (cond (none cs) (refusal 2) (refused_at 3 n))) (sym s.words))

-- closed: what is built is what is read
pub built-is-read : BuiltIsRead
built-is-read start cs b out (begins kind tag wide discovery e) z =
    let s = stands-first start kind tag wide discovery e in
    let k = passed.closes (length start) b (shuts start b z).fault in
    absurd (omega (arith, k.some.last, s.words, ap length (open_none (byte0_by b))))
built-is-read start cs b out (adds go asked payload l e) z =
    let t = took _ _ asked payload e in
    made_holds (stands go) asked payload l e b out t.building t.output z
