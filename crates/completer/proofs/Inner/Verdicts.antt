-- What a verdict tells: of the record, of what is lent, and of the datagram. The proofs of `tags` and `serving` cite these.
-- Assumes nothing.
use Prim.Native.Nat.{ℕ, ◌+◌, ◌-◌, ◌*◌, ◌/◌, ◌%◌, ◌≤◌, ◌<◌}
use mathlib.Core.Path.{◌≡◌, refl, sym, ap, ◌∙◌}
use mathlib.Core.Bool.{Bool, true, false, cond, false≢true}
use mathlib.Core.List.{List, ◌++◌}
use native.Mathlib.Omega.{arith}
use native.Mathlib.Nat.{add-zero}
use borrow.Author.Tests.{leb-true}
use lib.Dec.{ltb, leb}
use lib.ListN.{length, take, drop, length-drop, take-append-drop}
use lib.Seq.{take-length, length-take-le}
use Rattle.word.specs.Words.{put}
use Rattle.word.proofs.Parts.{part-put}
use Rattle.header.specs.declared.refusal.Refusal.{Refusal}
use Rattle.header.specs.Limits.{limit, limit_bytes}
use Rattle.header.specs.Header.{tag_of}
use Rattle.header.specs.Refusal.{refusal}
use Rattle.message.specs.Request.{Request, Reading, Refused, Means}
use Rattle.message.specs.Walk.{read, request_of}
use Rattle.message.proofs.Laws.Back as message
use Rattle.carrying.specs.Answers.{words_to}
use Rattle.carrying.specs.Carry.{Carries}
use Rattle.carrying.proofs.Laws.Putting.{kept_on, kept_off}
use Rattle.tags.specs.declared.record.TagRecord.{TagRecord}
use Rattle.std.specs.Prelude.{Ok, Err, Option}
use Rattle.std.specs.Bool.{then_some}
use Rattle.tags.specs.declared.rule.Verdict.{Verdict}
use Rattle.tags.specs.declared.rule.Verdict.TheVariants.{New, Repeat, Discovery}
use Rattle.tags.specs.Record.{places, place_of, mark_of, most_memory, words_at, request_at, record_ok, kept_ok, record_by}
use Rattle.tags.specs.Rule.{Ruling, rule_of}
use Rattle.tags.proofs.Laws.Record.{Lengths, Again, held-lengths, kept-room, rule-again}
use Rattle.completer.specs.Controller.{Controller, lent, request_in, After}
use Rattle.completer.specs.Verdict.{lent_ok, judged, as_kept, held_to, verdict_by, verdict_of}
use Rattle.completer.specs.Serving.{answer_by, after_by, after}
use Rattle.completer.specs.declared.serving.Done.{Done}
use Rattle.completer.specs.declared.serving.Kept.{Kept}
use Rattle.completer.specs.Settling.{gave, record_with, SendsAgain, kept_by}

-- what is lent, where it is let by
lent-room : (memory output : ℕ) → lent_ok memory output ≡ true → limit_bytes ≤ output
unfolding lent_ok
lent-room memory output e = go (ltb memory 1) (ltb most_memory memory) e
  where
    go : (a b : Bool) → cond a false (cond b false (leb limit_bytes output)) ≡ true → limit_bytes ≤ output
    go true b q = absurd (false≢true q)
    go false true q = absurd (false≢true q)
    go false false q = leb-true limit_bytes output q

-- a verdict other than refusal 1 is that of the datagram, and all that is lent is right
abbrev pub one : Ruling
one = Err (refusal 1)

not-one : (a b : Bool) (j v : Ruling) → cond a (cond b j one) one ≡ v → (v ≡ one → ⊥) → (a ≡ true) × (b ≡ true) × (j ≡ v)
not-one true true j v e h = (refl, refl, e)
not-one true false j v e h = absurd (h (sym e))
not-one false b j v e h = absurd (h (sym e))

pub record LetBy (m s : ℕ) (kept : List ℕ) (o : ℕ) (tags : TagRecord) (dg : List ℕ) (v : Ruling) : Type 0 where
  pub stored : places * limit ≤ s
  pub room : places * limit_bytes ≤ length kept
  pub output : limit_bytes ≤ o
  pub good : record_ok tags ≡ true
  pub is : held_to kept tags dg (judged tags (read dg)) ≡ v

pub let_by : {m s : ℕ} {kept : List ℕ} {o : ℕ} {tags : TagRecord} {dg : List ℕ} {v : Ruling} → v ≡ verdict_by m s kept o tags dg → (v ≡ one → ⊥)
    → LetBy m s kept o tags dg v
unfolding verdict_by
let_by {m} {s} {kept} {o} {tags} {dg} {v} e h =
    let p = not-one (lent_ok m o) (kept_ok s (length kept) tags) (held_to kept tags dg (judged tags (read dg))) v (sym e) h in
    let k = kept-room s (length kept) tags p.1 in
    record { stored = k.stored; room = k.kept; output = lent-room m o p.0; good = k.good; is = p.2 }

-- holding a repeat to what is kept gives no new message and no discovery of what was none, and of a repeat that one
pub held-repeat : (kept : List ℕ) (tags : TagRecord) (dg : List ℕ) (v : Ruling) (tag : ℕ) → held_to kept tags dg v ≡ Ok (Repeat tag)
    → (v ≡ Ok (Repeat tag)) × (as_kept (request_in kept tags tag) dg ≡ true)
held-repeat kept tags dg (Err r) tag e = cc
held-repeat kept tags dg (Ok New) tag e = cc
held-repeat kept tags dg (Ok Discovery) tag e = cc
held-repeat kept tags dg (Ok (Repeat t)) tag e = go (as_kept (request_in kept tags t) dg) refl e
  where
    go : (b : Bool) → as_kept (request_in kept tags t) dg ≡ b → cond {A = Ruling} b (Ok (Repeat t)) (Err (refusal 12)) ≡ Ok (Repeat tag)
        → (◌≡◌ {A = Ruling} (Ok (Repeat t)) (Ok (Repeat tag))) × (as_kept (request_in kept tags tag) dg ≡ true)
    go true a q = let i : t ≡ tag = cc in (q, rw (← i) a)
    go false a q = cc

pub held_else : (kept : List ℕ) (tags : TagRecord) (dg : List ℕ) (v : Ruling) (w : Verdict) → held_to kept tags dg v ≡ Ok w → v ≡ Ok w
held_else kept tags dg (Err r) w e = e
held_else kept tags dg (Ok New) w e = e
held_else kept tags dg (Ok Discovery) w e = e
held_else kept tags dg (Ok (Repeat t)) w e = go (as_kept (request_in kept tags t) dg) e
  where
    go : (b : Bool) → cond {A = Ruling} b (Ok (Repeat t)) (Err (refusal 12)) ≡ Ok w → ◌≡◌ {A = Ruling} (Ok (Repeat t)) (Ok w)
    go true q = q
    go false q = cc

-- a message that is not refused was read
pub judged-read : (tags : TagRecord) (dg : List ℕ) (w : Verdict) → judged tags (read dg) ≡ Ok w → read dg ≡ Means (request_of dg)
judged-read tags dg w e = go (read dg) refl e
  where
    go : (p : Reading Request) → read dg ≡ p → judged tags p ≡ Ok w → read dg ≡ Means (request_of dg)
    go (Refused r) q e = cc
    go (Means r) q e = message.means-asked dg r q

pub record Carrying (m s : ℕ) (kept : List ℕ) (o : ℕ) (tags : TagRecord) (dg : List ℕ) : Type 0 where
  pub means : read dg ≡ Means (request_of dg)
  pub good : record_ok tags ≡ true
  pub stored : places * limit ≤ s
  pub room : places * limit_bytes ≤ length kept
  pub output : limit_bytes ≤ o

pub carrying : {m s : ℕ} {kept : List ℕ} {o : ℕ} {tags : TagRecord} {dg : List ℕ} (v : Verdict) → Ok v ≡ verdict_by m s kept o tags dg
    → Carrying m s kept o tags dg
carrying {kept = kept} {tags = tags} {dg} v e =
    let l = let_by e (λ z. cc) in
    record { means = judged-read tags dg v (held_else kept tags dg _ v l.is); good = l.good; stored = l.stored; room = l.room; output = l.output }

-- a repeat was read, its tag is held, and the lengths at its place are right
pub record Repeated (tags : TagRecord) (dg : List ℕ) (tag : ℕ) : Type 0 where
  pub request : Request
  pub reads : read dg ≡ Means request
  pub again : Again tags request.byte0 tag
  pub small : tag < 16
  pub lengths : Lengths (words_at tags tag) (request_at tags tag)

pub repeated : (tags : TagRecord) (dg : List ℕ) (tag : ℕ) → record_ok tags ≡ true → judged tags (read dg) ≡ Ok (Repeat tag) → Repeated tags dg tag
repeated tags dg tag ok e = go (read dg) refl e
  where
    go : (p : Reading Request) → read dg ≡ p → judged tags p ≡ Ok (Repeat tag) → Repeated tags dg tag
    go (Refused r) q f = cc
    go (Means r) q f =
        let a = rule-again tags r.byte0 tag f in
        let small : tag < 16 = omega (arith, a.is) in
        record { request = r; reads = q; again = a; small = small; lengths = held-lengths tags tag ok small a.held }

-- what is sent again is there, and there is room for it
pub record Fitting (s o : ℕ) (tags : TagRecord) (tag : ℕ) : Type 0 where
  pub most : words_at tags tag ≤ limit
  pub stored : limit * place_of tag + words_at tags tag ≤ s
  pub output : 4 * words_at tags tag ≤ o

pub again-fits : (m : ℕ) {s : ℕ} (kept : List ℕ) {o : ℕ} {tags : TagRecord} (dg : List ℕ) (tag : ℕ) → Ok (Repeat tag) ≡ verdict_by m s kept o tags dg → Fitting s o tags tag
again-fits m {s} kept {o} {tags} dg tag e =
    let l = let_by e (λ z. cc) in
    let r = (held-repeat kept tags dg (judged tags (read dg)) tag l.is).0 in
    let h = (repeated tags dg tag l.good r).lengths.words in
    record { most = h; stored = omega (arith, h, l.stored); output = omega (arith, h, l.output) }

-- a repeat is of a held tag, and the kept request of that tag
pub record RepeatIs (m s : ℕ) (kept : List ℕ) (o : ℕ) (tags : TagRecord) (dg : List ℕ) (tag : ℕ) : Type 0 where
  pub lent : LetBy m s kept o tags dg (Ok (Repeat tag))
  pub held : Repeated tags dg tag
  pub same : as_kept (request_in kept tags tag) dg ≡ true

pub repeat-is : (m s : ℕ) (kept : List ℕ) (o : ℕ) (tags : TagRecord) (dg : List ℕ) (tag : ℕ) → Ok (Repeat tag) ≡ verdict_by m s kept o tags dg → RepeatIs m s kept o tags dg tag
repeat-is m s kept o tags dg tag e =
    let l = let_by {m = m} {s = s} {kept = kept} {o = o} {tags = tags} {dg = dg} e (λ z. cc) in
    let r = held-repeat kept tags dg (judged tags (read dg)) tag l.is in
    record { lent = l; held = repeated tags dg tag l.good r.0; same = r.1 }

-- a place of the stored answers has room for any answer
pub place-room : (s : List ℕ) (place : ℕ) → place < places → places * limit ≤ length s → limit ≤ length (take (limit * place + limit - limit * place) (drop (limit * place) s))
place-room s place p h =
    let k : limit * place + limit - limit * place ≡ limit = omega arith in
    rw k (omega (arith, length-take-le limit (drop (limit * place) s) (simp length-drop (omega arith))))

-- a stored answer that is sent again
pub sent-again : {tags : TagRecord} {tag : ℕ} {d : Done} {o' : List ℕ} (s o m kept dg : List ℕ) → SendsAgain s o tags tag d o'
    → gave (Ok d.sent) (lent m s kept (record_with tags d.kept)) o' ≡ after_by (Ok (Repeat tag)) (lent m s kept tags) o dg
sent-again s o m kept dg x = rw (x.sent, x.kept, x.output)

-- the record after a message, by whether it is kept
pub kept-or : (tags : TagRecord) {tags' : TagRecord} {d : Option Kept} (keep : Bool) (k : Kept) → d ≡ then_some keep k → tags' ≡ record_with tags d
    → tags' ≡ record_by keep tags k.byte0 k.words k.request
kept-or tags true k e x = rw e at x
kept-or tags false k e x = rw e at x

-- a message that is carried out: the part of the stored answers that was lent is put back
pub acted : {n : ℕ} {tags' : TagRecord} {byte0 mark tag place at size : ℕ} {m o m' part o' s' kept' : List ℕ} (s kept dg : List ℕ) (tags : TagRecord) (keep : Bool)
    → byte0 ≡ (request_of dg).byte0 → mark ≡ mark_of tags → tag ≡ tag_of byte0 → place ≡ place_of tag → at ≡ limit * place → size ≡ limit → places * limit ≤ length s
    → n ≤ limit → Carries (request_of dg) mark keep m (take size (drop at s)) o n m' part o' → s' ≡ take at s ++ (part ++ drop size (drop at s))
    → kept' ≡ kept_by keep kept place dg → tags' ≡ record_by keep tags byte0 n (length dg / 4)
    → gave (Ok (4 * n)) (lent m' s' kept' tags') o' ≡ after_by (Ok (cond keep New Discovery)) (lent m s kept tags) o dg
unfolding answer_by
acted {n = n} {byte0 = byte0} {mark = mark} {tag = tag} {place = place} {at = at} {size = size} {m = m} {part = part} s kept dg tags true b k g p a z room few x back u t =
    let ws : List ℕ = words_to (request_of dg) mark m in
    let w : length ws ≤ limit = rw (← x.words) few in
    let whole : take at s ++ (part ++ drop size (drop at s)) ≡ put s at ws =
    ap (λ (y : List ℕ). take at s ++ (y ++ drop size (drop at s))) (x.puts.stored ∙ sym (kept_on true (take size (drop at s)) 0 ws refl))
    ∙ part-put s at size 0 ws (omega (arith, a, z, room, p)) (omega (arith, z, w))
    ∙ ap (λ (i : ℕ). put s i ws) (add-zero at) in
    rw (t, u, back, whole, x.memory, x.puts.output, x.words, a, p, g, k, b)
acted {at = at} {size = size} {part = part} s kept dg tags false b k g p a z room few x back u t =
    let same : take at s ++ (part ++ drop size (drop at s)) ≡ s =
    ap (λ (y : List ℕ). take at s ++ (y ++ drop size (drop at s))) (x.puts.stored ∙ sym (kept_off false (take size (drop at s)) 0 _ refl))
    ∙ ap (λ (y : List ℕ). take at s ++ y) (take-append-drop size (drop at s))
    ∙ take-append-drop at s in
    rw (t, u, back, same, x.memory, x.puts.output, x.words, k)

-- the call by its verdict
pub served-by : (c : Controller) (o dg : List ℕ) {v : Ruling} {a : After} → v ≡ verdict_of c o dg → a ≡ after_by v c o dg → a ≡ after c o dg
unfolding after
served-by c o dg e x = rw (← e) x

-- one that is carried out: a verdict that is no repeat, by whether it is new
pub other-verdict : (v : Verdict) → ((tag : ℕ) → v ≡ Repeat tag → ⊥) → (v ≡ New → ⊥) → Discovery ≡ v
other-verdict New a b = absurd (b refl)
other-verdict (Repeat tag) a b = absurd (a tag refl)
other-verdict Discovery a b = refl

pub served-carried : (c : Controller) (o dg : List ℕ) {v : Verdict} (keep : Bool) {a : After} → Ok v ≡ verdict_of c o dg → cond keep New Discovery ≡ v
    → a ≡ after_by (Ok (cond keep New Discovery)) c o dg → a ≡ after c o dg
served-carried c o dg keep e k x = served-by c o dg e (x ∙ ap (λ (v : Verdict). after_by (Ok v) c o dg) k)

-- the verdict on a datagram by what it reads as
pub judged-wrong : (tags : TagRecord) (dg : List ℕ) {r : Refusal} → read dg ≡ Refused r → Err r ≡ judged tags (read dg)
judged-wrong tags dg e = rw e

pub judged-means : (tags : TagRecord) (dg : List ℕ) {q : Request} {byte0 : ℕ} {v : Ruling} → read dg ≡ Means q → byte0 ≡ q.byte0 → v ≡ rule_of tags byte0 → v ≡ judged tags (read dg)
judged-means tags dg e b x = x ∙ rw (e, b)

-- a repeat goes by what is kept for its tag
module _ (kept : List ℕ) (tags : TagRecord) (dg : List ℕ) (tag : ℕ) where
  pub held_same : as_kept (request_in kept tags tag) dg ≡ true → Ok (Repeat tag) ≡ held_to kept tags dg (Ok (Repeat tag))
  held_same s = rw s

  pub held-differs : as_kept (request_in kept tags tag) dg ≡ false → Err (refusal 12) ≡ held_to kept tags dg (Ok (Repeat tag))
  held-differs s = rw s

-- the verdict is held as it was given
pub held-as : (kept : List ℕ) (tags : TagRecord) (dg : List ℕ) {u v w j : Ruling} → u ≡ j → u ≡ v → w ≡ held_to kept tags dg v → w ≡ held_to kept tags dg j
held-as kept tags dg e q x = x ∙ ap (held_to kept tags dg) (sym q ∙ e)

-- a datagram of whole words, kept at a place
pub kept_whole : {keep : Bool} (kept dg : List ℕ) (place size : ℕ) {part kept' : List ℕ} → keep ≡ true → length dg % 4 ≡ 0 → length dg ≤ size → limit_bytes * place + size ≡ length kept
    → part ≡ put (take size (drop (limit_bytes * place) kept)) 0 (take (4 * (length dg / 4)) dg)
    → kept' ≡ take (limit_bytes * place) kept ++ (part ++ drop size (drop (limit_bytes * place) kept)) → kept' ≡ kept_by keep kept place dg
kept_whole kept dg place size k w few room e back =
    let whole : 4 * (length dg / 4) ≡ length dg = omega arith in
    let at : ℕ = limit_bytes * place in
    let d : take (4 * (length dg / 4)) dg ≡ dg = rw whole (take-length dg) in
    back ∙ rw (k, e, d) (part-put kept at size 0 dg (omega arith) (omega arith) ∙ ap (λ (i : ℕ). put kept i dg) (add-zero at))
