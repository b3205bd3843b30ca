-- The walk by positions, as its loop goes. The proofs of `walk` cite these. Assumes nothing.
use Prim.Native.Nat.{ℕ, ◌+◌, ◌-◌, ◌*◌, ◌<◌, ◌≤◌}
use mathlib.Core.Path.{◌≡◌, refl, sym, ap, ◌∙◌}
use mathlib.Core.List.{List, ◌∷◌}
use mathlib.Core.Bool.{Bool, true, false, cond}
use native.Mathlib.Omega.{arith}
use native.Mathlib.Numerals.{add-one}
use borrow.Author.Tests.{eqb-true, ltb-true, ltb-false}
use lib.ListN.{length, get_or, drop, length-drop, drop_of_length-le}
use lib.Dec.{ltb, leb, eqb}
use lib.Seq.{drop-cons, drop-drop}
use Rattle.word.specs.Words.{words_of}
use Rattle.header.specs.declared.Kind.{Kind}
use Rattle.header.specs.declared.Kind.TheVariants.{Nop, Write, Read as Reads, Response}
use Rattle.header.specs.declared.Head.{Head}
use Rattle.header.specs.declared.refusal.Refusal.{Refusal}
use Rattle.header.specs.Limits.{limit, length_ok}
use Rattle.header.specs.Header.{kind_of, count_of, address_words, body_words, reply_words, head_of}
use Rattle.header.specs.Refusal.{refused_at, refusal}
use Rattle.header.proofs.Laws.Header.{reply-le}
use Rattle.header.proofs.Laws.Limits.{Right, right}
use Rattle.std.specs.Prelude.{Ok, Err, Result}
use Rattle.message.specs.Faults.{asks, is_write, fault_of}
use Rattle.message.specs.Walk.{step_on, command_of, turn, commands_from, step_at, ended, end_of, finish, read}
use Rattle.message.specs.Request.{Command, Request, Reading, Refused, Means, before, replies, given}
use Rattle.message.specs.Address.{address_from}
use Rattle.message.proofs.Laws.Faults.{sound, skipped, past}
use Rattle.message.proofs.Laws.Back.{ended_is}

-- a step whose words behind it read the same
turn-same : (s : Result Head Refusal) (c : Command) (f g : ℕ → Reading (List Command)) → ((n : ℕ) → f n ≡ g n) → turn s c f ≡ turn s c g
turn-same (Err r) c f g h = refl
turn-same (Ok d) c f g h = rw (h d.body)

-- a step by its position
pub unrolled : (byte0 : ℕ) (ws : List ℕ) (at : ℕ)
    → commands_from byte0 at 0 (drop at ws) ≡ turn (step_at byte0 ws at) (command_of byte0 (get_or ws at 0) (drop (at + 1) ws)) (λ n. commands_from byte0 (at + 1 + n) 0 (drop (at + 1 + n) ws))
unfolding step_at commands_from
unrolled byte0 ws at = go (ltb at (length ws)) refl
  where
    address : ℕ
    address = address_from (address_words byte0) (drop (at + 1) ws)

    go : (b : Bool) → ltb at (length ws) ≡ b
        → commands_from byte0 at 0 (drop at ws)
        ≡ turn (cond b (step_on byte0 at (get_or ws at 0) (length ws - at - 1) address) (Err (refused_at 3 at))) (command_of byte0 (get_or ws at 0) (drop (at + 1) ws)) (λ n. commands_from byte0 (at + 1 + n) 0 (drop (at + 1 + n) ws))
    go false z = rw (drop_of_length-le ws (ltb-false at (length ws) z))
    go true z =
        let l = ltb-true at (length ws) z in
        let e1 : drop at ws ≡ get_or ws at 0 ∷ drop (at + 1) ws = rw add-one (drop-cons ws at 0 l) in
        let e2 : length (drop (at + 1) ws) ≡ length ws - at - 1 = length-drop (at + 1) ws ∙ omega arith in
        rw (e1, e2)
        (turn-same (step_on byte0 at (get_or ws at 0) (length ws - at - 1) address) _ _ _ (λ n. skipped byte0 (at + 1 + n) n (drop (at + 1) ws) ∙ ap (commands_from byte0 (at + 1 + n) 0) (drop-drop n (at + 1) ws)))

-- a header that was read, at its position
pub record Got (byte0 : ℕ) (ws : List ℕ) (at : ℕ) (d : Head) : Type 0 where
  pub here : at < length ws
  pub within : at + 1 + d.body ≤ length ws
  pub counted : d.count ≡ count_of (get_or ws at 0)
  pub asking : asks (kind_of byte0) ≡ true

pub got : (byte0 : ℕ) (ws : List ℕ) (at : ℕ) (d : Head) → step_at byte0 ws at ≡ Ok d → Got byte0 ws at d
unfolding step_at step_on head_of
got byte0 ws at d e = go (ltb at (length ws)) refl (eqb fault 0) refl e
  where
    fault : ℕ
    fault = fault_of byte0 (get_or ws at 0) (length ws - at - 1) (address_from (address_words byte0) (drop (at + 1) ws))

    go : (a : Bool) → ltb at (length ws) ≡ a → (b : Bool) → eqb fault 0 ≡ b
        → cond a (cond b (Ok (head_of byte0 (get_or ws at 0))) (Err (refused_at fault at))) (Err (refused_at 3 at)) ≡ Ok d
        → Got byte0 ws at d
    go false z b y e = cc
    go true z false y e = cc
    go true z true y e =
        let l = ltb-true at (length ws) z in
        let s = sound byte0 (get_or ws at 0) (length ws - at - 1) _ (eqb-true _ _ y) in
        let is : head_of byte0 (get_or ws at 0) ≡ d = cc in
        let b : d.body ≡ body_words byte0 (count_of (get_or ws at 0)) = ap (λ (x : Head). x.body) (sym is) in
        record { here = l; within = omega (arith, s.within); counted = ap (λ (x : Head). x.count) (sym is); asking = s.asking }

finish-before : (byte0 answer : ℕ) (c : Command) (p : Reading (List Command))
    → finish byte0 answer (before c p) ≡ finish byte0 (answer + 1 + reply_words (kind_of byte0) c.count) p
unfolding finish replies
finish-before byte0 answer c (Refused r) = refl
finish-before byte0 answer c (Means cs) =
    let e : answer + (1 + reply_words (kind_of byte0) c.count + replies byte0 cs) ≡ answer + 1 + reply_words (kind_of byte0) c.count + replies byte0 cs = omega arith in
    rw e

-- what a request adds to the answer beside its header
pub reply-by : (kind : Kind) (count : ℕ) → asks kind ≡ true → cond (is_write kind) 0 count ≡ reply_words kind count
reply-by Nop count e = refl
reply-by Write count e = refl
reply-by Reads count e = refl
reply-by Response count e = cc

-- the walk stands before word `at`, with so many words answered
pub record Going (byte0 : ℕ) (ws : List ℕ) (at answer : ℕ) : Type 0 where
  pub most : length ws ≤ limit
  pub within : at ≤ length ws
  pub small : answer ≤ 4096 * at
  pub same : finish byte0 answer (commands_from byte0 at 0 (drop at ws)) ≡ finish byte0 0 (commands_from byte0 0 0 ws)

pub going-starts : (byte0 : ℕ) (ws : List ℕ) → length ws ≤ limit → Going byte0 ws 0 0
going-starts byte0 ws h = record { most = h; within = omega arith; small = omega arith; same = refl }

module _ {byte0 : ℕ} {ws : List ℕ} {at answer : ℕ} (g : Going byte0 ws at answer) where
  -- the whole, one step on
  on : finish byte0 answer (turn (step_at byte0 ws at) (command_of byte0 (get_or ws at 0) (drop (at + 1) ws)) (λ n. commands_from byte0 (at + 1 + n) 0 (drop (at + 1 + n) ws)))
      ≡ finish byte0 0 (commands_from byte0 0 0 ws)
  on = ap (finish byte0 answer) (sym (unrolled byte0 ws at)) ∙ g.same

  pub going-refused : (r : Refusal) → step_at byte0 ws at ≡ Err r → Err r ≡ finish byte0 0 (commands_from byte0 0 0 ws)
  unfolding finish
  going-refused r e = rw e at on

  module _ (d : Head) (e : step_at byte0 ws at ≡ Ok d) where
    abbrev reply : ℕ
    reply = reply_words (kind_of byte0) d.count

    count-is : reply_words (kind_of byte0) (command_of byte0 (get_or ws at 0) (drop (at + 1) ws)).count ≡ reply
    unfolding command_of
    count-is = rw (got byte0 ws at d e).counted

    pub going-last : d.last ≡ true → end_of byte0 (answer + 1 + reply) ≡ finish byte0 0 (commands_from byte0 0 0 ws)
    unfolding finish replies
    going-last l =
        let q : answer + (1 + reply_words (kind_of byte0) (command_of byte0 (get_or ws at 0) (drop (at + 1) ws)).count + 0) ≡ answer + 1 + reply = omega (arith, count-is) in
        rw (← q) (rw (e, l) at on)

    pub going-small : answer + 1 + reply ≤ 4096 * (at + 1)
    going-small = omega (arith, reply-le (kind_of byte0) d.count, (got byte0 ws at d e).counted, g.small)

    pub going_on : d.last ≡ false → Going byte0 ws (at + (1 + d.body)) (answer + 1 + reply)
    going_on l =
        let next : at + (1 + d.body) ≡ at + 1 + d.body = omega arith in
        record {
          most = g.most;
          within = omega (arith, (got byte0 ws at d e).within);
          small = omega (arith, going-small);
          same = rw (← count-is, next) (sym (finish-before byte0 answer _ _) ∙ rw (e, l) at on);
        }

    pub going_less : length ws - (at + (1 + d.body)) < length ws - at
    going_less = omega (arith, (got byte0 ws at d e).here)

-- byte 0 of a request
abbrev pub first : Request → ℕ
first r = r.byte0

-- what the walk tells is what the datagram reads as
pub walked-ended : (byte0 : ℕ) (p : Reading (List Command)) → finish byte0 0 p ≡ given first (ended byte0 p)
unfolding ended finish end_of
walked-ended byte0 (Refused r) = refl
walked-ended byte0 (Means cs) =
    let z : 0 + replies byte0 cs ≡ replies byte0 cs = omega arith in
    rw z (go (leb (replies byte0 cs) limit))
  where
    go : (b : Bool) → ◌≡◌ {A = Result ℕ Refusal} (cond b (Ok byte0) (Err (refusal 10))) (given first (cond {A = Reading Request} b (Means (record { byte0 = byte0; commands = cs })) (Refused (refusal 10))))
    go true = refl
    go false = refl

-- the whole walk, by the datagram's length
pub walk-long : (dg : List ℕ) → length_ok (length dg) ≡ false → Err (refusal 2) ≡ given first (read dg)
unfolding read
walk-long dg e = rw e

pub walk-whole : (dg : List ℕ) (byte0 : ℕ) → length_ok (length dg) ≡ true → byte0 ≡ get_or dg 0 0 → finish byte0 0 (commands_from byte0 0 0 (words_of dg)) ≡ given first (read dg)
unfolding read
walk-whole dg byte0 l e = rw (l, e) (walked-ended (get_or dg 0 0) (commands_from (get_or dg 0 0) 0 0 (words_of dg)))

-- what a walk that lets by means, and one that refuses
pub record Meant (dg : List ℕ) (byte0 : ℕ) : Type 0 where
  pub meaning : Request
  pub is : read dg ≡ Means meaning
  pub first : byte0 ≡ meaning.byte0

pub walk-means : (dg : List ℕ) (byte0 : ℕ) → given first (read dg) ≡ Ok byte0 → Meant dg byte0
walk-means dg byte0 e = go (read dg) refl e
  where
    go : (p : Reading Request) → read dg ≡ p → given first p ≡ Ok byte0 → Meant dg byte0
    go (Refused r) z x = cc
    go (Means r) z x = record { meaning = r; is = z; first = cc }

pub walk-wrong : (dg : List ℕ) (r : Refusal) → given first (read dg) ≡ Err r → read dg ≡ Refused r
walk-wrong dg r e = go (read dg) refl e
  where
    go : (p : Reading Request) → read dg ≡ p → given first p ≡ Err r → read dg ≡ Refused r
    go (Refused q) z x = let n : q ≡ r = cc in z ∙ ap Refused n
    go (Means m) z x = cc

-- an accepted datagram has a right length, and its first byte is the request's byte 0
pub read_first : (dg : List ℕ) (r : Request) → read dg ≡ Means r → Right (length dg) × (get_or dg 0 0 ≡ r.byte0)
unfolding read
read_first dg r m =
    let p = past (length_ok (length dg)) _ _ m in
    (right (length dg) p.0, sym (ended_is (get_or dg 0 0) (commands_from (get_or dg 0 0) 0 0 (words_of dg)) r p.1).0)
