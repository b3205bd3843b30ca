-- A turn by its cases. The proofs of `serve`, `whole` and `play` cite these. Assumes nothing.
use Prim.Native.Nat.{ℕ, ◌+◌, ◌-◌, ◌/◌, ◌≤◌, ◌<◌}
use mathlib.Core.Path.{◌≡◌, ap, ◌∙◌}
use mathlib.Core.Bool.{Bool, true, false}
use mathlib.Core.List.{List}
use native.Mathlib.Omega.{arith}
use borrow.Author.Tests.{le-ltb, lt-ltb, eq-eqb, ne_eqb}
use lib.ListN.{length, take, drop, get_or, replicate}
use Rattle.word.specs.Words.{words_of}
use Rattle.word.proofs.Runs.{put-none}
use Rattle.header.specs.declared.refusal.Refusal.{Refusal}
use Rattle.header.specs.Limits.{limit_bytes}
use Rattle.header.specs.Refusal.{refusal}
use Rattle.std.proofs.Common.{Ok, Err}
use Rattle.completer.specs.Controller.{Controller, After, left}
use Rattle.completer.specs.Serving.{after}
use Rattle.completer.specs.Settling.{gave}
use Rattle.std.specs.Prelude.{◌≢◌}
use Rattle.night.specs.Text.{Sent, Refused, Short, line_of, text_of, Wrote}
use Rattle.night.specs.Night.{record_bytes, length_of, datagram_of, after_record, turned, whole_turn, turn_of, Left, leaves, left_by}

-- the length that a record starts with, over the limit and not
pub over-limit : (c : Controller) (o got : List ℕ) {n : ℕ} {r : Refusal} → n ≡ get_or (words_of got) 0 0 → limit_bytes < n → r ≡ refusal 2
    → left r 0 c o ≡ after_record c o got
unfolding after_record length_of
over-limit c o got {n} {r} e h q = rw (q, ← e, lt-ltb limit_bytes n h)

pub within-limit : (c : Controller) (o got : List ℕ) {n : ℕ} → n ≡ get_or (words_of got) 0 0 → n ≤ limit_bytes
    → after c o (take (4 + n - 4) (drop 4 got)) ≡ after_record c o got
unfolding after_record datagram_of length_of
within-limit c o got {n} e h =
    let k : 4 + n - 4 ≡ n = omega arith in
    rw (k, ← e, le-ltb limit_bytes n h)

-- a text in the line
pub wrote-left : (c : Controller) (more : Bool) (l s : List ℕ) {r : ℕ} {l' : List ℕ} → Wrote l 0 s r l' → leaves c more r l' ≡ left_by (turned c s more) l
unfolding left_by
wrote-left c more l s {r} {l'} w =
    let e : r ≡ length s = omega (arith, w.ends) in
    rw (e, w.text)

-- a whole record's line
module _ (c : Controller) (k : ℕ) (got l : List ℕ) {r : ℕ} {l' : List ℕ} where
  whole-left : {a : After} → a ≡ after_record c (replicate limit_bytes 0) got → Wrote l 0 (text_of k (line_of a.refusal (a.sent / 4))) r l'
      → leaves a.controller true r l' ≡ left_by (whole_turn c k got) l
  unfolding whole_turn
  whole-left {a} e w =
      wrote-left a.controller true l _ w
      ∙ ap (λ (b : After). left_by (turned b.controller (text_of k (line_of b.refusal (b.sent / 4))) true) l) e

  pub ok-left : {n : ℕ} {c' : Controller} {o' : List ℕ} → gave (Ok n) c' o' ≡ after_record c (replicate limit_bytes 0) got → Wrote l 0 (text_of k (Sent (n / 4))) r l'
      → leaves c' true r l' ≡ left_by (whole_turn c k got) l
  unfolding line_of
  ok-left {n} {c'} {o'} e w = whole-left e w

  pub err-left : {q : Refusal} {c' : Controller} {o' : List ℕ} → gave (Err q) c' o' ≡ after_record c (replicate limit_bytes 0) got → q.number ≢ 0 → Wrote l 0 (text_of k (Refused q)) r l'
      → leaves c' true r l' ≡ left_by (whole_turn c k got) l
  unfolding line_of
  err-left {q} {c'} {o'} e some w = whole-left e (rw (ne_eqb q.number 0 some) w)

-- nothing, a tail, a whole record
module _ (c : Controller) (k : ℕ) (got l : List ℕ) where
  pub nothing_left : length got ≡ 0 → leaves c false 0 l ≡ left_by (turn_of c k got) l
  unfolding turn_of left_by
  nothing_left e = rw (eq-eqb (length got) 0 e, put-none l 0)

  pub short-left : (length got ≡ 0 → ⊥) → length got < record_bytes → {r : ℕ} {l' : List ℕ} → Wrote l 0 (text_of k Short) r l'
      → leaves c false r l' ≡ left_by (turn_of c k got) l
  unfolding turn_of
  short-left some h w = rw (ne_eqb (length got) 0 some, lt-ltb (length got) record_bytes h) (wrote-left c false l (text_of k Short) w)

  pub whole-played : (length got ≡ 0 → ⊥) → record_bytes ≤ length got → {x : Left} → x ≡ left_by (whole_turn c k got) l → x ≡ left_by (turn_of c k got) l
  unfolding turn_of
  whole-played some h e = rw (ne_eqb (length got) 0 some, le-ltb (length got) record_bytes h) e
