-- "each byte of memory is that of the last OK write that enables it, else the old one": the promise `LastWrite`. Assumes nothing.
use Prim.Native.Nat.{ℕ, zero, suc, ◌+◌, ◌-◌, ◌/◌, ◌≤◌, ◌<◌}
use mathlib.Core.Path.{◌≡◌, refl, sym, ap, ◌∙◌}
use mathlib.Core.Bool.{Bool, true, false, cond, ◌&&◌, ◌||◌, false≢true}
use mathlib.Core.List.{List, [], ◌∷◌, ◌++◌}
use native.Mathlib.Omega.{arith}
use native.Mathlib.Nat.{add-zero}
use borrow.Author.Tests.{ne_eqb, ltb-true, ltb-false, leb-true, leb-false}
use lib.Dec.{ltb, leb, eqb, eqb-suc-suc}
use lib.ListN.{length, get_or, length-set}
use lib.Seq.{get_or-set_same, get_or-set_other}
use Rattle.word.specs.Enables.{byte_of, bit_of, merged}
use Rattle.word.proofs.Places.{merge-byte}
use Rattle.header.specs.declared.Kind.{Kind}
use Rattle.header.specs.declared.Kind.TheVariants.{Write}
use Rattle.header.specs.Header.{kind_of, first_field, last_field, data_words}
use Rattle.message.specs.Request.{Command, FitsCommand, All}
use Rattle.message.proofs.Laws.Pieces.{all_first, all_rest}
use Rattle.memory.specs.Moves.{fails, Store, stores_behind, stores, moves_of, moves, after_move, after_moves, memory_after}
use Rattle.memory.specs.Promises.{carried, enables_at, enables, any_enables, byte_at, LastWrite}
use Rattle.memory.proofs.Laws.Moving.{after-append, length-after, within}

-- the words behind a write's first: each word of memory outside stays, each inside is merged once
behind-other : (m : List ℕ) (at last : ℕ) (ws : List ℕ) (i : ℕ) → ((j : ℕ) → j < length ws → i ≡ at + j → ⊥)
    → get_or (after_moves m (stores_behind at last ws)) i 0 ≡ get_or m i 0
unfolding after_moves stores_behind
behind-other m at last [] i h = refl
behind-other m at last (w ∷ []) i h = get_or-set_other m at i (merged (get_or m at 0) w last) 0 (λ e. h 0 (omega arith) (omega arith))
behind-other m at last (w ∷ v ∷ ws) i h =
    behind-other (after_move m (Store at w 15)) (suc at) last (v ∷ ws) i (λ j l e. h (suc j) (omega arith) (omega arith))
    ∙ get_or-set_other m at i (merged (get_or m at 0) w 15) 0 (λ e. h 0 (omega arith) (omega arith))

behind-at : (m : List ℕ) (at last : ℕ) (ws : List ℕ) (j : ℕ) → j < length ws → at + length ws ≤ length m
    → get_or (after_moves m (stores_behind at last ws)) (at + j) 0 ≡ merged (get_or m (at + j) 0) (get_or ws j 0) (cond (eqb (suc j) (length ws)) last 15)
unfolding after_moves stores_behind
behind-at m at last [] j l h = absurd (omega arith)
behind-at m at last (w ∷ []) zero l h = rw (add-zero at) (get_or-set_same m at (merged (get_or m at 0) w last) 0 (omega arith))
behind-at m at last (w ∷ []) (suc j) l h = absurd (omega arith)
behind-at m at last (w ∷ v ∷ ws) zero l h =
    let e : eqb 1 (suc (suc (length ws))) ≡ false = ne_eqb 1 (suc (suc (length ws))) (λ q. omega arith) in
    rw (add-zero at, e) (behind-other (after_move m (Store at w 15)) (suc at) last (v ∷ ws) at (λ j l q. omega arith)
    ∙ get_or-set_same m at (merged (get_or m at 0) w 15) 0 (omega arith))
behind-at m at last (w ∷ v ∷ ws) (suc j) l h =
    let p : at + suc j ≡ suc at + j = omega arith in
    let e : eqb (suc (suc j)) (suc (length (v ∷ ws))) ≡ eqb (suc j) (length (v ∷ ws)) = eqb-suc-suc (suc j) (length (v ∷ ws)) in
    rw (p, e) (behind-at (after_move m (Store at w 15)) (suc at) last (v ∷ ws) j (omega arith) (simp length-set (omega arith))
    ∙ rw (get_or-set_other m at (suc at + j) (merged (get_or m at 0) w 15) 0 (λ q. omega arith)))

-- the same of a whole write
pub stores-other : (m : List ℕ) (at first last : ℕ) (ws : List ℕ) (i : ℕ) → ((j : ℕ) → j < length ws → i ≡ at + j → ⊥)
    → get_or (after_moves m (stores at first last ws)) i 0 ≡ get_or m i 0
unfolding after_moves stores
stores-other m at first last [] i h = refl
stores-other m at first last (w ∷ ws) i h =
    behind-other (after_move m (Store at w first)) (suc at) last ws i (λ j l e. h (suc j) (omega arith) (omega arith))
    ∙ get_or-set_other m at i (merged (get_or m at 0) w first) 0 (λ e. h 0 (omega arith) (omega arith))

stores_at : (m : List ℕ) (at first last : ℕ) (ws : List ℕ) (j : ℕ) → j < length ws → at + length ws ≤ length m
    → get_or (after_moves m (stores at first last ws)) (at + j) 0
    ≡ merged (get_or m (at + j) 0) (get_or ws j 0) (cond (eqb j 0) first (cond (eqb (suc j) (length ws)) last 15))
unfolding after_moves stores
stores_at m at first last [] j l h = absurd (omega arith)
stores_at m at first last (w ∷ ws) zero l h =
    rw (add-zero at) (behind-other (after_move m (Store at w first)) (suc at) last ws at (λ j l q. omega arith) ∙ get_or-set_same m at (merged (get_or m at 0) w first) 0 (omega arith))
stores_at m at first last (w ∷ ws) (suc j) l h =
    let p : at + suc j ≡ suc at + j = omega arith in
    let e : eqb (suc (suc j)) (suc (length ws)) ≡ eqb (suc j) (length ws) = eqb-suc-suc (suc j) (length ws) in
    let z : eqb (suc j) 0 ≡ false = ne_eqb (suc j) 0 (λ q. omega arith) in
    rw (p, e, z) (behind-at (after_move m (Store at w first)) (suc at) last ws j (omega arith) (simp length-set (omega arith))
    ∙ rw (get_or-set_other m at (suc at + j) (merged (get_or m at 0) w first) 0 (λ q. omega arith)))

all_three : (a b c : Bool) → a && b && c ≡ true → (a ≡ true) × (b ≡ true) × (c ≡ true)
all_three true true true e = (refl, refl, refl)
all_three true true false e = absurd (false≢true e)
all_three true false c e = absurd (false≢true e)
all_three false b c e = absurd (false≢true e)

-- one write, byte by byte
module _ (m : List ℕ) (c : Command) (i k : ℕ) (four : k < 4) (long : length c.payload ≡ c.count) (inside : c.address / 4 + c.count ≤ length m) where
  abbrev base : ℕ
  base = c.address / 4

  -- a word that it covers
  covered : base ≤ i → i < base + c.count
      → byte_at (after_moves m (moves_of Write c)) i k ≡ cond (bit_of k (enables_at c (i - base))) (byte_of k (get_or c.payload (i - base) 0)) (byte_at m i k)
  unfolding enables_at
  covered p q =
      let e : base + (i - base) ≡ i = omega arith in
      let s = stores_at m base (first_field c.byte1) (last_field c.byte1) c.payload (i - base) (omega arith) (omega arith) in
      ap (byte_of k) (rw (e, long) at s) ∙ merge-byte k (get_or m i 0) (get_or c.payload (i - base) 0) (enables_at c (i - base)) four

  enabled-byte : enables i k c ≡ true → byte_at (after_moves m (moves_of Write c)) i k ≡ byte_of k (get_or c.payload (i - base) 0)
  unfolding enables
  enabled-byte e =
      let t = all_three (leb base i) (ltb i (base + c.count)) (bit_of k (enables_at c (i - base))) e in
      covered (leb-true base i t.0) (ltb-true i (base + c.count) t.1) ∙ rw t.2

  other_byte : enables i k c ≡ false → byte_at (after_moves m (moves_of Write c)) i k ≡ byte_at m i k
  unfolding enables
  other_byte e = go (leb base i) (ltb i (base + c.count)) refl refl e
    where
      away : ((j : ℕ) → j < length c.payload → i ≡ base + j → ⊥) → byte_at (after_moves m (moves_of Write c)) i k ≡ byte_at m i k
      away h = ap (byte_of k) (stores-other m base (first_field c.byte1) (last_field c.byte1) c.payload i h)

      go : (a b : Bool) → leb base i ≡ a → ltb i (base + c.count) ≡ b → a && b && bit_of k (enables_at c (i - base)) ≡ false
          → byte_at (after_moves m (moves_of Write c)) i k ≡ byte_at m i k
      go true true p q e = covered (leb-true base i p) (ltb-true i (base + c.count) q) ∙ rw e
      go true false p q e = let n = ltb-false i (base + c.count) q in away (λ j l z. omega arith)
      go false b p q e = let n = leb-false base i p in away (λ j l z. omega arith)

either-off : (a b : Bool) → a || b ≡ false → (a ≡ false) × (b ≡ false)
either-off true b e = absurd (false≢true (sym e))
either-off false b e = (refl, e)

-- a command carried out before others
module _ (byte0 : ℕ) (write : kind_of byte0 ≡ Write) (i k : ℕ) (four : k < 4) where
  abbrev Fit : List Command → Type 0
  Fit = All (FitsCommand byte0)

  long : (c : Command) → FitsCommand byte0 c → length c.payload ≡ c.count
  long c f = f.long ∙ ap (λ (q : Kind). data_words q c.count) write

  old-byte : (m : List ℕ) (cs : List Command) → Fit cs → any_enables i k (carried Write (length m) cs) ≡ false
      → byte_at (after_moves m (moves Write (length m) cs)) i k ≡ byte_at m i k
  unfolding after_moves moves carried any_enables
  old-byte m [] f e = refl
  old-byte m (c ∷ cs) f e = go (fails Write (length m) c) refl e (λ m' g. old-byte m' cs (all_rest (FitsCommand byte0) c cs f) g)
    where
      go : (b : Bool) → fails Write (length m) c ≡ b → any_enables i k (cond b [] (c ∷ carried Write (length m) cs)) ≡ false
          → ((m' : List ℕ) → any_enables i k (carried Write (length m') cs) ≡ false → byte_at (after_moves m' (moves Write (length m') cs)) i k ≡ byte_at m' i k)
          → byte_at (after_moves m (cond b [] (moves_of Write c ++ moves Write (length m) cs))) i k ≡ byte_at m i k
      go true q e ih = refl
      go false q e ih =
          let m' : List ℕ = after_moves m (moves_of Write c) in
          let n : length m' ≡ length m = length-after m (moves_of Write c) in
          let o = either-off (enables i k c) (any_enables i k (carried Write (length m) cs)) e in
          let t = ih m' (rw n o.1) in
          ap (λ (l : List ℕ). byte_at l i k) (after-append m (moves_of Write c) (moves Write (length m) cs))
          ∙ (rw n at t)
          ∙ other_byte m c i k four (long c (all_first (FitsCommand byte0) c cs f)) (within (length m) c.address c.count q) o.0

  abbrev Given : Command → ℕ → Type 0
  Given c b = b ≡ byte_of k (get_or c.payload (i - c.address / 4) 0)

  last_byte : (m : List ℕ) (cs before : List Command) (c : Command) (after : List Command) → Fit cs → carried Write (length m) cs ≡ before ++ (c ∷ after)
      → enables i k c ≡ true → any_enables i k after ≡ false → Given c (byte_at (after_moves m (moves Write (length m) cs)) i k)
  unfolding after_moves moves carried
  last_byte m [] [] c after f e on off = let z : ◌≡◌ {A = ℕ} 0 1 = cc in absurd (omega arith)
  last_byte m [] (b ∷ before) c after f e on off = let z : ◌≡◌ {A = ℕ} 0 1 = cc in absurd (omega arith)
  last_byte m (d ∷ cs) before c after f e on off =
      go (fails Write (length m) d) before refl e (λ m' before' g. last_byte m' cs before' c after (all_rest (FitsCommand byte0) d cs f) g on off)
    where
      m' : List ℕ
      m' = after_moves m (moves_of Write d)

      kept : length m' ≡ length m
      kept = length-after m (moves_of Write d)

      go : (b : Bool) (before : List Command) → fails Write (length m) d ≡ b → cond b [] (d ∷ carried Write (length m) cs) ≡ before ++ (c ∷ after)
          → ((m' : List ℕ) (before' : List Command) → carried Write (length m') cs ≡ before' ++ (c ∷ after) → Given c (byte_at (after_moves m' (moves Write (length m') cs)) i k))
          → Given c (byte_at (after_moves m (cond b [] (moves_of Write d ++ moves Write (length m) cs))) i k)
      go true [] q e ih = let z : ◌≡◌ {A = ℕ} 0 1 = cc in absurd (omega arith)
      go true (b ∷ before) q e ih = let z : ◌≡◌ {A = ℕ} 0 1 = cc in absurd (omega arith)
      go false [] q e ih =
          let same : d ≡ c = cc in
          let rest : carried Write (length m) cs ≡ after = cc in
          let t = old-byte m' cs (all_rest (FitsCommand byte0) d cs f) (rw (kept, rest) off) in
          let u = enabled-byte m d i k four (long d (all_first (FitsCommand byte0) d cs f)) (within (length m) d.address d.count q) (rw same on) in
          ap (λ (l : List ℕ). byte_at l i k) (after-append m (moves_of Write d) (moves Write (length m) cs)) ∙ (rw kept at t) ∙ u
          ∙ ap (λ (x : Command). byte_of k (get_or x.payload (i - x.address / 4) 0)) same
      go false (b ∷ before) q e ih =
          let rest : carried Write (length m) cs ≡ before ++ (c ∷ after) = cc in
          let t = ih m' before (rw kept rest) in
          ap (λ (l : List ℕ). byte_at l i k) (after-append m (moves_of Write d) (moves Write (length m) cs)) ∙ (rw kept at t)

pub last-write : LastWrite
unfolding memory_after
last-write r memory f w =
    record {
      last = λ before c after i k h e on off. rw w (last_byte r.byte0 w i k h memory r.commands before c after f.asked.all e on off);
      old = λ i k h e. rw w (old-byte r.byte0 w i k h memory r.commands f.asked.all e);
    }
