-- Words put in the output and the stored words together: none, one, and a run behind a run. The proofs of `answers` and `carrying`
-- cite these. Assumes nothing.
use Prim.Native.Nat.{ℕ, ◌+◌, ◌*◌, ◌≤◌, ◌<◌}
use mathlib.Core.Path.{◌≡◌, refl, sym, ◌∙◌}
use mathlib.Core.Bool.{Bool, true, false, cond}
use mathlib.Core.List.{List, [], ◌∷◌, ◌++◌}
use native.Mathlib.Omega.{arith}
use lib.ListN.{length, get_or, set, length-append}
use Rattle.word.specs.Words.{put}
use Rattle.word.proofs.Runs.{put-none, put_one, put-put, words-none, words-words, length-put, length-words}
use Rattle.carrying.specs.declared.putting.Answer.{Answer}
use Rattle.carrying.specs.Putting.{kept_in, Puts, Adds, RoomFor}

module _ (keep : Bool) (s : List ℕ) (n : ℕ) where
  pub kept_off : (ws : List ℕ) → keep ≡ false → s ≡ kept_in keep s n ws
  unfolding kept_in
  kept_off ws e = rw e

  pub kept_on : (ws : List ℕ) → keep ≡ true → put s n ws ≡ kept_in keep s n ws
  unfolding kept_in
  kept_on ws e = rw e

  pub kept-one : (w : ℕ) → keep ≡ true → n < length s → set s n w ≡ kept_in keep s n (w ∷ [])
  kept-one w e h = put_one s n w h ∙ kept_on (w ∷ []) e

  pub length-kept : (ws : List ℕ) → n + length ws ≤ length s → length (kept_in keep s n ws) ≡ length s
  unfolding kept_in
  length-kept ws h = go keep
    where
      go : (b : Bool) → length (cond b (put s n ws) s) ≡ length s
      go true = length-put s n ws h
      go false = refl

  kept-none : s ≡ kept_in keep s n []
  unfolding kept_in
  kept-none = go keep
    where
      go : (b : Bool) → s ≡ cond b (put s n []) s
      go true = sym (put-none s n)
      go false = refl

  kept-kept : (ws vs : List ℕ) → n + length ws + length vs ≤ length s → kept_in keep (kept_in keep s n ws) (n + length ws) vs ≡ kept_in keep s n (ws ++ vs)
  unfolding kept_in
  kept-kept ws vs h = go keep
    where
      go : (b : Bool) → cond b (put (cond b (put s n ws) s) (n + length ws) vs) (cond b (put s n ws) s) ≡ cond b (put s n (ws ++ vs)) s
      go true = put-put s n ws vs h
      go false = refl

pub puts_none : (keep : Bool) (n : ℕ) (s o : List ℕ) → Puts keep n [] s o s o
puts_none keep n s o = record { stored = kept-none keep s n; output = sym (words-none o n) }

-- words behind words are one run
pub puts-more : {keep : Bool} {n k : ℕ} {ws vs s o s₁ o₁ s' o' : List ℕ} → Puts keep n ws s o s₁ o₁ → Puts keep k vs s₁ o₁ s' o' → k ≡ n + length ws
    → n + length ws + length vs ≤ length s → 4 * (n + length ws + length vs) ≤ length o → Puts keep n (ws ++ vs) s o s' o'
puts-more {keep} {n} {k} {ws} {vs} {s} {o} p q e hs ho =
    record {
      stored = q.stored ∙ rw (p.stored, e) (kept-kept keep s n ws vs hs);
      output = q.output ∙ rw (p.output, e) (words-words o n ws vs ho);
    }

-- an answer that grows keeps its buffers' lengths, and so the room for what comes behind
pub adds-room : {ws : List ℕ} {a b : Answer} (n : ℕ) → Adds ws a b → RoomFor (length ws + n) a → RoomFor n b
adds-room {ws} {a} n x r =
    let s = length-kept a.keep a.stored.now a.words ws (omega arith) in
    let o = length-words a.output.now a.words ws (omega arith) in
    record { few = omega arith; stored = rw x.puts.stored (omega (arith, s)); output = rw x.puts.output (omega (arith, o)) }

pub adds_none : (a : Answer) → Adds [] a a
adds_none a = record { stored = refl; output = refl; keep = refl; words = omega arith; puts = puts_none a.keep a.words a.stored.now a.output.now }

pub adds-more : {ws vs : List ℕ} {a b c : Answer} → Adds ws a b → Adds vs b c → RoomFor (length ws + length vs) a → Adds (ws ++ vs) a c
adds-more {ws} {vs} {a} x y r =
    record {
      stored = y.stored ∙ x.stored;
      output = y.output ∙ x.output;
      keep = y.keep ∙ x.keep;
      words = rw (length-append ws vs) (omega arith);
      puts = puts-more x.puts (rw x.keep at y.puts) x.words (omega arith) (omega arith);
    }

-- a run of one word is its first word
pub puts-single : {keep : Bool} {n : ℕ} {s o s' o' : List ℕ} (ws : List ℕ) → length ws ≡ 1 → Puts keep n (get_or ws 0 0 ∷ []) s o s' o' → Puts keep n ws s o s' o'
puts-single [] h p = absurd (omega (arith, h))
puts-single (w ∷ []) h p = p
puts-single (w ∷ v ∷ ws) h p = absurd (omega (arith, h))
