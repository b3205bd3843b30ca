-- A text written behind another is one text. The proofs of `text` cite this. Assumes nothing.
use Prim.Native.Nat.{ℕ, ◌≤◌}
use mathlib.Core.Path.{◌≡◌, ◌∙◌, subst}
use mathlib.Core.List.{List, ◌++◌, append_assoc}
use native.Mathlib.Omega.{arith}
use lib.ListN.{length, length-append}
use Rattle.word.proofs.Runs.{put-put}
use Rattle.night.specs.Text.{Wrote}

pub wrote_then : (l : List ℕ) (at : ℕ) (s t : List ℕ) {r r' : ℕ} {l' l'' : List ℕ} → r' ≤ length l → Wrote l at s r l' → Wrote l' r t r' l''
    → Wrote l at (s ++ t) r' l''
wrote_then l at s t {r} {r'} {l'} {l''} fits w v =
    let a = w.ends in
    let b = v.ends in
    record { ends = rw (length-append s t) (omega arith); text = v.text ∙ rw (w.text, a) (put-put l at s t (omega arith)) }

-- a number, a named number, a text
pub wrote-three : (l : List ℕ) (at : ℕ) (x s y z : List ℕ) {p q r : ℕ} {m n o : List ℕ} → r ≤ length l → Wrote l at x p m → Wrote m p (s ++ y) q n → Wrote n q z r o
    → Wrote l at (x ++ (s ++ (y ++ z))) r o
wrote-three l at x s y z {p} {q} {r} {m} {n} {o} fits u v w =
    let e : (x ++ (s ++ y)) ++ z ≡ x ++ (s ++ (y ++ z)) = simp append_assoc in
    subst (λ (t : List ℕ). Wrote l at t r o) e (wrote_then l at (x ++ (s ++ y)) z fits (wrote_then l at x (s ++ y) (omega (arith, w.ends)) u v) w)
