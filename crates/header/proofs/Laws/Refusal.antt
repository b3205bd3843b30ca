-- Refusals and chains of checks, passed one by one. The laws of requests and answers cite these. Assumes nothing.
use Prim.Native.Nat.{ℕ, ◌+◌, ◌<◌, ◌≤◌}
use mathlib.Core.Path.{◌≡◌, refl, ap, subst}
use mathlib.Core.Bool.{Bool, true, false, cond}
use native.Mathlib.Nat.{add-zero}
use native.Mathlib.Omega.{arith}
use Rattle.header.specs.declared.refusal.Refusal.{Refusal}
use lib.Dec.{eqb}
use borrow.Author.Tests.{eqb-true, eqb-false}
use Rattle.std.specs.Prelude.{Result, Ok, Err, ⊤}
use Rattle.header.specs.Refusal.{refused_at, unless, result_of}

-- a check that found no fault
pub passed : (ok : Bool) (n x : ℕ) → 0 < n → unless ok n x ≡ 0 → (ok ≡ true) × (x ≡ 0)
passed true n x h e = (refl, e)
passed false n x h e = absurd (omega arith)

-- no fault, or one whose number lies between two
abbrev pub Between : ℕ → ℕ → ℕ → Type 0
Between low high n = (n ≡ 0 → ⊥) → (low ≤ n) × (n ≤ high)

pub unless-between : (low high : ℕ) (ok : Bool) (n x : ℕ) → low ≤ n → n ≤ high → Between low high x → Between low high (unless ok n x)
unless-between low high true n x h k b = b
unless-between low high false n x h k b = λ z. (h, k)

-- a refusal from word `at` on: a fault between two numbers, `on` words further
pub record Further (low high : ℕ) (After : ℕ → ℕ → Type 0) (at : ℕ) (r : Refusal) : Type 0 where
  pub least : low ≤ r.number
  pub most : r.number ≤ high
  pub on : ℕ
  pub after : After r.number on
  pub place : at + on ≡ r.at

-- at that word itself; behind k words more; and, from word 0 on, at its own index
pub further-here : {low high : ℕ} {After : ℕ → ℕ → Type 0} (n at : ℕ) → low ≤ n → n ≤ high → After n 0 → Further low high After at (refused_at n at)
further-here n at h k a = record { least = h; most = k; on = 0; after = a; place = add-zero at }

pub further-on : {low high : ℕ} {Behind After : ℕ → ℕ → Type 0} {r : Refusal} (at k next : ℕ) → next ≡ at + k → ((n on : ℕ) → Behind n on → After n (k + on))
    → Further low high Behind next r → Further low high After at r
further-on {r = r} at k next e more f =
    record { least = f.least; most = f.most; on = k + f.on; after = more r.number f.on f.after; place = omega (arith, e, f.place) }

pub further-at : {low high : ℕ} {After : ℕ → ℕ → Type 0} (n at : ℕ) → Further low high After 0 (refused_at n at) → After n at
further-at {After = After} n at f = let place : f.on ≡ at = omega (arith, f.place) in subst (After n) place f.after

-- a refusal's number and its index
pub number_is : {q r : Refusal} → q ≡ r → q.number ≡ r.number
number_is e = ap (λ (x : Refusal). x.number) e

pub at-is : {q r : Refusal} → q ≡ r → q.at ≡ r.at
at-is e = ap (λ (x : Refusal). x.at) e

-- what a function gave back tells of its refusal and its value
pub ok_of : {A : Type 0} {x : A} (r : Refusal) (a : A) → Ok x ≡ result_of r a → (r.number ≡ 0) × (x ≡ a)
ok_of {A} {x} r a h = go (eqb r.number 0) refl h
  where
    go : (t : Bool) → eqb r.number 0 ≡ t → Ok x ≡ cond t (Ok a) (Err r) → (r.number ≡ 0) × (x ≡ a)
    go true e h = (eqb-true _ _ e, cc)
    go false e h = absurd (cc)

pub err_of : {A : Type 0} {e : Refusal} (r : Refusal) (a : A) → Err e ≡ result_of r a → (e ≡ r) × (r.number ≡ 0 → ⊥)
err_of {A} {e} r a h = go (eqb r.number 0) refl h
  where
    go : (t : Bool) → eqb r.number 0 ≡ t → Err e ≡ cond t (Ok a) (Err r) → (e ≡ r) × (r.number ≡ 0 → ⊥)
    go true z h = absurd (cc)
    go false z h = (cc, eqb-false _ _ z)

-- what a check let by or refused
pub check-passed : (ok : Bool) (r : Refusal) {u : ⊤} → ◌≡◌ {A = Result ⊤ Refusal} (Ok u) (cond ok (Ok tt) (Err r)) → ok ≡ true
check-passed true r e = refl
check-passed false r e = cc

pub check-failed : (ok : Bool) (r : Refusal) {q : Refusal} → ◌≡◌ {A = Result ⊤ Refusal} (Err q) (cond ok (Ok tt) (Err r)) → ok ≡ false
check-failed true r e = cc
check-failed false r e = refl
