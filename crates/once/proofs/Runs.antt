-- Runs of events, and how many rounds it takes: nothing here knows what a state or an event is. Cited by Promise.antt.
-- Assumes nothing.
use Prim.Native.Nat.{ℕ, zero, suc, ◌+◌, ◌*◌, ◌-◌, ◌≤◌, ◌<◌}
use mathlib.Core.Path.{◌≡◌, refl, ap}
use mathlib.Core.Logic.{◌⊎◌, inl, inr, ⊎_elim}
use mathlib.Core.List.{List, [], ◌∷◌, ◌++◌, append-nil}
use native.Mathlib.Omega.{arith}
use native.Mathlib.Numerals.{unary_clauses}
use native.Mathlib.Nat.{not-suc-le-zero}
use lib.ListN.{length, get_or, take}
use lib.Seq.{take-length}
use Rattle.once.specs.Runs.{run, Always, rounds, before, Often}

module _ {X Y : Type 0} (step : X → Y → X) where
  -- a run of two parts is the run of the second after the first
  pub run-append : (w : X) (xs ys : List Y) → run step w (xs ++ ys) ≡ run step (run step w xs) ys
  run-append w [] ys = refl
  run-append w (e ∷ xs) ys = run-append (step w e) xs ys

  module _ (Allowed : X → Y → Type 0) where
    -- a run is allowed exactly if its two parts are
    pub always-append : (w : X) (xs ys : List Y) → Always step Allowed w (xs ++ ys) → Always step Allowed w xs × Always step Allowed (run step w xs) ys
    always-append w [] ys a = (tt, a)
    always-append w (e ∷ xs) ys a = let r = always-append (step w e) xs ys a.1 in ((a.0, r.0), r.1)

    pub always-join : (w : X) (xs ys : List Y) → Always step Allowed w xs → Always step Allowed (run step w xs) ys → Always step Allowed w (xs ++ ys)
    always-join w [] ys a b = b
    always-join w (e ∷ xs) ys a b = (a.0, always-join (step w e) xs ys a.1 b)

    -- what each allowed event keeps, an allowed run keeps
    pub always-keeps : (I : X → Type 0) → ((w : X) (e : Y) → I w → Allowed w e → I (step w e)) → (w : X) (es : List Y) → I w → Always step Allowed w es → I (run step w es)
    always-keeps I keeps w [] v a = v
    always-keeps I keeps w (e ∷ es) v a = always-keeps I keeps (step w e) es (keeps w e v a.0) a.1

-- F never falls from one number below m to the next; then it never falls up to m.
climbs : (F : ℕ → ℕ) (m : ℕ) → ((j : ℕ) → j < m → F j ≤ F (suc j)) → (d i : ℕ) → i + d ≤ m → F i ≤ F (i + d)
climbs F m up zero i h = simp unary_clauses (omega arith)
climbs F m up (suc d) i h = simp unary_clauses (omega (arith, climbs F m up d i (omega arith), up (i + d) (omega arith)))

climbs-to : (F : ℕ → ℕ) (m : ℕ) → ((j : ℕ) → j < m → F j ≤ F (suc j)) → (i b : ℕ) → i ≤ b → b ≤ m → F i ≤ F b
climbs-to F m up i b h l =
    let e : i + (b - i) ≡ b = omega arith in
    rw e at (climbs F m up (b - i) i (omega arith))

-- If it rises within any L in a row until it reaches K, it reaches n ≤ K within n times L.
counts : (F : ℕ → ℕ) (m L K : ℕ) → ((j : ℕ) → j < m → F j ≤ F (suc j)) →
    ((i : ℕ) → i + L ≤ m → ((j : ℕ) × (i ≤ j) × (j < i + L) × (F j < F (suc j))) ⊎ (K ≤ F (i + L))) → (n : ℕ) → n ≤ K → n * L ≤ m → n ≤ F (n * L)
counts F m L K up often zero b h = omega arith
counts F m L K up often (suc n) b h =
    let e : n * L + L ≡ suc n * L = omega arith in
    let ih = counts F m L K up often n (omega arith) (omega arith) in
    rw (← e) (⊎_elim (rise ih) (λ q. omega arith) (often (n * L) (omega arith)))
  where
    rise : n ≤ F (n * L) → (j : ℕ) × (n * L ≤ j) × (j < n * L + L) × (F j < F (suc j)) → suc n ≤ F (n * L + L)
    rise ih p =
        let l = p.2 in
        let r = p.3 in
        let below = climbs-to F m up (n * L) p.0 p.1 (omega arith) in
        let above = climbs-to F m up (suc p.0) (n * L + L) (omega arith) (omega arith) in
        omega arith

-- Events that keep I, rounds that raise `done` if they are good, and no event that lowers it.
module _ {X Y : Type 0} (step : X → Y → X) (send : Y) (Allowed : X → Y → Type 0) (Good : X → List Y → Type 0) (I : X → Type 0) (done : X → ℕ)
    (keeps : (w : X) (e : Y) → I w → Allowed w e → I (step w e)) (up : (w : X) (es : List Y) → done w ≤ done (run step w es))
    (good : (w : X) (r : List Y) → I w → Always step Allowed w (send ∷ r) → Good w r → done w < done (run step w (send ∷ r))) where
  -- round j of an allowed run of rounds
  record Round (w : X) (rs : List (List Y)) (j : ℕ) : Type 0 where
    inv : I (before step send w rs j)
    allowed : Always step Allowed (before step send w rs j) (send ∷ get_or rs j [])
    next : before step send w rs (suc j) ≡ run step (before step send w rs j) (send ∷ get_or rs j [])

  round : (w : X) (rs : List (List Y)) (j : ℕ) → j < length rs → I w → Always step Allowed w (rounds step send rs) → Round w rs j
  round w [] j h v a = absurd (not-suc-le-zero h)
  round w (r ∷ rs) zero h v a = record { inv = v; allowed = (always-append step Allowed w (send ∷ r) (rounds step send rs) a).0; next = rw append-nil }
  round w (r ∷ rs) (suc j) h v a =
      let p = always-append step Allowed w (send ∷ r) (rounds step send rs) a in
      let t = round (run step w (send ∷ r)) rs j (omega arith) (always-keeps step Allowed I keeps w (send ∷ r) v p.0) p.1 in
      record {
        inv = rw run-append t.inv;
        allowed = rw run-append t.allowed;
        next = rw (run-append step w (send ∷ r) (rounds step send (take (suc j) rs)), run-append step w (send ∷ r) (rounds step send (take j rs))) t.next;
      }

  -- If of any L rounds in a row one is good until K are done, K are done after K times L rounds.
  pub rounds-do : (w : X) (rs : List (List Y)) (K L : ℕ) → I w → Always step Allowed w (rounds step send rs) →
      Often step send Good (λ x. K ≤ done x) L w rs → K * L ≤ length rs → K ≤ done (run step w (rounds step send rs))
  rounds-do w rs K L v a often h =
      omega (
        arith,
        counts F (length rs) L K rises raises K (omega arith) h,
        climbs-to F (length rs) rises (K * L) (length rs) h (omega arith),
        ap (λ l. done (run step w (rounds step send l))) (take-length rs),
      )
    where
      F : ℕ → ℕ
      F j = done (before step send w rs j)

      rises : (j : ℕ) → j < length rs → F j ≤ F (suc j)
      rises j l = let t = round w rs j l v a in rw t.next (up (before step send w rs j) (send ∷ get_or rs j []))

      raises : (i : ℕ) → i + L ≤ length rs → ((j : ℕ) × (i ≤ j) × (j < i + L) × (F j < F (suc j))) ⊎ (K ≤ F (i + L))
      raises i l =
          ⊎_elim
          (λ g.
          let m = g.2 in
          let t = round w rs g.0 (omega arith) v a in
          inl (g.0, g.1, g.2, rw t.next (good (before step send w rs g.0) (get_or rs g.0 []) t.inv t.allowed g.3)))
          (λ o. inr o)
          (often i l)
