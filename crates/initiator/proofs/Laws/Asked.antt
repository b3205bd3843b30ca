-- 31, clause by clause. The proofs of `asking` and of the sender's functions cite these. Assumes nothing.
use Prim.Native.Nat.{ℕ}
use mathlib.Core.Path.{◌≡◌, refl, sym, ap, ◌∙◌}
use mathlib.Core.Bool.{Bool, true, false, cond}
use mathlib.Core.List.{List}
use native.Mathlib.Omega.{arith}
use lib.ListN.{get_or}
use Rattle.header.specs.declared.refusal.Refusal.{Refusal}
use Rattle.header.specs.Header.{tag_of, discovery_of}
use Rattle.header.specs.Refusal.{refused_at, refusal}
use Rattle.message.specs.Request.{Request, Reading, Refused, Means, refusal_in, given}
use Rattle.message.specs.Walk.{read}
use Rattle.message.proofs.Laws.Faults.{no-mean}
use Rattle.message.proofs.Laws.Going.{read_first}
use Rattle.answer.proofs.Laws.Looking.{Some}
use Rattle.std.specs.Prelude.{Ok, Err}
use Rattle.initiator.specs.Asking.{plainly, under_tag, asked_as, lets_by, asks_as, asking_of}

-- what a function gave back of a reading: a value of its meaning, or its refusal
pub record Given {A B : Type 0} (f : A → B) (p : Reading A) (b : B) : Type 0 where
  pub value : A
  pub is : p ≡ Means value
  pub gives : b ≡ f value

pub given-ok : {A B : Type 0} (f : A → B) (p : Reading A) {b : B} → given f p ≡ Ok b → Given f p b
given-ok f (Refused r) e = absurd cc
given-ok f (Means a) e = record { value = a; is = refl; gives = cc }

pub given-err : {A B : Type 0} (f : A → B) (p : Reading A) {r : Refusal} → given f p ≡ Err r → p ≡ Refused r
given-err f (Refused q) {r} e = let i : q ≡ r = cc in ap Refused i
given-err f (Means a) e = absurd cc

-- its tag aside
pub plainly-wrong : (p : Reading Request) (r : Refusal) → p ≡ Refused r → plainly p ≡ Refused (refused_at 31 r.at)
unfolding plainly
plainly-wrong p r e = rw e

pub plainly-means : (p : Reading Request) (q : Request) → p ≡ Means q → plainly p ≡ cond (discovery_of q.byte0) (Refused (refusal 31)) (Means q)
unfolding plainly
plainly-means p q e = rw e

-- what may be asked was read as it is, and is no discovery
pub record Plain (p : Reading Request) (q : Request) : Type 0 where
  pub is : p ≡ Means q
  pub clear : discovery_of q.byte0 ≡ false

pub plainly-reads : (p : Reading Request) (q : Request) → plainly p ≡ Means q → Plain p q
unfolding plainly
plainly-reads (Refused r) q e = no-mean e
plainly-reads (Means m) q e = go (discovery_of m.byte0) refl e
  where
    go : (b : Bool) → discovery_of m.byte0 ≡ b → cond b (Refused (refusal 31)) (Means m) ≡ Means q → Plain (Means m) q
    go true d x = no-mean x
    go false d x = let i : m ≡ q = cc in record { is = x; clear = ap (λ (r : Request). discovery_of r.byte0) (sym i) ∙ d }

-- by the walk
pub ask-refused : (p : Reading Request) (r : Refusal) → p ≡ Refused r → Err (refused_at 31 r.at) ≡ asking_of (plainly p)
ask-refused p r e = rw (plainly-wrong p r e)

pub ask-plain : (p : Reading Request) (q : Request) {byte0 : ℕ} → p ≡ Means q → byte0 ≡ q.byte0
    → cond (discovery_of byte0) (Err (refusal 31)) (Ok byte0) ≡ asking_of (plainly p)
ask-plain p q {byte0} e f = rw (plainly-means p q e, f) (go (discovery_of q.byte0))
  where
    go : (b : Bool) → cond b (Err (refusal 31)) (Ok q.byte0) ≡ asking_of (cond b (Refused (refusal 31)) (Means q))
    go true = refl
    go false = refl

-- no refusal of it is 0
pub plainly-some : (p : Reading Request) → Some (plainly p)
unfolding plainly
plainly-some (Refused r) = omega arith
plainly-some (Means q) = go (discovery_of q.byte0)
  where
    go : (b : Bool) → Some (cond b (Refused (refusal 31)) (Means q))
    go true = omega arith
    go false = tt

-- under a tag that fits
module _ (fits : ℕ → Bool) (p : Reading Request) where
  pub as-wrong : (r : Refusal) → plainly p ≡ Refused r → asked_as fits p ≡ Refused r
  unfolding asked_as
  as-wrong r e = rw e

  pub as-means : (q : Request) → plainly p ≡ Means q → asked_as fits p ≡ cond (fits (tag_of q.byte0)) (Means q) (Refused (refusal 31))
  unfolding asked_as
  as-means q e = rw e

  -- what the function tells of it
  pub as-refused : (r : Refusal) → plainly p ≡ Refused r → Err r ≡ asking_of (asked_as fits p)
  as-refused r e = rw (as-wrong r e)

  module _ (q : Request) {byte0 : ℕ} (e : plainly p ≡ Means q) (f : byte0 ≡ q.byte0) where
    pub as-other : fits (tag_of byte0) ≡ false → Err (refusal 31) ≡ asking_of (asked_as fits p)
    as-other t = let u : fits (tag_of q.byte0) ≡ false = ap (λ (n : ℕ). fits (tag_of n)) (sym f) ∙ t in rw (as-means q e, u)

    pub as_own : fits (tag_of byte0) ≡ true → Ok byte0 ≡ asking_of (asked_as fits p)
    as_own t = let u : fits (tag_of q.byte0) ≡ true = ap (λ (n : ℕ). fits (tag_of n)) (sym f) ∙ t in rw (as-means q e, u, f)

  pub as-reads : (q : Request) → asked_as fits p ≡ Means q → plainly p ≡ Means q
  unfolding asked_as
  as-reads q e = go (plainly p) e
    where
      by : (b : Bool) (m : Request) → cond b (Means m) (Refused (refusal 31)) ≡ Means q → ◌≡◌ {A = Reading Request} (Means m) (Means q)
      by true m x = x
      by false m x = no-mean x

      go : (x : Reading Request) → under_tag fits x ≡ Means q → x ≡ Means q
      go (Refused r) x = no-mean x
      go (Means m) x = by (fits (tag_of m.byte0)) m x

  pub as_fits : (q : Request) → asked_as fits p ≡ Means q → fits (tag_of q.byte0) ≡ true
  unfolding asked_as
  as_fits q e = go (plainly p) e
    where
      by : (b : Bool) (m : Request) → fits (tag_of m.byte0) ≡ b → cond b (Means m) (Refused (refusal 31)) ≡ Means q → fits (tag_of q.byte0) ≡ true
      by true m z x = let i : m ≡ q = cc in ap (λ (r : Request). fits (tag_of r.byte0)) (sym i) ∙ z
      by false m z x = no-mean x

      go : (x : Reading Request) → under_tag fits x ≡ Means q → fits (tag_of q.byte0) ≡ true
      go (Refused r) x = no-mean x
      go (Means m) x = by (fits (tag_of m.byte0)) m refl x

  pub as_some : Some (asked_as fits p)
  unfolding asked_as
  as_some = go (plainly p) (plainly-some p)
    where
      by : (b : Bool) (m : Request) → Some (cond b (Means m) (Refused (refusal 31)))
      by true m = tt
      by false m = omega arith

      go : (x : Reading Request) → Some x → Some (under_tag fits x)
      go (Refused r) h = h
      go (Means m) h = by (fits (tag_of m.byte0)) m

  pub asks-as : (q : Request) → asked_as fits p ≡ Means q → asks_as fits p ≡ true
  unfolding asks_as
  asks-as q e = rw e

-- 31 lets a message by, clause by clause
module _ (fits : ℕ → Bool) (message : List ℕ) where
  pub asks-wrong : (r : Refusal) → read message ≡ Refused r → false ≡ asks_as fits (read message)
  unfolding asks_as
  asks-wrong r e = rw (as-wrong fits (read message) (refused_at 31 r.at) (plainly-wrong (read message) r e))

  module _ (q : Request) (is : read message ≡ Means q) (byte0 : ℕ) (first : byte0 ≡ get_or message 0 0) where
    byte-is : byte0 ≡ q.byte0
    byte-is = first ∙ (read_first message q is).1

    pub asks-discovery : discovery_of byte0 ≡ true → false ≡ asks_as fits (read message)
    unfolding asks_as
    asks-discovery d =
        let e : plainly (read message) ≡ Refused (refusal 31) = plainly-means (read message) q is ∙ rw (← byte-is, d) in
        rw (as-wrong fits (read message) (refusal 31) e)

    pub asks-tag : discovery_of byte0 ≡ false → fits (tag_of byte0) ≡ asks_as fits (read message)
    unfolding asks_as
    asks-tag d =
        let e : plainly (read message) ≡ Means q = plainly-means (read message) q is ∙ rw (← byte-is, d) in
        ap (λ (n : ℕ). fits (tag_of n)) byte-is ∙ rw (as-means fits (read message) q e) (go (fits (tag_of q.byte0)))
      where
        go : (b : Bool) → b ≡ lets_by (cond b (Means q) (Refused (refusal 31)))
        go true = refl
        go false = refl

-- 31 for a tag that does not fit, whatever else is wrong
pub as-away : (fits : ℕ → Bool) (message : List ℕ) → fits (tag_of (get_or message 0 0)) ≡ false → (refusal_in (asked_as fits (read message))).number ≡ 31
as-away fits message e = go (read message) refl
  where
    by : (b : Bool) (q : Request) → read message ≡ Means q → plainly (read message) ≡ cond b (Refused (refusal 31)) (Means q)
        → (refusal_in (asked_as fits (read message))).number ≡ 31
    by true q is x = rw (as-wrong fits (read message) (refusal 31) x)
    by false q is x =
        let f : fits (tag_of q.byte0) ≡ false = ap (λ (n : ℕ). fits (tag_of n)) (sym (read_first message q is).1) ∙ e in
        rw (as-means fits (read message) q x, f)

    go : (p : Reading Request) → read message ≡ p → (refusal_in (asked_as fits (read message))).number ≡ 31
    go (Refused r) is = rw (as-wrong fits (read message) (refused_at 31 r.at) (plainly-wrong (read message) r is))
    go (Means q) is = by (discovery_of q.byte0) q is (plainly-means (read message) q is)

-- what 31 lets by has a meaning
pub lets-means : (p : Reading Request) → lets_by p ≡ true → (q : Request) × (p ≡ Means q)
lets-means (Refused r) e = let z : ◌≡◌ {A = ℕ} 0 1 = cc in absurd (omega arith)
lets-means (Means q) e = (q, refl)

pub asked-means : (fits : ℕ → Bool) (p : Reading Request) → asks_as fits p ≡ true → (q : Request) × (asked_as fits p ≡ Means q)
unfolding asks_as
asked-means fits p e = lets-means (asked_as fits p) e
