-- `table::attempt::Attempt::due` meets its contract: each check is a line of `message_fault`, in its order. Assumes
-- nothing.
use Prim.Native.Nat.{ℕ}
use mathlib.Core.Path.{◌≡◌, refl}
use mathlib.Core.Bool.{true, false}
use native.Mathlib.Omega.{arith}
use borrow.Author.Tests.{le-leb, lt-leb}
use lib.Dec.{eqb}
use Rattle.std.proofs.Common.{Ok, Err, rules}
use Rattle.word.proofs.Rules.{tests}
use Rattle.header.specs.Refusal.{refusal, as_result}
use Rattle.header.proofs.Laws.Refusal.{ok_of, err_of}
use Rattle.layout.specs.Layout.{set_up_ok, set_up_fault}
use Rattle.layout.proofs.Laws.Layout.{set-up-ok, set-up-off, set-up-refused}
use Rattle.table.specs.Calls.{message_fault}
use Rattle.table.proofs.Inner.Making.{unsent, due-refused}
use Rattle.table.proofs.attempt.Attempt.due.Goals as goal

-- a set-up that 40 lets by
set : (start room : ℕ) → Ok tt ≡ as_result (refusal (set_up_fault start room)) → set_up_ok start room ≡ true
set start room e = set-up-ok start room (ok_of (refusal (set_up_fault start room)) tt e).0

-- whether one waits, as 36 asks it
abbrev At-36 : ℕ → Type 0
At-36 waiting = eqb waiting 0 ≡ false

abbrev Past-36 : ℕ → Type 0
Past-36 waiting = eqb waiting 0 ≡ true

-- 40
pub returns-in_err-set_up : goal.returns-in_err-set_up
unfolding message_fault
returns-in_err-set_up c =
    let a = c.args in
    let e : c.from_residual.result ≡ Err c.in_err-set_up.field-0.0 = search rules in
    let k = err_of (refusal (set_up_fault a.start a.room)) tt c.in_err-set_up.ensures in
    let o = set-up-off a.start a.room k.1 in
    rw (e, k.0, set-up-refused a.start a.room o, o, due-refused a.self.next {number = 40} (λ z. omega arith)) refl

-- 37
pub returns-in_err-checked : goal.returns-in_err-checked
unfolding message_fault
returns-in_err-checked c =
    let a = c.args in
    let e : c.from_residual-in_err-checked.result ≡ Err c.in_err-checked.field-0.0 = search rules in
    rw (
      e,
      c.in_err-checked.ensures.0,
      set a.start a.room c.in_ok-set_up.ensures,
      c.in_err-checked.ensures.1,
      due-refused a.self.next {number = 37} (λ z. omega arith),
    ) refl

-- 36
pub returns-then-self-ne0 : goal.returns-then-self-ne0
unfolding message_fault
returns-then-self-ne0 c =
    let a = c.args in
    let w : At-36 a.self.sender.waiting = search tests in
    rw (
      c.of.ensures,
      set a.start a.room c.in_ok-set_up.ensures,
      c.in_ok-checked.ensures.1,
      w,
      due-refused a.self.next {number = 36} (λ z. omega arith),
    ) refl

-- 30
pub returns-in_default : goal.returns-in_default
unfolding message_fault
returns-in_default c =
    let a = c.args in
    let w : Past-36 a.self.sender.waiting = search tests in
    rw (
      c.of-in_default.ensures,
      set a.start a.room c.in_ok-set_up.ensures,
      c.in_ok-checked.ensures.1,
      w,
      unsent a.self.next c.in_default.not-Send,
      due-refused a.self.next {number = 30} (λ z. omega arith),
    ) refl

-- 21
pub returns-then-long-lt-LIMIT_BYTES : goal.returns-then-long-lt-LIMIT_BYTES
unfolding message_fault
returns-then-long-lt-LIMIT_BYTES c =
    let a = c.args in
    let w : Past-36 a.self.sender.waiting = search tests in
    rw (
      c.of-then-long-lt-LIMIT_BYTES.ensures,
      set a.start a.room c.in_ok-set_up.ensures,
      c.in_ok-checked.ensures.1,
      w,
      c.in-Send.is,
      lt-leb _ _ c.if-long-lt-LIMIT_BYTES.true,
    ) refl

pub returns : goal.returns
unfolding message_fault
returns c =
    let a = c.args in
    let w : Past-36 a.self.sender.waiting = search tests in
    rw (
      set a.start a.room c.in_ok-set_up.ensures,
      c.in_ok-checked.ensures.1,
      w,
      c.in-Send.is,
      le-leb _ _ c.if-long-lt-LIMIT_BYTES.false,
    ) refl
