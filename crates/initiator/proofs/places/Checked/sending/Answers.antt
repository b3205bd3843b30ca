-- `initiator::places::Checked::sending` meets its contract: each check is a line of `sending`. Assumes nothing.
use mathlib.Core.Path.{sym, ◌∙◌}
use native.Mathlib.Omega.{arith}
use Prim.Native.Nat.{◌<◌}
use borrow.Author.Tests.{lt-ltb}
use Rattle.std.proofs.lemmas.Result.{err_from_is_err_and}
use Rattle.word.proofs.Rules.{flag-on, flag_off}
use Rattle.initiator.specs.Places.{waits_for}
use Rattle.initiator.specs.Sender.{sending}
use Rattle.initiator.proofs.Laws.Asked.{given-ok, given-err, as-refused, as-other, as_own}
use Rattle.initiator.proofs.Laws.Places.{ok-is}
use Rattle.initiator.proofs.places.Checked.sending.Goals as goal

pub returns-then-self-eq0 : goal.returns-then-self-eq0
unfolding sending
returns-then-self-eq0 c = rw (c.of.ensures, ok-is c.args.self.sender c.args.self.next_lt_tag_count c.args.self.waiting_le_most, c.if-self-eq0.true)

pub returns-in_err-byte0 : goal.returns-in_err-byte0
unfolding sending
returns-in_err-byte0 c =
    let some : 0 < c.args.self.sender.waiting = omega (arith, c.if-self-eq0.false) in
    let p = err_from_is_err_and c.from_residual.result c.from_residual.ensures.1 in
    rw (p.1, p.2, ok-is c.args.self.sender c.args.self.next_lt_tag_count c.args.self.waiting_le_most, lt-ltb 0 _ some)
    (as-refused (waits_for _) _ _ (given-err _ _ (sym c.ask.ensures ∙ c.in_err-byte0.was)))

pub returns-then-not-waits_for : goal.returns-then-not-waits_for
unfolding sending
returns-then-not-waits_for c =
    let some : 0 < c.args.self.sender.waiting = omega (arith, c.if-self-eq0.false) in
    let f = given-ok _ _ (sym c.ask.ensures ∙ c.in_ok-byte0.was) in
    let e = flag_off c.waits_for.ensures c.if-not-waits_for.true in
    rw (c.of-then-not-waits_for.ensures, ok-is c.args.self.sender c.args.self.next_lt_tag_count c.args.self.waiting_le_most, lt-ltb 0 _ some)
    (as-other (waits_for _) _ _ f.is f.gives (rw c.tag.ensures.value at e))

pub returns : goal.returns
unfolding sending
returns c =
    let some : 0 < c.args.self.sender.waiting = omega (arith, c.if-self-eq0.false) in
    let f = given-ok _ _ (sym c.ask.ensures ∙ c.in_ok-byte0.was) in
    let e = flag-on c.waits_for.ensures c.if-not-waits_for.false in
    rw (ok-is c.args.self.sender c.args.self.next_lt_tag_count c.args.self.waiting_le_most, lt-ltb 0 _ some)
    (as_own (waits_for _) _ _ f.is f.gives (rw c.tag.ensures.value at e))
