-- `initiator::asking::ask_as` meets its contract: 31 but for the tag, then the tag. Assumes nothing.
use mathlib.Core.Path.{sym, ◌∙◌}
use lib.Dec.{eqb}
use Rattle.std.proofs.lemmas.Result.{err_from_is_err_and}
use borrow.Author.Tests.{eq-eqb, ne_eqb}
use Rattle.initiator.proofs.Laws.Asked.{given-ok, given-err, as-refused, as-other, as_own}
use Rattle.initiator.proofs.asking.ask_as.Goals as goal

pub returns-in_err-byte0 : goal.returns-in_err-byte0
returns-in_err-byte0 c =
    let p = err_from_is_err_and c.from_residual.result c.from_residual.ensures.1 in
    rw (p.1, p.2) (as-refused (eqb _) _ _ (given-err _ _ (sym c.ask.ensures ∙ c.in_err-byte0.was)))

pub returns-then-tag : goal.returns-then-tag
returns-then-tag c =
    let f = given-ok _ _ (sym c.ask.ensures ∙ c.in_ok-byte0.was) in
    rw c.of.ensures (as-other (eqb _) _ _ f.is f.gives (ne_eqb _ _ (λ z. c.if-tag.true (z ∙ sym c.tag.ensures.value))))

pub returns : goal.returns
returns c =
    let f = given-ok _ _ (sym c.ask.ensures ∙ c.in_ok-byte0.was) in
    as_own (eqb _) _ _ f.is f.gives (eq-eqb _ _ (c.if-tag.false ∙ c.tag.ensures.value))
