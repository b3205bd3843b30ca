-- `word::run::alike` meets its contract. Assumes nothing.
use borrow.Author.Tests.{eq-eqb, ne_eqb}
use Rattle.word.proofs.Same.{and-true, and-false}
use Rattle.word.proofs.run.alike.Goals as goal

pub returns-then-x-y : goal.returns-then-x-y
returns-then-x-y c = rw (eq-eqb _ _ c.if-x-y.true) (and-true c.args.before)

pub returns : goal.returns
returns c = rw (ne_eqb _ _ c.if-x-y.false) (and-false c.args.before)
