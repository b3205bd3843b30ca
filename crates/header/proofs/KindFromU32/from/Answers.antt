-- A kind from a number is the one that it names: each arm is a case of `kind_no`. Assumes nothing.
use native.Mathlib.Omega.{arith}
use mathlib.Core.Path.{◌≡◌}
use borrow.Author.Rules.{rules}
use Rattle.header.specs.Header.{kind_no}
use Rattle.header.proofs.Laws.Header.{kind-rest}
use Rattle.header.proofs.KindFromU32.from.Goals as goal

pub returns-in-0 : goal.returns-in-0
unfolding kind_no
returns-in-0 c = search rules

pub returns-in-1 : goal.returns-in-1
unfolding kind_no
returns-in-1 c = search rules

pub returns-in-2 : goal.returns-in-2
unfolding kind_no
returns-in-2 c = search rules

pub returns-in-3-to-4294967295 : goal.returns-in-3-to-4294967295
returns-in-3-to-4294967295 c =
    kind-rest c.args.n
    (λ (e : c.args.n ≡ 0). omega arith)
    (λ (e : c.args.n ≡ 1). omega arith)
    (λ (e : c.args.n ≡ 2). omega arith)
