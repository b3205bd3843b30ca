-- `initiator::outcome::told` meets its contract: 31, then what the answer tells. Assumes nothing.
use mathlib.Core.Path.{sym, ◌∙◌}
use native.Mathlib.Omega.{arith}
use Rattle.std.proofs.lemmas.Result.{err_from_is_err_and}
use Rattle.word.specs.Words.{Bytes}
use Rattle.word.proofs.Runs.{below_all}
use Rattle.initiator.proofs.Laws.Asked.{given-ok, given-err, plainly-reads}
use Rattle.initiator.proofs.Inner.Told.{ready, told-refused, told-asked}
use Rattle.initiator.proofs.outcome.told.Goals as goal

pub returns-in_err-byte0 : goal.returns-in_err-byte0
returns-in_err-byte0 c =
    let p = err_from_is_err_and c.from_residual.result c.from_residual.ensures.1 in
    rw (p.1, p.2) (told-refused _ _ _ _ (given-err _ _ (sym c.ask.ensures ∙ c.in_err-byte0.was)))

pub told_by-requires : goal.told_by-requires
told_by-requires c =
    let b : Bytes c.args.request.now = below_all 256 _ (λ i. let k = c.shared_slice_known-1.given i in omega arith) in
    let f = given-ok _ _ (sym c.ask.ensures ∙ c.in_ok-byte0.was) in
    ready _ f.value b (plainly-reads _ _ f.is).is f.gives

pub returns : goal.returns
returns c =
    let f = given-ok _ _ (sym c.ask.ensures ∙ c.in_ok-byte0.was) in
    c.told_by.ensures ∙ told-asked _ _ _ _ f.is f.gives
