-- `completer::serving::dispatch` meets its contract: the verdict decides. Assumes nothing.
use mathlib.Core.Path.{◌≡◌, refl, sym, ap, ◌∙◌}
use Rattle.std.specs.Prelude.{Ok}
use Rattle.std.proofs.lemmas.Result.{err_from_is_err_and}
use native.Mathlib.Omega.{arith}
use Rattle.word.proofs.Runs.{below_all}
use Rattle.completer.proofs.Laws.Called.{refused-number}
use Rattle.completer.proofs.Inner.Verdicts.{carrying, again-fits, served-by, sent-again, other-verdict, served-carried}
use mathlib.Core.Bool.{cond}
use Rattle.tags.specs.declared.rule.Verdict.TheVariants.{New, Discovery}
use Rattle.completer.proofs.serving.dispatch.Goals as goal
use Rattle.completer.proofs.serving.dispatch.Goals.{in-New, in_default-matches}

pub returns-in_err-verdict-clause-leaves : goal.returns-in_err-verdict-clause-leaves
returns-in_err-verdict-clause-leaves c =
    let e = err_from_is_err_and c.from_residual.result c.from_residual.ensures.1 in
    rw (e.1, e.2) (served-by _ _ _ (sym c.in_err-verdict.was ∙ c.verdict_of.ensures) refl)

pub returns-in_err-verdict-clause-refused : goal.returns-in_err-verdict-clause-refused
returns-in_err-verdict-clause-refused c =
    let e = err_from_is_err_and c.from_residual.result c.from_residual.ensures.1 in
    let b = below_all 256 c.args.datagram.now (λ i. omega (arith, c.type_inv.datagram i)) in
    rw (e.1, e.2) (refused-number _ _ _ _ _ _ b _ (sym c.verdict_of.ensures ∙ c.in_err-verdict.was))

pub again-requires : goal.again-requires
again-requires c =
    let k = again-fits _ c.args.kept.now c.args.datagram.now c.in-Repeat.tag (ap Ok (sym c.in-Repeat.is) ∙ sym c.in_ok-verdict.was ∙ c.verdict_of.ensures) in
    (k.most, k.stored, k.output)

pub returns-in-Repeat-clause-leaves : goal.returns-in-Repeat-clause-leaves
returns-in-Repeat-clause-leaves c =
    served-by _ _ _ (ap Ok (sym c.in-Repeat.is) ∙ sym c.in_ok-verdict.was ∙ c.verdict_of.ensures)
    (sent-again _ _ c.args.memory.now c.args.kept.now c.args.datagram.now c.again.ensures)

pub of-requires : goal.of-requires
of-requires c = (carrying c.in_ok-verdict.verdict (sym c.in_ok-verdict.was ∙ c.verdict_of.ensures)).good

pub act-requires : goal.act-requires
act-requires c =
    let k = carrying c.in_ok-verdict.verdict (sym c.in_ok-verdict.was ∙ c.verdict_of.ensures) in
    (k.means, k.stored, k.output, k.room)

pub returns-after-matches-clause-leaves : goal.returns-after-matches-clause-leaves
returns-after-matches-clause-leaves c =
    let is : cond c.match-matches.matches New Discovery ≡ c.in_ok-verdict.verdict =
    elim c.match-matches.branch [
      | in-New w ↦ rw w.matches-is (sym w.in-New.is)
      | in_default-matches w ↦ rw w.matches-is (other-verdict c.in_ok-verdict.verdict c.in_default.not-Repeat w.in_default-matches.not-New)
    ] in
    served-carried _ _ _ c.match-matches.matches (sym c.in_ok-verdict.was ∙ c.verdict_of.ensures) is (rw c.of.ensures at c.act.ensures)
