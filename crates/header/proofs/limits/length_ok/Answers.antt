-- `header::limits::length_ok` meets its contract: the three tests of `length_ok`. Assumes nothing.
use mathlib.Core.Path.{sym, ap, ◌∙◌}
use mathlib.Core.Bool.{not, false≢true}
use borrow.Author.Tests.{ne_eqb, eq-eqb}
use Rattle.header.specs.Limits.{length_ok}
use Rattle.header.proofs.limits.length_ok.Goals as goal
use Rattle.header.proofs.limits.length_ok.Goals.{then-bytes-ne0, else-bytes-ne0}

pub returns-then-bytes-eq0 : goal.returns-then-bytes-eq0
unfolding length_ok
returns-then-bytes-eq0 c =
    elim c.if-bytes-ne0.branch [
      | then-bytes-ne0 w ↦ rw (ne_eqb c.args.bytes 0 w.if-bytes-ne0.true, sym w.value-is ∙ c.if-bytes-eq0.true)
      | else-bytes-ne0 w ↦ absurd (false≢true (sym (ap not (eq-eqb c.args.bytes 0 w.if-bytes-ne0.false)) ∙ sym w.value-is ∙ c.if-bytes-eq0.true))
    ]

pub returns-else-bytes-eq0 : goal.returns-else-bytes-eq0
unfolding length_ok
returns-else-bytes-eq0 c =
    elim c.if-bytes-ne0.branch [
      | then-bytes-ne0 w ↦ rw (ne_eqb c.args.bytes 0 w.if-bytes-ne0.true, sym w.value-is ∙ c.if-bytes-eq0.false) c.if-bytes-eq0.false
      | else-bytes-ne0 w ↦ rw (eq-eqb c.args.bytes 0 w.if-bytes-ne0.false) (w.value-is ∙ ap not (eq-eqb c.args.bytes 0 w.if-bytes-ne0.false))
    ]
