-- `completer::verdict::verdict_of` meets its contract: check 1 in its two halves, then the datagram. Assumes nothing.
use Rattle.word.proofs.Rules.{flag-on, flag_off}
use Rattle.completer.specs.Verdict.{verdict_by}
use Rattle.tags.proofs.Laws.Record.{kept-room}
use Rattle.completer.proofs.verdict.verdict_of.Goals as goal
use Rattle.completer.proofs.verdict.verdict_of.Goals.{then-not-lent_ok-via-then-not-lent_ok, then-not-lent_ok-via-else-not-lent_ok+then-not-kept_ok}

pub returns-then-not-lent_ok : goal.returns-then-not-lent_ok
unfolding verdict_by
returns-then-not-lent_ok c =
    elim c.then-not-lent_ok.branch [
      | then-not-lent_ok-via-then-not-lent_ok w ↦ simp (c.of.ensures, flag_off c.lent_ok.ensures w.if-not-lent_ok.true)
      | then-not-lent_ok-via-else-not-lent_ok+then-not-kept_ok w ↦ simp (c.of.ensures, flag-on c.lent_ok.ensures w.if-not-lent_ok.false, flag_off w.kept_ok.ensures w.if-not-kept_ok.true)
    ]

pub of-requires-2 : goal.of-requires-2
of-requires-2 c = (kept-room _ _ _ (flag-on c.kept_ok.ensures c.if-not-kept_ok.false)).good

pub hold-requires : goal.hold-requires
hold-requires c = (kept-room _ _ _ (flag-on c.kept_ok.ensures c.if-not-kept_ok.false)).kept

pub returns : goal.returns
unfolding verdict_by
returns c = simp (flag-on c.lent_ok.ensures c.if-not-lent_ok.false, flag-on c.kept_ok.ensures c.if-not-kept_ok.false) (rw c.of-2.ensures at c.hold.ensures)
