-- `message::walk::short_write` meets its contract: each test is a premise of `short_faultless`. Assumes nothing.
use mathlib.Core.Path.{sym, ◌∙◌}
use Rattle.word.proofs.Rules.{flag-on}
use Rattle.message.proofs.Laws.Faults.{short_faultless}
use Rattle.message.proofs.walk.short_write.Goals as goal

pub returns-then-last : goal.returns-then-last
returns-then-last c e =
    short_faultless _ _ _ (flag-on c.writes.ensures c.if-not-writes.false) (sym c.byte0.ensures.value ∙ c.if-byte0.false) c.if-h-ne16.false (rw (sym c.last.ensures ∙ c.if-last.true, ← c.address_words-body.ensures.value) e)

pub returns : goal.returns
returns c e =
    short_faultless _ _ _ (flag-on c.writes.ensures c.if-not-writes.false) (sym c.byte0.ensures.value ∙ c.if-byte0.false) c.if-h-ne16.false (rw (sym c.last.ensures ∙ c.if-last.false, ← c.address_words-body.ensures.value) e)
