-- `tags::sound::Sound::holds` meets its contract. Assumes nothing.
use Rattle.word.proofs.Rules.{tests}
use native.Mathlib.Omega.{arith}
use borrow.Author.Tests.{ne_eqb}
use Rattle.tags.specs.Record.{holds}
use Rattle.tags.proofs.Laws.Record.{held-room}
use Rattle.tags.proofs.sound.Sound.holds.Goals as goal

pub returns-then-self-eq0 : goal.returns-then-self-eq0
unfolding holds
returns-then-self-eq0 c = search tests

pub overflow_add-result : goal.overflow_add-result
overflow_add-result c = omega (arith, (held-room c.args.self.tags c.args.self.good (ne_eqb _ 0 c.if-self-eq0.false)).tag)

pub returns : goal.returns
unfolding holds
returns c = search tests
