-- `tags::sound::Sound::expected` meets its contract. Assumes nothing.
use borrow.Author.Tests.{ne_eqb}
use Rattle.word.proofs.Rules.{tests}
use Rattle.tags.specs.Rule.{expected}
use Rattle.tags.proofs.Laws.Record.{held-room}
use Rattle.tags.proofs.sound.Sound.expected.Goals as goal

pub returns-then-self-eq0 : goal.returns-then-self-eq0
unfolding expected
returns-then-self-eq0 c = search tests

pub next_tag-requires : goal.next_tag-requires
next_tag-requires c = (held-room c.args.self.tags c.args.self.good (ne_eqb _ 0 c.if-self-eq0.false)).tag

pub returns : goal.returns
unfolding expected
returns c = rw (ne_eqb _ 0 c.if-self-eq0.false, c.next_tag.ensures.value)
