-- `tags::sound::Sound::rule` meets its contract: each check is a line of `rule_of`, and a new tag is not held. Assumes nothing.
use mathlib.Core.Path.{sym, ◌∙◌}
use Rattle.tags.specs.Rule.{rule_of}
use Rattle.tags.proofs.Laws.Record.{new-not-held}
use Rattle.tags.proofs.sound.Sound.rule.Goals as goal

pub returns-then-discovery : goal.returns-then-discovery
unfolding rule_of
returns-then-discovery c = simp (sym c.discovery.ensures ∙ c.if-discovery.true)

pub returns-then-expected : goal.returns-then-expected
unfolding rule_of
returns-then-expected c =
    let new = sym c.expected.ensures ∙ c.if-expected.true in
    let other = new-not-held c.args.self.tags _ c.args.self.good new in
    simp (sym c.discovery.ensures ∙ c.if-discovery.false, ← c.tag-tag.ensures.value, other, new)

pub returns-then-holds : goal.returns-then-holds
unfolding rule_of
returns-then-holds c =
    let again = sym c.holds.ensures ∙ c.if-holds.true in
    simp (sym c.discovery.ensures ∙ c.if-discovery.false, ← c.tag-tag.ensures.value, again)

pub returns : goal.returns
unfolding rule_of
returns c =
    let other = sym c.holds.ensures ∙ c.if-holds.false in
    let early = sym c.expected.ensures ∙ c.if-expected.false in
    simp (c.of.ensures, sym c.discovery.ensures ∙ c.if-discovery.false, ← c.tag-tag.ensures.value, other, early)
