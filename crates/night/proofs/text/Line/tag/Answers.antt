-- `night::text::Line::tag` meets its contract: one run, or two. Assumes nothing.
use Rattle.std.proofs.Common.{◌++◌, rules}
use borrow.Author.Tests.{eq-eqb, ne_eqb}
use Rattle.night.specs.Text.{ascii, decimal, tag_text}
use Rattle.night.proofs.Inner.Written.{wrote_then}
use Rattle.night.proofs.text.Line.tag.Goals as goal

pub returns-then-tags-eq0 : goal.returns-then-tags-eq0
unfolding tag_text
returns-then-tags-eq0 c =
    rw (eq-eqb c.args.tags.held 0 c.if-tags-eq0.true) (rw (c.clear.ensures.bytes, c.clear.ensures.none) at c.put.ensures)

pub returns-else-tags-eq0 : goal.returns-else-tags-eq0
unfolding tag_text
returns-else-tags-eq0 c =
    let a = c.args in
    let tag = rw (c.clear.ensures.bytes, c.clear.ensures.none, c.from.ensures) at c.named.ensures.wrote in
    rw (ne_eqb a.tags.held 0 c.if-tags-eq0.false) (wrote_then a.self.now.bytes 0 (ascii "tag " ++ decimal a.tags.tag) (ascii "\n") (search rules) tag c.put-else-tags-eq0.ensures)
