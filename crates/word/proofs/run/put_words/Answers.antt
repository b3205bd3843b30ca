-- `word::run::put_words` meets its contract: the stage holds what it was given. Assumes nothing.
use mathlib.Core.Path.{ap, ◌∙◌}
use Rattle.word.specs.Words.{put_words}
use Rattle.word.proofs.Runs.{staged-all}
use Rattle.word.proofs.run.put_words.Goals as goal

pub returns : goal.returns
returns c =
    let a = c.args in
    c.spread.ensures ∙ ap (put_words a.out.now a.to) (staged-all _ a.src.now c.paste.ensures)
