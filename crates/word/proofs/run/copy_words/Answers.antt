-- `word::run::copy_words` meets its contract: the stage holds what it was given. Assumes nothing.
use mathlib.Core.Path.{ap, ◌∙◌}
use Rattle.word.specs.Words.{put}
use Rattle.word.proofs.Runs.{staged-all}
use Rattle.word.proofs.run.copy_words.Goals as goal

pub returns : goal.returns
returns c =
    let a = c.args in
    c.paste-2.ensures ∙ ap (put a.dst.now a.to) (staged-all _ a.src.now c.paste.ensures)
