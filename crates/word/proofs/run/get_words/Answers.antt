-- `word::run::get_words` meets its contract: the stage holds what it was given. Assumes nothing.
use Prim.Native.Nat.{◌≤◌}
use mathlib.Core.Path.{ap, ◌∙◌}
use native.Mathlib.Omega.{arith}
use lib.ListN.{length, drop, length-drop}
use Rattle.word.specs.Words.{words_of, put}
use Rattle.word.proofs.Crossing.{length-words_of}
use Rattle.word.proofs.Runs.{staged}
use Rattle.word.proofs.run.get_words.Goals as goal

pub returns : goal.returns
returns c =
    let a = c.args in
    let s = drop a.from (words_of a.b.now) in
    let long : a.n ≤ length s = rw (length-drop a.from (words_of a.b.now), length-words_of a.b.now) (omega arith) in
    c.paste.ensures ∙ ap (put a.dst.now a.to) (staged _ s a.n long c.gather.ensures)
