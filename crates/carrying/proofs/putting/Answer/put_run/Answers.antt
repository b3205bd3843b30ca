-- `carrying::putting::Answer::put_run` meets its contract: one word by itself, or the run to both places. Assumes nothing.
use mathlib.Core.Path.{refl, ◌∙◌}
use Rattle.carrying.proofs.Laws.Putting.{kept_off, kept_on}
use Rattle.carrying.proofs.putting.Answer.put_run.Goals as goal
use Rattle.carrying.proofs.putting.Answer.put_run.Goals.{then-self, else-self}

pub returns : goal.returns
returns c =
    elim c.if-self.branch [
      | then-self w ↦
          let o = rw w.self-is at c.put_words.ensures in
          rw w.self-is
          (record { stored = refl; output = refl; keep = refl; words = refl; puts = record { stored = w.copy_words.ensures ∙ kept_on _ _ _ _ w.if-self.true; output = o } })
      | else-self w ↦
          let o = rw w.self-is at c.put_words.ensures in
          rw w.self-is
          (record { stored = refl; output = refl; keep = refl; words = refl; puts = record { stored = kept_off _ _ _ _ w.if-self.false; output = o } })
    ]
