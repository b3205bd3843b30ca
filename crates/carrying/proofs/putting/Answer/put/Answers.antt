-- `carrying::putting::Answer::put` meets its contract: one word, by whether the message is kept. Assumes nothing.
use mathlib.Core.Path.{refl}
use native.Mathlib.Omega.{arith}
use Rattle.carrying.proofs.Laws.Putting.{kept_off, kept-one}
use Rattle.carrying.proofs.putting.Answer.put.Goals as goal
use Rattle.carrying.proofs.putting.Answer.put.Goals.{then-self, else-self}

pub returns : goal.returns
returns c =
    elim c.if-self.branch [
      | then-self w ↦
          rw w.self-is
          (record { stored = refl; output = refl; keep = refl; words = refl; puts = record { stored = kept-one _ _ _ _ w.if-self.true (omega (arith, c.requires.stored)); output = c.put_word.ensures } })
      | else-self w ↦
          rw w.self-is
          (record { stored = refl; output = refl; keep = refl; words = refl; puts = record { stored = kept_off _ _ _ _ w.if-self.false; output = c.put_word.ensures } })
    ]
