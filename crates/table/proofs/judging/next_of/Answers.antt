-- `table::judging::next_of` meets its contract: by the stage. Assumes nothing.
use Rattle.std.proofs.Common.{rules}
use Rattle.table.specs.Attempt.{next_of, wrote_row, read_row, told_of}
use Rattle.table.proofs.judging.next_of.Goals as goal

pub returns-in-Rows : goal.returns-in-Rows
unfolding next_of wrote_row
returns-in-Rows c =
    rw c.in-Rows.is (c.through.ensures (wrote_row (told_of c.args.message.now c.args.answer.now)) (λ i told h p. search rules))

pub returns-in-Back : goal.returns-in-Back
unfolding next_of
returns-in-Back c =
    rw c.in-Back.is
    (c.through-in-Back.ensures (read_row c.args.rows.now (told_of c.args.message.now c.args.answer.now)) (λ i told h p. search rules))
