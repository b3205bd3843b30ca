-- `loader::training::charkhavo_table_take` meets its contract: what the table takes, by numbers. Assumes nothing.
use Rattle.loader.proofs.ByNumbers.{answer-refused, answer-accepted}
use Rattle.loader.proofs.training.charkhavo_table_take.Goals as goal

pub returns-in-Ok : goal.returns-in-Ok
returns-in-Ok c =
    let a = c.args in
    rw c.of.ensures (answer-accepted a.attempt c.from.ensures a.message.now a.answer.now a.rows.now c.in-Ok.ensures _ c.from-in-Ok.ensures)

pub returns-in-Err : goal.returns-in-Err
returns-in-Err c =
    let a = c.args in
    answer-refused a.attempt c.from.ensures a.message.now a.answer.now a.rows.now c.in-Err.ensures
