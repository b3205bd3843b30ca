-- `loader::training::charkhavo_table_message` meets its contract: the table's message, by numbers. Assumes nothing.
use Prim.Native.Nat.{◌≤◌}
use native.Mathlib.Omega.{arith}
use Rattle.header.specs.Limits.{limit_bytes}
use Rattle.loader.proofs.ByNumbers.{message-left, message-refused, message-accepted, short}
use Rattle.loader.proofs.training.charkhavo_table_message.Goals as goal

pub overflow_cast-result : goal.overflow_cast-result
overflow_cast-result c =
    let a = c.args in
    let within : c.in-Ok.offered.length ≤ limit_bytes =
    short a.attempt c.from.ensures a.start a.room a.rows.now a.output.now c.in-Ok.ensures.0 in
    omega (arith, within)

pub returns-in-Ok : goal.returns-in-Ok
returns-in-Ok c =
    let a = c.args in
    let e = c.from.ensures in (
      message-accepted a.attempt e a.start a.room a.rows.now a.output.now c.in-Ok.ensures.0 _ c.from-in-Ok.ensures,
      message-left a.attempt e a.start a.room a.rows.now a.output.now c.message.ensures.1,
    )

pub returns-in-Err : goal.returns-in-Err
returns-in-Err c =
    let a = c.args in
    let e = c.from.ensures in (
      message-refused a.attempt e a.start a.room a.rows.now a.output.now c.in-Err.ensures.0,
      message-left a.attempt e a.start a.room a.rows.now a.output.now c.message.ensures.1,
    )
