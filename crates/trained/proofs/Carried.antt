-- What ended in OK was carried out; Failing.antt cites it. Assumes nothing.
use mathlib.Core.Path.{◌≡◌}
use mathlib.Core.Bool.{true}
use Rattle.answer.specs.declared.Status.{Status}
use Rattle.answer.specs.declared.Status.TheVariants.{Ok, Timeout, Error}
use Rattle.std.specs.Prelude.{Option, Some, None}
use Rattle.table.specs.Attempt.{is_ok}
use Rattle.trained.specs.Failing.{carried_out}

pub ok-carried : (e : Option Status) → is_ok e ≡ true → carried_out e ≡ true
ok-carried None w = w
ok-carried (Some Ok) w = w
ok-carried (Some Timeout) w = w
ok-carried (Some Error) w = w
