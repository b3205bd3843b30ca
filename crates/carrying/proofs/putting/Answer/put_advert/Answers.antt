-- `carrying::putting::Answer::put_advert` meets its contract: no word, one, or one behind the other. Assumes nothing.
use mathlib.Core.Path.{◌≡◌}
use native.Mathlib.Omega.{arith}
use Rattle.carrying.proofs.Laws.Putting.{adds_none, adds-more, adds-room}
use Rattle.carrying.proofs.putting.Answer.put_advert.Goals as goal

pub returns-in-0 : goal.returns-in-0
returns-in-0 c =
    let e : c.args.count ≡ 0 = c.in-0.is in
    rw e (adds_none _)

pub put-requires-in_default-2 : goal.put-requires-in_default-2
put-requires-in_default-2 c =
    let e : c.args.count ≡ 2 = omega arith in
    adds-room 1 c.put-in_default.ensures (rw e at c.requires.1)

pub returns-in_default : goal.returns-in_default
returns-in_default c =
    let e : c.args.count ≡ 2 = omega arith in
    rw e (adds-more c.put-in_default.ensures c.put-in_default-2.ensures (rw e at c.requires.1))
