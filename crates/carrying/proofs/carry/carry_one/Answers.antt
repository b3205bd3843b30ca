-- `carrying::carry::carry_one` meets its contract: each kind has its own function, and no request is a response. Assumes nothing.
use mathlib.Core.Path.{refl}
use Rattle.carrying.proofs.Inner.OneCommand.{fitting}
use Rattle.carrying.proofs.carry.carry_one.Goals as goal

pub returns-in-Nop : goal.returns-in-Nop
returns-in-Nop c = c.carry_nop.ensures c.args.memory.now

pub returns-in-Response : goal.returns-in-Response
returns-in-Response c = absurd (fitting c.requires c.in-Response.is refl).counted
