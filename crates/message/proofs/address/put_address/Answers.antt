-- `message::address::put_address` meets its contract: one word is a number of 32 bits. Assumes nothing.
use native.Mathlib.Omega.{arith}
use Rattle.message.proofs.Laws.Addresses.{one-top}
use Rattle.message.proofs.address.put_address.Goals as goal

pub overflow_cast-address : goal.overflow_cast-address
overflow_cast-address c = omega (arith, one-top c.args.n c.args.address c.in-1.is c.requires.1)
