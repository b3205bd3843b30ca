-- `word::covered` meets its contract: what it computes is the mask. Assumes nothing.
use native.Mathlib.Omega.{arith}
use Prim.Native.Nat.{◌%◌}
use Rattle.word.proofs.Masks.{lowest-le, covers}
use Rattle.word.proofs.covered.Goals as goal

pub overflow_add-result : goal.overflow_add-result
overflow_add-result c = omega (arith, lowest-le (c.args.enables % 16))

pub returns : goal.returns
returns c = covers c.args.enables
