-- `completer::serving::keep_request` meets its contract: a datagram of whole words is copied to its place, or nothing is. Assumes nothing.
use Prim.Native.Nat.{◌*◌, ◌-◌}
use mathlib.Core.Path.{refl}
use native.Mathlib.Omega.{arith}
use lib.ListN.{length}
use Rattle.header.specs.Limits.{limit_bytes}
use Rattle.completer.proofs.Inner.Verdicts.{kept_whole}
use Rattle.completer.proofs.serving.keep_request.Goals as goal

pub returns-then-keep : goal.returns-then-keep
returns-then-keep c =
    let a = c.args in
    kept_whole a.kept.now a.datagram.now a.place (length a.kept.now - limit_bytes * a.place) c.if-keep.true c.requires.1 (omega (arith, c.requires.0, c.requires.2, c.requires.3)) (omega (arith, c.requires.0, c.requires.3))
    c.copy_bytes.ensures refl
