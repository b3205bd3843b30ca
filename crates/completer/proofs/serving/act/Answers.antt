-- `completer::serving::act` meets its contract: the message is kept and carried out, and the record follows. Assumes nothing.
use Prim.Native.Nat.{◌+◌, ◌-◌, ◌*◌}
use mathlib.Core.Path.{◌≡◌, refl, ◌∙◌}
use native.Mathlib.Omega.{arith}
use Rattle.header.specs.Limits.{limit}
use Rattle.message.proofs.Laws.Going.{read_first}
use Rattle.completer.proofs.Inner.Verdicts.{place-room, kept-or, acted}
use Rattle.completer.proofs.serving.act.Goals as goal

pub bounds-datagram-0 : goal.bounds-datagram-0
bounds-datagram-0 c =
    (read_first c.args.datagram.now _ c.requires.0).0.some

pub keep_request-requires : goal.keep_request-requires
keep_request-requires c =
    let n = (read_first c.args.datagram.now _ c.requires.0).0 in
    (c.place-place.ensures.below, n.whole, n.most, c.requires.3)

pub carry-n-requires : goal.carry-n-requires
carry-n-requires c =
    let a = c.args in (
      c.requires.0,
      c.from-byte0.ensures ∙ (read_first a.datagram.now _ c.requires.0).1,
      record { stored = place-room a.stored.now c.place-place.result c.place-place.ensures.below c.requires.1; output = c.requires.2 },
    )

pub overflow_cast-message : goal.overflow_cast-message
overflow_cast-message c = omega (arith, c.carry-n.ensures.within)

pub overflow_cast-message-2 : goal.overflow_cast-message-2
overflow_cast-message-2 c =
    omega (arith, (read_first c.args.datagram.now _ c.requires.0).0.most)

pub returns : goal.returns
returns c =
    let a = c.args in
    let first = c.from-byte0.ensures ∙ (read_first a.datagram.now _ c.requires.0).1 in
    let size : limit * c.place-place.result + limit - limit * c.place-place.result ≡ limit = omega arith in
    acted a.stored.now a.kept.now a.datagram.now a.sound.tags a.keep first c.mark-mark.ensures c.tag.ensures.value c.place-place.ensures.value refl size c.requires.1
    c.carry-n.ensures.within c.carry-n.ensures.carries refl c.keep_request.ensures (kept-or a.sound.tags a.keep _ c.then_some.ensures refl)
