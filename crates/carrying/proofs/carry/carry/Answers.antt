-- `carrying::carry::carry` meets its contract. The loop's invariant: the message is under way, in the buffers that are lent. Assumes nothing.
use mathlib.Core.Path.{refl, sym, ◌∙◌}
use Rattle.std.proofs.Common.{rules}
use native.Mathlib.Omega.{arith}
use Rattle.word.proofs.Runs.{below_all}
use Rattle.message.specs.Walk.{request_of}
use Rattle.carrying.proofs.Inner.Underway.{starts, here-at, ends, carried, short, goes, nearer}
use Rattle.carrying.proofs.carry.carry.Goals as goal

pub loop-next-init : goal.loop-next-init
loop-next-init c =
    let dg = c.args.datagram.now in
    let b = c.answer_byte.ensures in (
      starts (request_of dg) c.args.memory.now _
          (record { byte0 = c.requires.1; kind = c.kind_of.ensures; answer = b.value; small = b.below }) c.requires.2 refl
          (below_all 256 dg (λ i. omega (arith, c.type_inv.datagram i))) c.requires.0,
      refl,
      refl,
      refl,
    )

pub carry_one-requires : goal.carry_one-requires
carry_one-requires c = here-at c.loop-next.invariant.0

pub loop-next-smaller : goal.loop-next-smaller
loop-next-smaller c = nearer c.loop-next.invariant.0 c.carry_one.ensures _ c.in-Some.is

pub loop-next-preserved : goal.loop-next-preserved
loop-next-preserved c =
    let l = c.loop-next.invariant in
    let b = c.carry_one.ensures.adds in
    (goes l.0 c.carry_one.ensures _ c.in-Some.is, b.stored ∙ l.1, b.output ∙ l.2, omega (arith, c.carry_one.auto.memory, l.3))

pub returns : goal.returns
returns c =
    let l = c.loop-next.invariant in
    let b = c.carry_one.ensures.adds in
    let stored = sym (b.stored ∙ l.1) in
    let output = sym (b.output ∙ l.2) in
    record { carries = carried (ends l.0 c.carry_one.ensures c.in_default.is) (search (rules, stored)) (search (rules, output)); within = short l.0 c.carry_one.ensures }
