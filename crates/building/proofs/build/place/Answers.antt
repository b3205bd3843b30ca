-- `building::build::place` meets its contract: header, address and data are the command's words. Assumes nothing.
use lib.ListN.{length}
use mathlib.Core.Path.{refl}
use native.Mathlib.Omega.{arith}
use Rattle.building.proofs.Inner.Passed.{adds}
use Rattle.building.proofs.Inner.Placing.{placed-header, placed-address, placed-room, placed-bytes, placed-grown}
use Rattle.building.proofs.build.place.Goals as goal

pub byte0-byte0-requires : goal.byte0-byte0-requires
byte0-byte0-requires c =
    (adds (length c.args.out.now) c.args.b c.args.asked (length c.args.payload.now) c.requires).bounds.tag

pub header_by-h-requires : goal.header_by-h-requires
header_by-h-requires c =
    let r = placed-header (length c.args.out.now) c.args.b c.args.asked c.args.payload.now c.requires c.byte0-byte0.ensures.value c.kind_of-kind.ensures c.count_by-count.ensures in
    (c.byte0-byte0.ensures.below, r.0, r.1)

pub put_command-requires : goal.put_command-requires
put_command-requires c =
    let r = placed-room (length c.args.out.now) c.args.b c.args.asked c.args.payload.now c.requires c.byte0-byte0.ensures.value c.kind_of-kind.ensures c.address_words-n.ensures.value c.data_words-sent.ensures.value in
    let a = placed-address (length c.args.out.now) c.args.b c.args.asked c.args.payload.now c.requires c.byte0-byte0.ensures.value c.kind_of-kind.ensures c.address_words-n.ensures.value c.address_sent.ensures.value c.address_sent.ensures.below in
    (omega arith, a, r.0, r.1)

pub size_by-requires : goal.size_by-requires
size_by-requires c =
    (placed-header (length c.args.out.now) c.args.b c.args.asked c.args.payload.now c.requires c.byte0-byte0.ensures.value c.kind_of-kind.ensures c.count_by-count.ensures).0

pub overflow_add-result : goal.overflow_add-result
overflow_add-result c =
    let g = placed-grown (length c.args.out.now) c.args.b c.args.asked c.args.payload.now c.requires c.byte0-byte0.ensures.value c.kind_of-kind.ensures c.count_by-count.ensures c.size_by.ensures.value refl in
    omega (arith, g.0)

pub reply_by-requires : goal.reply_by-requires
reply_by-requires c =
    (placed-header (length c.args.out.now) c.args.b c.args.asked c.args.payload.now c.requires c.byte0-byte0.ensures.value c.kind_of-kind.ensures c.count_by-count.ensures).0

pub overflow_add-result-2 : goal.overflow_add-result-2
overflow_add-result-2 c =
    let g = placed-grown (length c.args.out.now) c.args.b c.args.asked c.args.payload.now c.requires c.byte0-byte0.ensures.value c.kind_of-kind.ensures c.count_by-count.ensures c.size_by.ensures.value c.reply_by.ensures.value in
    omega (arith, g.1)

pub returns : goal.returns
returns c = (
  (placed-grown (length c.args.out.now) c.args.b c.args.asked c.args.payload.now c.requires c.byte0-byte0.ensures.value c.kind_of-kind.ensures c.count_by-count.ensures c.size_by.ensures.value c.reply_by.ensures.value).2,
  placed-bytes (length c.args.out.now) c.args.b c.args.asked c.args.payload.now c.requires c.args.out.now c.args.b.words c.byte0-byte0.ensures.value c.kind_of-kind.ensures c.count_by-count.ensures c.header_by-h.ensures c.address_words-n.ensures.value c.data_words-sent.ensures.value c.address_sent.ensures.value c.put_command.ensures,
)
