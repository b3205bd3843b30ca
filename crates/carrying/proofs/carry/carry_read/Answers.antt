-- `carrying::carry::carry_read` meets its contract: it fails, or it is answered with the words of memory. Assumes nothing.
use Prim.Native.Nat.{ℕ, ◌+◌, ◌-◌, ◌/◌, ◌≤◌}
use mathlib.Core.Path.{◌≡◌, refl, sym, ap, ◌∙◌}
use native.Mathlib.Omega.{arith}
use lib.ListN.{length, take, drop, length-take, length-drop}
use Rattle.header.specs.declared.Kind.TheVariants.{Read}
use Rattle.header.specs.Limits.{limit}
use Rattle.header.specs.Header.{count_of, last_of}
use Rattle.memory.proofs.Laws.Moving.{within, read-part}
use Rattle.carrying.proofs.Laws.Putting.{adds-room}
use Rattle.carrying.proofs.Inner.OneCommand.{adds-asked, room-for, room-one, fitting, fitting_read, failed-there, did_read}
use Rattle.carrying.proofs.carry.carry_read.Goals as goal

pub word_at-h-requires : goal.word_at-h-requires
word_at-h-requires c = let g = fitting c.requires.0 c.requires.1 refl in omega arith

pub address_at-address-requires : goal.address_at-address-requires
address_at-address-requires c =
    let g = fitting_read c.requires.0 c.requires.1 c.count-count.ensures.value c.word_at-h.ensures in
    omega arith

pub returns-then-outside : goal.returns-then-outside
returns-then-outside c =
    failed-there _ c.requires.0 Read c.requires.1 refl (c.count-count.ensures.value ∙ ap count_of c.word_at-h.ensures) c.address_at-address.ensures
    c.outside.ensures c.if-outside.true c.put_head.ensures

pub put_asked-requires : goal.put_asked-requires
put_asked-requires c = (c.requires.0.byte, room-one c.requires.0)

pub overflow_add-next : goal.overflow_add-next
overflow_add-next c =
    let g = fitting_read c.requires.0 c.requires.1 c.count-count.ensures.value c.word_at-h.ensures in
    omega arith

pub overflow_add-next-2 : goal.overflow_add-next-2
overflow_add-next-2 c =
    let g = fitting_read c.requires.0 c.requires.1 c.count-count.ensures.value c.word_at-h.ensures in
    omega arith

pub slice_bounds-put_run-end : goal.slice_bounds-put_run-end
slice_bounds-put_run-end c =
    let g = fitting_read c.requires.0 c.requires.1 c.count-count.ensures.value c.word_at-h.ensures in
    let r = within _ _ _ (sym c.outside.ensures ∙ c.if-outside.false) in
    omega arith

pub put_run-requires : goal.put_run-requires
put_run-requires c =
    let g = fitting_read c.requires.0 c.requires.1 c.count-count.ensures.value c.word_at-h.ensures in
    let r = within _ _ _ (sym c.outside.ensures ∙ c.if-outside.false) in
    let few : c.args.answer.now.words + (1 + c.count-count.result) ≤ limit = omega (arith, g.room) in
    let room = adds-room c.count-count.result c.put_asked.ensures (room-for _ c.requires.0 few) in
    let n : length (take (c.address_at-address.result / 4 + c.count-count.result - c.address_at-address.result / 4) (drop (c.address_at-address.result / 4) c.args.memory.now)) ≡ c.count-count.result =
    simp (length-take, length-drop) (omega arith) in
    rw n (omega arith, room)

pub returns : goal.returns
returns c =
    let w = c.word_at-h.ensures in
    rw c.behind.ensures
    (did_read c.args.memory.now c.requires.0 c.requires.1 (c.count-count.ensures.value ∙ ap count_of w) c.address_at-address.ensures
    c.outside.ensures c.if-outside.false (c.last.ensures ∙ ap last_of w) (ap (λ (x : ℕ). c.args.at + 1 + x) c.address_words.ensures.value)
    (adds-asked c.args.task.answer c.word_at-h.result c.count-count.ensures.value c.last.ensures c.put_asked.ensures)
    (read-part c.args.memory.now (c.address_at-address.result / 4) c.count-count.result) c.put_run.ensures)
