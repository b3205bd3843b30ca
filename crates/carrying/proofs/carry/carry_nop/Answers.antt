-- `carrying::carry::carry_nop` meets its contract: a header and the words of the advertisement. Assumes nothing.
use Prim.Native.Nat.{◌+◌, ◌≤◌}
use mathlib.Core.Path.{refl, ap, ◌∙◌}
use native.Mathlib.Omega.{arith}
use Rattle.header.specs.Limits.{limit}
use Rattle.header.specs.Header.{count_of, last_of}
use Rattle.carrying.proofs.Laws.Putting.{adds-room}
use Rattle.carrying.proofs.Inner.OneCommand.{adds-asked, room-for, room-one, fitting, fitting_read, did-nop}
use Rattle.carrying.proofs.carry.carry_nop.Goals as goal

pub word_at-h-requires : goal.word_at-h-requires
word_at-h-requires c = let g = fitting c.requires.0 c.requires.1 refl in omega arith

pub put_asked-requires : goal.put_asked-requires
put_asked-requires c = (c.requires.0.byte, room-one c.requires.0)

pub put_advert-requires : goal.put_advert-requires
put_advert-requires c =
    let g = fitting_read c.requires.0 c.requires.1 c.count-count.ensures.value c.word_at-h.ensures in
    let few : c.args.answer.now.words + (1 + c.count-count.result) ≤ limit = omega (arith, g.room) in
    (g.counted, adds-room c.count-count.result c.put_asked.ensures (room-for _ c.requires.0 few))

pub overflow_add-at : goal.overflow_add-at
overflow_add-at c =
    let g = fitting_read c.requires.0 c.requires.1 c.count-count.ensures.value c.word_at-h.ensures in
    omega arith

pub overflow_add-at-2 : goal.overflow_add-at-2
overflow_add-at-2 c =
    let g = fitting_read c.requires.0 c.requires.1 c.count-count.ensures.value c.word_at-h.ensures in
    omega arith

pub returns : goal.returns
returns c =
    let w = c.word_at-h.ensures in
    λ m. rw c.behind.ensures
    (did-nop m c.requires.0 c.requires.1 (c.count-count.ensures.value ∙ ap count_of w) (c.last.ensures ∙ ap last_of w)
    (adds-asked c.args.task.answer c.word_at-h.result c.count-count.ensures.value c.last.ensures c.put_asked.ensures) c.put_advert.ensures)
