-- `carrying::carry::carry_write` meets its contract: it fails, or its words are moved and it is answered. Assumes nothing.
use Prim.Native.Nat.{ℕ, ◌+◌}
use mathlib.Core.Path.{refl, sym, ap, ◌∙◌}
use native.Mathlib.Omega.{arith}
use Rattle.header.specs.declared.Kind.TheVariants.{Write}
use Rattle.header.specs.Header.{count_of, last_of, byte1_of}
use Rattle.memory.proofs.Laws.Moving.{within}
use Rattle.carrying.proofs.Inner.OneCommand.{fitting, fitting_read, failed-there, did_write}
use Rattle.carrying.proofs.carry.carry_write.Goals as goal

pub word_at-h-requires : goal.word_at-h-requires
word_at-h-requires c = let g = fitting c.requires.0 c.requires.1 refl in omega arith

pub address_at-address-requires : goal.address_at-address-requires
address_at-address-requires c =
    let g = fitting_read c.requires.0 c.requires.1 c.count-count.ensures.value c.word_at-h.ensures in
    omega arith

pub returns-then-outside : goal.returns-then-outside
returns-then-outside c =
    failed-there _ c.requires.0 Write c.requires.1 refl (c.count-count.ensures.value ∙ ap count_of c.word_at-h.ensures) c.address_at-address.ensures
    c.outside.ensures c.if-outside.true c.put_head.ensures

pub overflow_add-from : goal.overflow_add-from
overflow_add-from c =
    let g = fitting_read c.requires.0 c.requires.1 c.count-count.ensures.value c.word_at-h.ensures in
    omega arith

pub overflow_add-from-2 : goal.overflow_add-from-2
overflow_add-from-2 c =
    let g = fitting_read c.requires.0 c.requires.1 c.count-count.ensures.value c.word_at-h.ensures in
    omega arith

pub store_all-next-requires : goal.store_all-next-requires
store_all-next-requires c =
    let g = fitting_read c.requires.0 c.requires.1 c.count-count.ensures.value c.word_at-h.ensures in
    let r = within _ _ _ (sym c.outside.ensures ∙ c.if-outside.false) in
    (omega arith, omega arith, omega arith, omega arith)

pub returns : goal.returns
returns c =
    let w = c.word_at-h.ensures in
    rw c.behind.ensures
    (did_write c.args.memory.now c.requires.0 c.requires.1 (c.count-count.ensures.value ∙ ap count_of w) c.address_at-address.ensures
    c.outside.ensures c.if-outside.false (c.last-last.ensures ∙ ap last_of w) (c.byte1.ensures.value ∙ ap byte1_of w) (ap (λ (x : ℕ). c.args.at + 1 + x) c.address_words.ensures.value)
    c.store_all-next.ensures.0 c.put_head-2.ensures c.store_all-next.ensures.1)
