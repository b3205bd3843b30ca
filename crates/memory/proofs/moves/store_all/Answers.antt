-- `memory::moves::store_all` meets its contract: one word by itself, or a word merged, a run copied, a word merged. Assumes nothing.
use mathlib.Core.Path.{refl}
use native.Mathlib.Omega.{arith}
use Rattle.word.specs.Words.{words_of}
use Rattle.word.proofs.Runs.{below_all}
use Rattle.word.proofs.Crossing.{words-below, length-words_of}
use Rattle.memory.proofs.Laws.Moving.{write-one, write-made}
use Rattle.memory.proofs.moves.store_all.Goals as goal

pub returns-then-count-eq1 : goal.returns-then-count-eq1
returns-then-count-eq1 c =
    let one = c.if-count-eq1.true in
    let dg = c.args.datagram.now in (
      omega (arith, one),
      write-one _ (words_of dg) _ _ _ _ _ c.store.ensures c.first_field.ensures.value c.word_at.ensures one (omega (arith, length-words_of dg)),
    )

pub returns : goal.returns
returns c =
    let a = c.args in
    let dg = a.datagram.now in (
      refl,
      write-made a.memory.now (words_of dg) a.at a.from a.count _ _ c.store.ensures c.get_words.ensures c.store-2.ensures
          c.first_field.ensures.value c.last_field.ensures c.word_at.ensures c.word_at-2.ensures
          (words-below dg (below_all 256 dg (λ i. omega (arith, c.type_inv.datagram i)))) (omega arith) (omega (arith, length-words_of dg)) (omega arith),
    )
