-- `table::judging::came_back` meets its contract: not OK, or compared. Assumes nothing.
use borrow.Author.Rules.{rules}
use lib.ListN.{get_or}
use Rattle.word.specs.Words.{Bytes}
use Rattle.word.proofs.Runs.{below_all}
use Rattle.header.specs.Header.{kind_of}
use Rattle.table.specs.Attempt.{told_of}
use Rattle.initiator.proofs.Laws.Outcomes.{told-words}
use Rattle.table.proofs.Inner.Comparing.{row-failed, row-compared}
use Rattle.table.proofs.judging.came_back.Goals as goal

pub returns-else-ok_at : goal.returns-else-ok_at
returns-else-ok_at c =
    let a = c.args in
    rw c.if-ok_at.false
    (row-failed a.rows.now (told_of a.message.now a.answer.now) a.i c.ok_at.ensures c.if-ok_at.false)

pub returns-then-ok_at : goal.returns-then-ok_at
returns-then-ok_at c =
    let a = c.args in
    let bm : Bytes a.message.now =
    below_all 256 _ (λ i. search rules) in
    let ba : Bytes a.answer.now =
    below_all 256 _ (λ i. search rules) in
    row-compared a.rows.now (told_of a.message.now a.answer.now) a.i
    c.ok_at.ensures c.if-ok_at.true c.row_of.ensures.value
    (told-words a.message.now a.answer.now (kind_of (get_or a.message.now 0 0)) a.i bm ba)
    c.read_data.ensures.words c.same_words.ensures
