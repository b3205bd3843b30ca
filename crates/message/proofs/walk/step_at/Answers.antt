-- `message::walk::step_at` meets its contract: no header, a short write, a last read, the fault, or the header. Assumes
-- nothing.
use Prim.Native.Nat.{◌+◌}
use lib.ListN.{drop}
use Rattle.word.specs.Words.{words_of}
use Rattle.word.proofs.Crossing.{length-words_of}
use Rattle.header.specs.Header.{head_of, address_words}
use Rattle.header.proofs.Laws.Refusal.{check-passed}
use Rattle.message.specs.Walk.{step_at}
use Rattle.message.specs.Address.{address_from}
use Rattle.message.proofs.Laws.Faults.{step-read}
use Rattle.message.proofs.walk.step_at.Goals as goal

pub returns-then-short_write : goal.returns-then-short_write
unfolding step_at head_of
returns-then-short_write c =
    let a = c.args in
    let s = c.short_write.ensures c.if-short_write.true in
    let address = address_from (address_words a.byte0) (drop (a.at + 1) (words_of a.datagram.now)) in
    rw (length-words_of a.datagram.now, ← c.word_at-h.ensures, check-passed _ _ c.in_ok-check.ensures, step-read _ _ _ _ _ (s.2 address))
    (simp (s.0, s.1, c.byte1.ensures.value, c.address_words.ensures.value, c.last.ensures))
