-- `initiator::outcome::body_at` meets its contract, by the header read. Assumes nothing.
use Rattle.initiator.proofs.outcome.body_at.Goals as goal

pub returns : goal.returns
returns c = record { value = simp (c.body_words.ensures.value, c.word_at.ensures); below = c.body_words.ensures.below }
