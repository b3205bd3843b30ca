-- The answer to the fixed discovery, computed: its words, and what they are judged to say. Both ends cite these. Assumes nothing.
use Prim.Native.Nat.{ℕ, ◌<◌}
use mathlib.Core.Path.{◌≡◌, refl, ap, ◌∙◌}
use mathlib.Core.List.{List, []}
use native.Mathlib.Omega.{arith}
use lib.ListN.{get_or}
use Rattle.word.specs.Words.{bytes_of, Words}
use Rattle.word.proofs.Runs.{below_none, below-cons}
use Rattle.word.proofs.Crossing.{words_back}
use Rattle.header.specs.Header.{kind_no, byte0_from, header_from}
use Rattle.message.specs.Request.{Means}
use Rattle.message.specs.Discovery.{discovery_byte, discovery_request}
use Rattle.message.proofs.Laws.Round.{length-right}
use Rattle.answer.specs.Answer.{status_no, answer_byte, answer_fault, seen_of, look_on, answers_from, judge, answered_words, answer_words}
use Rattle.answer.specs.Discovery.{discovery_answered, discovery_answer}
use Rattle.answer.proofs.Laws.Looking.{judge-whole}

pub discovery-words : (mark : ℕ) → answer_words (answer_byte discovery_byte) (discovery_answered mark) ≡ discovery_answer mark
unfolding answer_words answered_words answer_byte header_from byte0_from discovery_byte
discovery-words mark = refl

module _ (mark : ℕ) (small : mark < 4294967296) where
  abbrev ws : List ℕ
  ws = discovery_answer mark

  are_words : Words ws
  are_words = below-cons _ _ _ (omega arith) (below-cons _ _ _ (omega arith) (below-cons _ mark [] small (below_none _)))

  first : get_or (bytes_of ws) 0 0 ≡ answer_byte discovery_byte
  unfolding bytes_of answer_byte byte0_from discovery_byte
  first = refl

  through : answers_from discovery_byte 0 discovery_request.commands ws ≡ Means (discovery_answered mark)
  unfolding answers_from look_on answer_fault answer_byte seen_of status_no byte0_from discovery_byte kind_no
  through = refl

  pub discovery-judged : judge discovery_request (bytes_of ws) ≡ Means (discovery_answered mark)
  discovery-judged =
      judge-whole discovery_request (bytes_of ws) (length-right ws (omega arith) (omega arith)) first
      ∙ ap (answers_from discovery_byte 0 discovery_request.commands) (words_back ws are_words) ∙ through
