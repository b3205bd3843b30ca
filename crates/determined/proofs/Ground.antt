-- The contracts of the public functions below the ends are determined. Assumes nothing.
use Rattle.determined.specs.Ground.{InWord, InHeader, InMessage, InAnswer, InMemory, InCarrying, InTags}
use Rattle.determined.proofs.Equal.{both, firsts, one_of, first_of, two-of}

pub in-word : InWord
in-word =
    record {
      from_byte = λ M 𝓤 𝓛 mem run κs a g one other. first_of 𝓤;
      word_at = λ M 𝓤 𝓛 mem run κs a g one other. one_of 𝓤;
      put_word = λ M 𝓤 𝓛 mem run κs a g one other. one_of 𝓤;
      merge = λ M 𝓤 𝓛 mem run κs a g one other. one_of 𝓤;
      put-words = λ M 𝓤 𝓛 mem run κs a g one other. one_of 𝓤;
      get-words = λ M 𝓤 𝓛 mem run κs a g one other. one_of 𝓤;
      copy-words = λ M 𝓤 𝓛 mem run κs a g one other. one_of 𝓤;
      copy-bytes = λ M 𝓤 𝓛 mem run κs a g one other. one_of 𝓤;
      same-words = λ M 𝓤 𝓛 mem run κs a g one other. one_of 𝓤;
    }

pub in-header : InHeader
in-header =
    record {
      tag = λ M 𝓤 𝓛 mem run κs a g one other. first_of 𝓤;
      next-tag = λ M 𝓤 𝓛 mem run κs a g one other. first_of 𝓤;
      kind-no = λ M 𝓤 𝓛 mem run κs a g one other. one_of 𝓤;
      kind-of = λ M 𝓤 𝓛 mem run κs a g one other. one_of 𝓤;
      number = λ M 𝓤 𝓛 mem run κs a g one other. both 𝓤 (λ p q. rw (p.0, q.0));
      wide = λ M 𝓤 𝓛 mem run κs a g one other. one_of 𝓤;
      discovery = λ M 𝓤 𝓛 mem run κs a g one other. one_of 𝓤;
      byte0 = λ M 𝓤 𝓛 mem run κs a g one other. first_of 𝓤;
      byte1 = λ M 𝓤 𝓛 mem run κs a g one other. first_of 𝓤;
      first_field = λ M 𝓤 𝓛 mem run κs a g one other. first_of 𝓤;
      last-field = λ M 𝓤 𝓛 mem run κs a g one other. one_of 𝓤;
      count = λ M 𝓤 𝓛 mem run κs a g one other. first_of 𝓤;
      reserved = λ M 𝓤 𝓛 mem run κs a g one other. one_of 𝓤;
      last = λ M 𝓤 𝓛 mem run κs a g one other. one_of 𝓤;
      byte0-from = λ M 𝓤 𝓛 mem run κs a g one other. first_of 𝓤;
      header-from = λ M 𝓤 𝓛 mem run κs a g one other. one_of 𝓤;
      address-words = λ M 𝓤 𝓛 mem run κs a g one other. first_of 𝓤;
      data-words = λ M 𝓤 𝓛 mem run κs a g one other. first_of 𝓤;
      reply-words = λ M 𝓤 𝓛 mem run κs a g one other. first_of 𝓤;
      body-words = λ M 𝓤 𝓛 mem run κs a g one other. first_of 𝓤;
      size = λ M 𝓤 𝓛 mem run κs a g one other. one_of 𝓤;
      as-asked = λ M 𝓤 𝓛 mem run κs a g one other. one_of 𝓤;
      head-of = λ M 𝓤 𝓛 mem run κs a g one other. one_of 𝓤;
      ends-ok = λ M 𝓤 𝓛 mem run κs a g one other. one_of 𝓤;
      length-ok = λ M 𝓤 𝓛 mem run κs a g one other. one_of 𝓤;
      of = λ M 𝓤 𝓛 mem run κs a g one other. one_of 𝓤;
      check = λ M 𝓤 𝓛 mem run κs a g one other. one_of 𝓤;
    }

pub in-message : InMessage
in-message =
    record {
      address-at = λ M 𝓤 𝓛 mem run κs a g one other. one_of 𝓤;
      put-address = λ M 𝓤 𝓛 mem run κs a g one other. one_of 𝓤;
      bytes = λ M 𝓤 𝓛 mem run κs a g one other. one_of 𝓤;
      count-ok = λ M 𝓤 𝓛 mem run κs a g one other. one_of 𝓤;
      pattern-ok = λ M 𝓤 𝓛 mem run κs a g one other. one_of 𝓤;
      walk = λ M 𝓤 𝓛 mem run κs a g one other. one_of 𝓤;
    }

pub in-answer : InAnswer
in-answer =
    record {
      status-no = λ M 𝓤 𝓛 mem run κs a g one other. one_of 𝓤;
      code = λ M 𝓤 𝓛 mem run κs a g one other. both 𝓤 (λ p q. rw (p.0, q.0));
      answer-byte = λ M 𝓤 𝓛 mem run κs a g one other. first_of 𝓤;
      look-on = λ M 𝓤 𝓛 mem run κs a g one other. one_of 𝓤;
      look_at = λ M 𝓤 𝓛 mem run κs a g one other. one_of 𝓤;
      check-head = λ M 𝓤 𝓛 mem run κs a g one other. one_of 𝓤;
    }

pub in_memory : InMemory
in_memory =
    record {
      outside = λ M 𝓤 𝓛 mem run κs a g one other. one_of 𝓤;
      store = λ M 𝓤 𝓛 mem run κs a g one other. one_of 𝓤;
      store-all = λ M 𝓤 𝓛 mem run κs a g one other. two-of 𝓤;
    }

pub in-carrying : InCarrying
in-carrying =
    record {
      carry = λ M 𝓤 𝓛 mem run κs a g one other. firsts 𝓤 (λ p q. rw (p.words, q.words, p.memory, q.memory, p.puts.stored, q.puts.stored, p.puts.output, q.puts.output));
    }

pub in-tags : InTags
in-tags =
    record {
      fresh = λ M 𝓤 𝓛 mem run κs a g one other. one_of 𝓤;
      place = λ M 𝓤 𝓛 mem run κs a g one other. first_of 𝓤;
      record-ok = λ M 𝓤 𝓛 mem run κs a g one other. one_of 𝓤;
      kept-ok = λ M 𝓤 𝓛 mem run κs a g one other. one_of 𝓤;
      words-at = λ M 𝓤 𝓛 mem run κs a g one other. one_of 𝓤;
      request-at = λ M 𝓤 𝓛 mem run κs a g one other. one_of 𝓤;
      record-after = λ M 𝓤 𝓛 mem run κs a g one other. one_of 𝓤;
      of = λ M 𝓤 𝓛 mem run κs a g one other. one_of 𝓤;
      mark = λ M 𝓤 𝓛 mem run κs a g one other. one_of 𝓤;
      rule = λ M 𝓤 𝓛 mem run κs a g one other. one_of 𝓤;
    }
