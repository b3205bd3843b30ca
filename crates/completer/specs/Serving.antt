-- The call: what is there after it. Assumes nothing.
use Rattle.std.specs.Prelude.{ℕ, ◌*◌, ◌/◌, true, List, length, Ok, Err}
use Rattle.word.specs.Words.{put, put_words}
use Rattle.header.specs.Limits.{limit, limit_bytes}
use Rattle.header.specs.Header.{tag_of}
use Rattle.header.specs.Refusal.{refusal}
use Rattle.message.specs.Request.{Request}
use Rattle.message.specs.Walk.{request_of}
use Rattle.memory.specs.Moves.{memory_after}
use Rattle.carrying.specs.Answers.{words_to}
use Rattle.tags.specs.declared.rule.Verdict.TheVariants.{New, Repeat, Discovery}
use Rattle.tags.specs.Record.{place_of, mark_of, words_at, record_by}
use Rattle.tags.specs.Rule.{Ruling}
use Rattle.completer.specs.Controller.{Controller, lent, with_memory, answer_in, After, left}
use Rattle.completer.specs.Verdict.{verdict_of}

-- the answer to a request, "word 1 is the stored tag at entry plus 16, or 0 where none is stored"
unfoldable pub answer_by : Controller → Request → List ℕ
answer_by c r = words_to r (mark_of c.tags) c.memory

-- "carry out": memory is what the message makes of it, and nothing else changes
abbrev pub carried_out : Controller → Request → Controller
carried_out c r = with_memory c (memory_after r c.memory)

-- "store tag and answer", [7] "keep the last request as well as its answer", [9] at the place of its tag; "words of the
-- stored answer past its new length", and bytes of the kept request past its own, "keep what they held", and so do the
-- other places
abbrev pub keeping : Controller → List ℕ → List ℕ → Controller
keeping c dg answer =
    let place = place_of (tag_of (request_of dg).byte0) in
    lent c.memory (put c.stored (limit * place) answer) (put c.kept (limit_bytes * place) dg)
    (record_by true c.tags (request_of dg).byte0 (length answer) (length dg / 4))

-- so many words sent, which stand at the front of the output; "later output bytes .. keep what they held"
abbrev pub sends : ℕ → List ℕ → Controller → List ℕ → After
sends n words c output = left (refusal 0) (4 * n) c (put_words output 0 words)

-- the datagram's request is carried out; it is new, or a discovery
abbrev pub discovers : Controller → List ℕ → List ℕ → After
discovers c output dg =
    let answer = answer_by c (request_of dg) in
    sends (length answer) answer (carried_out c (request_of dg)) output

abbrev pub accepts : Controller → List ℕ → List ℕ → After
accepts c output dg =
    let answer = answer_by c (request_of dg) in
    sends (length answer) answer (keeping (carried_out c (request_of dg)) dg answer) output

-- refused: "its number and length 0; memory, stored answer, record and output are unchanged". A repeat: "the stored
-- answer is sent, nothing else happens", the one of its tag. New: "carry out, store tag and answer". Discovery: "the
-- message is carried out, and tag and stored answer stay".
abbrev pub after_by : Ruling → Controller → List ℕ → List ℕ → After
after_by (Err r) c output dg = left r 0 c output
after_by (Ok (Repeat tag)) c output dg = sends (words_at c.tags tag) (answer_in c.stored c.tags tag) c output
after_by (Ok Discovery) c output dg = discovers c output dg
after_by (Ok New) c output dg = accepts c output dg

unfoldable pub after : Controller → List ℕ → List ℕ → After
after c output dg = after_by (verdict_of c output dg) c output dg
