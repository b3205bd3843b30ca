-- The answer to another's discovery is refused by 33 (`others-refused` of specs/Mistaken.antt). Assumes nothing.
use mathlib.Core.Path.{◌≡◌, sym, ap, subst, ◌∙◌}
use mathlib.Core.Bool.{true, false}
use mathlib.Core.Option.{some, some-injective}
use native.Mathlib.Omega.{arith}
use lib.ListN.{get_or}
use Rattle.word.specs.Words.{bytes_of}
use Rattle.word.proofs.Runs.{words-front}
use Rattle.header.specs.declared.Kind.TheVariants.{Nop}
use Rattle.header.specs.Header.{tag_of}
use Rattle.header.specs.Refusal.{refusal}
use Rattle.header.proofs.Laws.Header.{tag_back}
use Rattle.message.specs.Request.{Request, Fits}
use Rattle.message.specs.Walk.{request_of}
use Rattle.message.specs.Discovery.{discovery_byte, discovery_request}
use Rattle.message.proofs.Laws.Back.{asked_is, written_read}
use Rattle.message.proofs.Laws.Fixed.{discovery-byte}
use Rattle.answer.specs.Answer.{answer_byte}
use Rattle.answer.proofs.Laws.Heads.{answer-tag}
use Rattle.answer.proofs.Laws.Accepts.{other_byte}
use Rattle.std.specs.Prelude.{Ok}
use Rattle.tags.specs.declared.rule.Verdict.TheVariants.{Discovery}
use Rattle.tags.proofs.Laws.Record.{rule-finds}
use Rattle.completer.specs.Verdict.{judged}
use Rattle.initiator.specs.declared.sender.Moved.{Moved}
use Rattle.initiator.specs.Sender.{spoiled, start_of}
use Rattle.initiator.proofs.Laws.Starting.{start-refused}
use Rattle.exchange.specs.Ends.{sent_in}
use Rattle.exchange.proofs.Codec.{encodes-judged, Headed, judged-headed}
use Rattle.exchange.proofs.Going.{serving-is, words, encodes}
use Rattle.lives.specs.Lives.{learnt_in}
use Rattle.lives.specs.Mistaken.{OthersRefused}

-- the fixed discovery has tag 0
ask-tag : tag_of discovery_byte ≡ 0
ask-tag = ap tag_of (sym discovery-byte) ∙ tag_back 0 Nop false true (omega arith)

pub others-refused : OthersRefused
others-refused c o x a r h l bytes e d n g = (ap (λ (m : Moved). m.refusal) started, ap learnt_in started)
  where
    is : request_of x ≡ r
    is = asked_is x r e

    fits : Fits (request_of x)
    fits = rw is (written_read x r bytes e).0

    -- what is given is the answer to the discovery, so it has an allowed length, and the discovery's tag
    given : a ≡ bytes_of (words c h (request_of x) fits)
    given =
        let v = ap (judged c.tags) e ∙ rule-finds c.tags r.byte0 d in
        some-injective _ _
        (sym g ∙ ap sent_in (serving-is c o h l x (Ok Discovery) v) ∙ ap some (words-front o (words c h (request_of x) fits)))

    head : Headed (request_of x) a
    head =
        subst (Headed (request_of x)) (sym given)
        (judged-headed (request_of x) _ _ (encodes-judged fits (encodes c h (request_of x) fits)))

    other : get_or a 0 0 ≡ answer_byte discovery_byte → ⊥
    other q =
        n (sym (answer-tag r.byte0) ∙ ap (λ (y : Request). tag_of (answer_byte y.byte0)) (sym is)
        ∙ ap tag_of (sym head.first ∙ q) ∙ answer-tag discovery_byte ∙ ask-tag)

    started : start_of a ≡ spoiled (refusal 33)
    started = start-refused a (refusal 33) (other_byte discovery_request a head.long other)
