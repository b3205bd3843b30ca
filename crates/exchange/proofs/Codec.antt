-- What crosses the channel: a plain message is read as it was written, its own answer is judged to say its outcome, and any other
-- answer is 33. The facts of both ends cite these. Assumes nothing.
use Prim.Native.Nat.{ℕ, zero, suc, ◌≤◌}
use mathlib.Core.Path.{◌≡◌, refl, sym, ap, ◌∙◌, fun_ext}
use mathlib.Core.Bool.{Bool, true, false}
use mathlib.Core.List.{List, [], ◌∷◌}
use native.Mathlib.Omega.{arith}
use native.Mathlib.Decide.{ℕ_discrete}
use lib.ListN.{length, get_or}
use Rattle.header.specs.declared.Kind.{Kind}
use Rattle.header.specs.Header.{tag_of, kind_of, discovery_of}
use Rattle.header.specs.Refusal.{refusal}
use Rattle.header.specs.Limits.{length_ok}
use Rattle.message.specs.Request.{Request, Reading, Refused, Means, Fits}
use Rattle.message.specs.Walk.{read, request_of}
use Rattle.message.proofs.Laws.Faults.{no-mean}
use Rattle.message.proofs.Laws.Back.{written_read}
use Rattle.message.proofs.Laws.Going.{read_first}
use Rattle.message.proofs.Laws.Back as message
use Rattle.answer.specs.Answer.{Answered, answer_byte, judge}
use Rattle.answer.proofs.Laws.Heads.{answer-tag, answer-discovery}
use Rattle.answer.proofs.Laws.Accepts.{judge-encoded, other_byte}
use Rattle.answer.proofs.Laws.Looking.{judge-long}
use Rattle.carrying.specs.Answers.{failed, answer_to}
use Rattle.std.specs.Prelude.{None}
use Rattle.initiator.specs.Outcome.{judged_by, count_in}
use Rattle.initiator.proofs.Laws.Outcomes.{judged-plain, ending-none, data-none, ending-first, ending-next, data-first, data-next}
use Rattle.exchange.specs.Outcomes.{Result, Outcome, each, told_at, told, result_of, results_in, outcome_over}
use Rattle.exchange.specs.Terms.{Plain}
use Rattle.exchange.specs.Sight.{Encodes, Answers}
use Rattle.exchange.proofs.Each.{each_or}

-- a plain message asks for its request, which fits; its first byte is byte 0
module _ {d : List ℕ} (p : Plain d) where
  pub asked_is : request_of d ≡ p.request
  asked_is = message.asked_is d p.request p.is

  pub plain_fits : Fits p.request
  plain_fits = (written_read d p.request p.bytes p.is).0

  pub asked-fits : Fits (request_of d)
  asked-fits = rw asked_is plain_fits

  pub first-is : get_or d 0 0 ≡ p.request.byte0
  first-is = (read_first d p.request p.is).1

  pub first-clear : discovery_of (get_or d 0 0) ≡ false
  first-clear = ap discovery_of first-is ∙ p.clear

  -- 31 lets it by, so an answer is judged
  pub judged-by : (a : List ℕ) → judged_by (read d) a ≡ judge p.request a
  judged-by a = ap (λ (x : Reading Request). judged_by x a) p.is ∙ judged-plain p.request a p.clear

-- an answer that may be given to a request is judged to be what it says
pub encodes-judged : {r : Request} {items : List Answered} {a : List ℕ} → Fits r → Encodes r items a → judge r a ≡ Means items
encodes-judged {r} {items} f e = ap (judge r) e.is ∙ judge-encoded r items f e.fits

-- whatever is judged to say something has an allowed length, and byte 0 of the request with kind 3
pub record Headed (r : Request) (a : List ℕ) : Type 0 where
  pub long : length_ok (length a) ≡ true
  pub first : get_or a 0 0 ≡ answer_byte r.byte0

pub judged-headed : (r : Request) (a : List ℕ) (items : List Answered) → judge r a ≡ Means items → Headed r a
judged-headed r a items m = go (length_ok (length a)) refl
  where
    by : length_ok (length a) ≡ true → Dec (get_or a 0 0 ≡ answer_byte r.byte0) → Headed r a
    by l (yes e) = record { long = l; first = e }
    by l (no n) = no-mean (sym (other_byte r a l n) ∙ m)

    go : (b : Bool) → length_ok (length a) ≡ b → Headed r a
    go true l = by l (ℕ_discrete (get_or a 0 0) (answer_byte r.byte0))
    go false l = no-mean (sym (judge-long r a l) ∙ m)

-- an answer with another byte 0 is 33
module _ {d : List ℕ} (p : Plain d) (r : Request) {a : List ℕ} (h : Headed r a) where
  unlike : (answer_byte r.byte0 ≡ answer_byte p.request.byte0 → ⊥) → judged_by (read d) a ≡ Refused (refusal 33)
  unlike n = judged-by p a ∙ other_byte p.request a h.long (λ e. n (sym h.first ∙ e))

  -- of another tag
  pub other_tag : (tag_of r.byte0 ≡ tag_of p.request.byte0 → ⊥) → judged_by (read d) a ≡ Refused (refusal 33)
  other_tag n = unlike (λ e. n (sym (answer-tag r.byte0) ∙ ap tag_of e ∙ answer-tag p.request.byte0))

  -- of a discovery
  pub other-kind : (discovery_of r.byte0 ≡ discovery_of p.request.byte0 → ⊥) → judged_by (read d) a ≡ Refused (refusal 33)
  other-kind n = unlike (λ e. n (sym (answer-discovery r.byte0) ∙ ap discovery_of e ∙ answer-discovery p.request.byte0))

-- the result of a command is that of its answer
pub result-at : (kind : Kind) (items : List Answered) (k : ℕ) → get_or (results_in kind items) k (result_of kind failed) ≡ result_of kind (get_or items k failed)
unfolding results_in
result-at kind [] zero = refl
result-at kind [] (suc k) = refl
result-at kind (a ∷ more) zero = refl
result-at kind (a ∷ more) (suc k) = result-at kind more k

-- results one by one
pub results-none : (kind : Kind) → results_in kind [] ≡ []
unfolding results_in
results-none kind = refl

pub results-more : (kind : Kind) (a : Answered) (more : List Answered) → results_in kind (a ∷ more) ≡ result_of kind a ∷ results_in kind more
unfolding results_in
results-more kind a more = refl

-- the outcome of carrying out a message is that of its request
pub outcome-by : (memory message : List ℕ)
    → outcome_over memory message ≡ results_in (kind_of (request_of message).byte0) (answer_to (request_of message) 0 memory)
unfolding outcome_over
outcome-by memory message = refl

-- command by command, the outcome functions tell what the answers say
each-told : (message : List ℕ) (items : List Answered) → each (length items) (told_at message (Means items)) ≡ results_in (kind_of (get_or message 0 0)) items
unfolding each results_in
each-told message [] = refl
each-told message (a ∷ more) = rw (ending-first a more, data-first a more kind, fun_ext next, each-told message more)
  where
    kind : Kind
    kind = kind_of (get_or message 0 0)

    next : (k : ℕ) → told_at message (Means (a ∷ more)) (suc k) ≡ told_at message (Means more) k
    next k = rw (ending-next a more k, data-next a more kind k)

-- what the loader is told of command k is what the outcome functions tell of it; of one that was not answered, nothing
abbrev nothing : Result
nothing = record { ending = None; words = [] }

none-past : (message : List ℕ) (items : List Answered) (k : ℕ) → length items ≤ k → told_at message (Means items) k ≡ nothing
none-past message [] k l = rw (ending-none k, data-none (kind_of (get_or message 0 0)) k)
none-past message (a ∷ more) zero l = absurd (omega arith)
none-past message (a ∷ more) (suc k) l =
    rw (ending-next a more k, data-next a more (kind_of (get_or message 0 0)) k) (none-past message more k (omega arith))

pub told_at_lem : (message answer : List ℕ) (k : ℕ)
    → get_or (told message answer) k (record { ending = None; words = [] }) ≡ told_at message (judged_by (read message) answer) k
unfolding told
told_at_lem message answer k = go (judged_by (read message) answer)
  where
    go : (p : Reading (List Answered)) → get_or (each (count_in p) (told_at message p)) k nothing ≡ told_at message p k
    go (Refused r) = each_or 0 (told_at message (Refused r)) k nothing (λ j l. refl)
    go (Means items) = each_or (length items) (told_at message (Means items)) k nothing (none-past message items)

module _ {d : List ℕ} (p : Plain d) {o : Outcome} {a : List ℕ} (h : Answers d o a) where
  -- a message's own answer is judged to be the answers given
  pub own-judged : judged_by (read d) a ≡ Means h.items
  own-judged = judged-by p a ∙ rw (← asked_is p) (encodes-judged (asked-fits p) h.encodes)

  -- it has the message's tag
  pub own-tag : tag_of (get_or a 0 0) ≡ tag_of (get_or d 0 0)
  own-tag =
      let j = encodes-judged (asked-fits p) h.encodes in
      ap tag_of (judged-headed (request_of d) a h.items j).first ∙ answer-tag (request_of d).byte0
      ∙ ap (λ (r : Request). tag_of r.byte0) (asked_is p) ∙ ap tag_of (sym (first-is p))

  -- and tells its outcome
  pub own-told : told d a ≡ o
  unfolding told
  own-told =
      let k : kind_of (request_of d).byte0 ≡ kind_of (get_or d 0 0) = ap (λ (r : Request). kind_of r.byte0) (asked_is p) ∙ ap kind_of (sym (first-is p)) in
      rw own-judged (each-told d h.items ∙ ap (λ (x : Kind). results_in x h.items) (sym k) ∙ sym h.says)
