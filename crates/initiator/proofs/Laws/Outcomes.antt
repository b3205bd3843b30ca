-- What an answer tells, piece by piece. Whoever stands above the outcome's functions cites these. Assumes nothing.
use Prim.Native.Nat.{ℕ, zero, suc}
use mathlib.Core.Path.{◌≡◌, refl, ◌∙◌}
use mathlib.Core.Bool.{false}
use mathlib.Core.List.{List, [], ◌∷◌, ◌++◌}
use Rattle.std.specs.Prelude.{Some, None}
use lib.ListN.{length}
use lib.Seq.{take_at, drop_at}
use Rattle.word.specs.Words.{Bytes, Words}
use Rattle.word.proofs.Runs.{below_none, below-take, below-drop}
use Rattle.header.specs.declared.Kind.{Kind}
use Rattle.header.specs.declared.Kind.TheVariants.{Nop, Write, Read, Response}
use Rattle.header.specs.Header.{discovery_of}
use Rattle.message.specs.Request.{Request, Reading, Refused, Means, none}
use Rattle.message.specs.Walk.{read}
use Rattle.message.proofs.Laws.Back.{written_read}
use Rattle.answer.specs.declared.Status.{Status}
use Rattle.answer.specs.declared.Status.TheVariants.{Ok, Timeout, Error}
use Rattle.answer.specs.Answer.{Answered, answer_byte, answer_words, judge}
use Rattle.answer.proofs.Laws.Accepts.{encode-judged, answers-words}
use Rattle.answer.proofs.Laws.Giving.{answered-is, answer-more}
use Rattle.initiator.specs.Asking.{plainly}
use Rattle.initiator.specs.Outcome.{judged_in, judged_by, ending_at, data_of, data_at, data_in}
use Rattle.initiator.proofs.Laws.Asked.{plainly-means, plainly-reads}

-- of a request that is no discovery the answer is judged
pub judged-plain : (r : Request) (answer : List ℕ) → discovery_of r.byte0 ≡ false → judged_by (Means r) answer ≡ judge r answer
unfolding judged_by
judged-plain r answer e =
    let p : plainly (Means r) ≡ Means r = plainly-means (Means r) r refl ∙ rw e in
    rw p

-- where no command was answered, none ended, and there are no data
pub ending-none : (k : ℕ) → ending_at k [] ≡ None
unfolding ending_at
ending-none k = refl

pub data-none : (kind : Kind) (k : ℕ) → data_at kind k [] ≡ []
unfolding data_at
data-none kind k = refl

-- how the first command ended, and its data; and those behind it
module _ (a : Answered) (more : List Answered) where
  pub ending-first : ending_at 0 (a ∷ more) ≡ Some a.status
  unfolding ending_at
  ending-first = refl

  pub ending-next : (k : ℕ) → ending_at (suc k) (a ∷ more) ≡ ending_at k more
  unfolding ending_at
  ending-next k = refl

  module _ (kind : Kind) where
    pub data-first : data_at kind 0 (a ∷ more) ≡ data_of kind a.status a.payload
    unfolding data_at
    data-first = refl

    pub data-next : (k : ℕ) → data_at kind (suc k) (a ∷ more) ≡ data_at kind k more
    unfolding data_at
    data-next k = refl

-- read data are words
data-words : (kind : Kind) (s : Status) (payload : List ℕ) → Words payload → Words (data_of kind s payload)
data-words Read Ok payload h = h
data-words Read Timeout payload h = below_none _
data-words Read Error payload h = below_none _
data-words Nop s payload h = below_none _
data-words Write s payload h = below_none _
data-words Response s payload h = below_none _

at_words : (byte : ℕ) (items : List Answered) (kind : Kind) (k : ℕ) → Words (answer_words byte items)
    → Words (data_at kind k items)
unfolding data_at
at_words byte [] kind zero h = below_none _
at_words byte [] kind (suc k) h = below_none _
at_words byte (a ∷ more) kind k h =
    go k (below-drop _ 1 _ (rw (answer-more byte a more, answered-is byte (none more) a) at h))
    (λ i g. at_words byte more kind i g)
  where
    go : (k : ℕ) → Words (a.payload ++ answer_words byte more)
        → ((i : ℕ) → Words (answer_words byte more) → Words (data_at kind i more))
        → Words (data_at kind k (a ∷ more))
    go zero w on =
        data-words kind a.status a.payload
        (rw (take_at a.payload (answer_words byte more) (length a.payload) refl) at
        (below-take _ (length a.payload) _ w))
    go (suc i) w on =
        on i
        (rw (drop_at a.payload (answer_words byte more) (length a.payload) refl) at
        (below-drop _ (length a.payload) _ w))

pub told-words : (message answer : List ℕ) (kind : Kind) (k : ℕ) → Bytes message → Bytes answer
    → Words (data_in kind k (judged_by (read message) answer))
unfolding judged_by
told-words message answer kind k bm ba = go (plainly (read message)) refl
  where
    by : (q : Request) → plainly (read message) ≡ Means q → (p : Reading (List Answered)) → judge q answer ≡ p
        → Words (data_in kind k p)
    by q z (Refused r) e = below_none _
    by q z (Means items) e =
        let fits = (written_read message q bm (plainly-reads (read message) q z).is).0 in
        at_words (answer_byte q.byte0) items kind k
        (answers-words q.byte0 q.commands items fits.asked.all (encode-judged q answer items ba e).0)

    go : (x : Reading Request) → plainly (read message) ≡ x → Words (data_in kind k (judged_in x answer))
    go (Refused r) z = below_none _
    go (Means q) z = by q z (judge q answer) refl
