-- The part of an answer in which a command's read data stand: it lies inside the answer, and its bytes are those data words. The
-- proofs of `read_span` and `read_data` cite these. Assumes nothing.
use Prim.Native.Nat.{ℕ, zero, suc, ◌+◌, ◌-◌, ◌*◌, ◌≤◌}
use mathlib.Core.Path.{◌≡◌, refl, sym, ap, ◌∙◌}
use mathlib.Core.List.{List, [], ◌∷◌, ◌++◌, append_assoc}
use native.Mathlib.Omega.{arith}
use lib.ListN.{length, take, drop, length-append}
use lib.Seq.{take_at, drop_at}
use Rattle.word.specs.Words.{bytes_of, Bytes}
use Rattle.word.proofs.Runs.{bytes-none, bytes-append, length-bytes}
use Rattle.header.specs.declared.Kind.{Kind}
use Rattle.header.specs.declared.Kind.TheVariants.{Nop, Write, Read, Response}
use Rattle.header.specs.declared.refusal.Refusal.{Refusal}
use Rattle.header.specs.Header.{header_from}
use Rattle.message.specs.Request.{Request, Reading, Refused, Means, none}
use Rattle.answer.specs.declared.Status.{Status}
use Rattle.answer.specs.declared.Status.TheVariants.{Ok, Timeout, Error}
use Rattle.answer.specs.Answer.{Answered, code_of, answer_byte, judge, answer_words}
use Rattle.answer.proofs.Laws.Giving.{answered-is, answer-more, encoded-is}
use Rattle.answer.proofs.Laws.Accepts.{encode-judged}
use Rattle.initiator.specs.Outcome.{judged_in, judged_by, span_of, part_of, part_at, part_in, cut, data_of, data_at, data_in}
use Rattle.initiator.specs.Asking.{plainly}

-- a run of words in the middle of bytes
middle : (p s r : List ℕ) (a n : ℕ) → length p ≡ a → length s ≡ n → take (4 * (a + n) - 4 * a) (drop (4 * a) (bytes_of (p ++ (s ++ r)))) ≡ bytes_of s
middle p s r a n e f =
    let lp : length (bytes_of p) ≡ 4 * a = length-bytes p ∙ ap (λ (x : ℕ). 4 * x) e in
    let ls : length (bytes_of s) ≡ 4 * (a + n) - 4 * a = length-bytes s ∙ omega arith in
    rw (bytes-append p (s ++ r), bytes-append s r, drop_at (bytes_of p) (bytes_of s ++ bytes_of r) (4 * a) lp, take_at (bytes_of s) (bytes_of r) _ ls)

-- one answer's part, p standing before it and r behind it
one-part : (kind : Kind) (s : Status) (payload p r : List ℕ) (h : ℕ)
    → cut (part_of kind s (length p) (length payload)) (bytes_of (p ++ (h ∷ (payload ++ r)))) ≡ bytes_of (data_of kind s payload)
unfolding span_of
one-part Read Ok payload p r h =
    let e : p ++ (h ∷ (payload ++ r)) ≡ (p ++ h ∷ []) ++ (payload ++ r) = sym (append_assoc p (h ∷ []) (payload ++ r)) in
    rw e (middle (p ++ h ∷ []) payload r (length p + 1) (length payload) (length-append p (h ∷ [])) refl)
one-part Read Timeout payload p r h = sym bytes-none
one-part Read Error payload p r h = sym bytes-none
one-part Nop s payload p r h = sym bytes-none
one-part Write s payload p r h = sym bytes-none
one-part Response s payload p r h = sym bytes-none

-- the words of an answer that others follow, behind p
regroup : (byte : ℕ) (p : List ℕ) (a : Answered) (more : List Answered)
    → p ++ answer_words byte (a ∷ more) ≡ p ++ (header_from byte (code_of a.status) (length a.payload) (none more) ∷ (a.payload ++ answer_words byte more))
regroup byte p a more = rw (answer-more byte a more, answered-is byte (none more) a)

-- command k's part of the answers behind p
pub part-data : (kind : Kind) (byte k : ℕ) (items : List Answered) (p : List ℕ)
    → cut (part_at kind k (length p) items) (bytes_of (p ++ answer_words byte items)) ≡ bytes_of (data_at kind k items)
unfolding part_at data_at
part-data kind byte zero [] p = sym bytes-none
part-data kind byte (suc k) [] p = sym bytes-none
part-data kind byte zero (a ∷ more) p = rw (regroup byte p a more) (one-part kind a.status a.payload p (answer_words byte more) _)
part-data kind byte (suc k) (a ∷ more) p =
    let h : ℕ = header_from byte (code_of a.status) (length a.payload) (none more) in
    let q : List ℕ = p ++ (h ∷ a.payload) in
    let n : length q ≡ length p + 1 + length a.payload = length-append p (h ∷ a.payload) ∙ omega arith in
    let e : p ++ answer_words byte (a ∷ more) ≡ q ++ answer_words byte more = regroup byte p a more ∙ sym (append_assoc p (h ∷ a.payload) (answer_words byte more)) in
    ap (λ (l : List ℕ). cut (part_at kind k (length p + 1 + length a.payload) more) (bytes_of l)) e
    ∙ ap (λ (i : ℕ). cut (part_at kind k i more) (bytes_of (q ++ answer_words byte more))) (sym n)
    ∙ part-data kind byte k more q

-- and it lies inside
one_inside : (kind : Kind) (s : Status) (at n : ℕ) → ((part_of kind s at n).start ≤ (part_of kind s at n).end) × ((part_of kind s at n).end ≤ 4 * (at + 1 + n))
unfolding span_of
one_inside Read Ok at n = (omega arith, omega arith)
one_inside Read Timeout at n = (omega arith, omega arith)
one_inside Read Error at n = (omega arith, omega arith)
one_inside Nop s at n = (omega arith, omega arith)
one_inside Write s at n = (omega arith, omega arith)
one_inside Response s at n = (omega arith, omega arith)

answer-long : (byte : ℕ) (a : Answered) (more : List Answered) → length (answer_words byte (a ∷ more)) ≡ 1 + length a.payload + length (answer_words byte more)
answer-long byte a more = rw (answer-more byte a more, answered-is byte (none more) a) (omega (arith, length-append a.payload (answer_words byte more)))

part-inside : (kind : Kind) (byte k at : ℕ) (items : List Answered)
    → ((part_at kind k at items).start ≤ (part_at kind k at items).end) × ((part_at kind k at items).end ≤ 4 * (at + length (answer_words byte items)))
unfolding part_at
part-inside kind byte zero at [] = (omega arith, omega arith)
part-inside kind byte (suc k) at [] = (omega arith, omega arith)
part-inside kind byte zero at (a ∷ more) =
    let o = one_inside kind a.status at (length a.payload) in
    (o.0, omega (arith, o.1, answer-long byte a more))
part-inside kind byte (suc k) at (a ∷ more) =
    let o = part-inside kind byte k (at + 1 + length a.payload) more in
    (o.0, omega (arith, o.1, answer-long byte a more))

-- of any answer to any request
judged-part : (r : Request) (answer : List ℕ) (kind : Kind) (k : ℕ) (items : List Answered) → Bytes answer → judge r answer ≡ Means items
    → ((part_at kind k 0 items).end ≤ length answer) × (cut (part_at kind k 0 items) answer ≡ bytes_of (data_at kind k items))
judged-part r answer kind k items b m =
    let byte : ℕ = answer_byte r.byte0 in
    let e : answer ≡ bytes_of (answer_words byte items) = (encode-judged r answer items b m).1 ∙ encoded-is r items in
    let n : length answer ≡ 4 * length (answer_words byte items) = ap length e ∙ length-bytes (answer_words byte items) in
    (omega (arith, (part-inside kind byte k 0 items).1), ap (cut (part_at kind k 0 items)) e ∙ part-data kind byte k items [])

module _ (answer : List ℕ) (kind : Kind) (k : ℕ) (b : Bytes answer) where
  pub record Holds (p : Reading (List Answered)) : Type 0 where
    pub ordered : (part_in kind k p).start ≤ (part_in kind k p).end
    pub inside : (part_in kind k p).end ≤ length answer
    pub words : cut (part_in kind k p) answer ≡ bytes_of (data_in kind k p)

  none-holds : (r : Refusal) → Holds (Refused r)
  none-holds r = record { ordered = omega arith; inside = omega arith; words = sym bytes-none }

  judged-holds : (r : Request) (p : Reading (List Answered)) → judge r answer ≡ p → Holds p
  judged-holds r (Refused q) e = none-holds q
  judged-holds r (Means items) e =
      let o = judged-part r answer kind k items b e in
      record { ordered = (part-inside kind 0 k 0 items).0; inside = o.0; words = o.1 }

  pub part-holds : (p : Reading Request) → Holds (judged_by p answer)
  unfolding judged_by
  part-holds p = go (plainly p)
    where
      go : (x : Reading Request) → Holds (judged_in x answer)
      go (Refused r) = none-holds r
      go (Means q) = judged-holds q (judge q answer) refl
