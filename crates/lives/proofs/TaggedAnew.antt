-- The theorems of specs/TaggedAnew.antt. Assumes nothing.
use Prim.Native.Nat.{ℕ, ◌+◌, ◌/◌, ◌%◌, ◌<◌}
use mathlib.Core.Path.{◌≡◌, refl, sym, ap, subst, ◌∙◌}
use mathlib.Core.Bool.{Bool, true, false, not, false≢true}
use mathlib.Core.List.{List, [], ◌∷◌, ◌++◌, foldl, append_assoc, append-nil}
use native.Mathlib.Omega.{arith}
use borrow.Author.Tests.{eq-eqb}
use lib.Dec.{eqb}
use lib.ListN.{length, length-append}
use Rattle.word.specs.Words.{Bytes}
use Rattle.word.proofs.Crossing.{bytes_below}
use Rattle.header.specs.Header.{tag_of, next_tag, discovery_of, kind_no, kind_of, address_words, body_words}
use Rattle.message.specs.Request.{Command, Request, Means, none, replies, command_words, request_words}
use Rattle.message.specs.Request.{FitsCommand, All, Fits}
use Rattle.message.specs.Exactly.{open_words}
use Rattle.message.specs.Walk.{read, request_of}
use Rattle.message.proofs.Laws.Back.{asked_is, written_read}
use Rattle.message.proofs.Laws.Going.{read_first}
use Rattle.message.proofs.Laws.Pieces.{all_first, all_rest, all_more, all_none, open_none, open_more, request-more}
use Rattle.message.proofs.Laws.Pieces.{replies-none, written_is}
use Rattle.message.proofs.Laws.Round.{command-long, read-written}
use Rattle.answer.proofs.Laws.Giving.{replies-more}
use Rattle.memory.specs.Moves.{moves, after_moves, memory_after}
use Rattle.memory.proofs.Laws.Promises.{memory-by}
use Rattle.carrying.specs.Answers.{answers}
use Rattle.carrying.proofs.Laws.Promises.{answer-to}
use Rattle.initiator.specs.Places.{new_tag}
use Rattle.initiator.proofs.Laws.Asked.{asks-tag}
use Rattle.initiator.proofs.Laws.Places.{new-small}
use Rattle.once.specs.Promise.{made, results}
use Rattle.once.specs.Lives.{part_of, parts}
use Rattle.exchange.specs.Outcomes.{Outcome, results_in, outcome_over}
use Rattle.exchange.specs.Terms.{Plain, terms}
use Rattle.exchange.specs.Promise.{window}
use Rattle.exchange.proofs.Codec.{outcome-by}
use Rattle.lives.specs.Lives.{restarts, left}
use Rattle.lives.specs.TaggedAnew.{TagAside, Alike, AlikeLists, ListAside, LivesAside}
use Rattle.lives.specs.TaggedAnew.{with_tag, tagged, TaggedAnew, ListAnew, TaggedFits}
use Rattle.lives.proofs.Lives.{lives-memory}

-- what a message does, by its kind and its commands
module _ (memory message : List ℕ) (r : Request) (e : read message ≡ Means r) where
  carry-by : memory_after (request_of message) memory
      ≡ after_moves memory (moves (kind_of r.byte0) (length memory) r.commands)
  carry-by = rw (asked_is message r e) (memory-by r memory)

  outcome-is : outcome_over memory message
      ≡ results_in (kind_of r.byte0) (answers (kind_of r.byte0) 0 memory r.commands)
  outcome-is = outcome-by memory message ∙ rw (asked_is message r e, answer-to r 0 memory)

pub tag-aside : TagAside
tag-aside memory m n a =
    let k : kind_of a.one.byte0 ≡ kind_of a.two.byte0 = ap (λ (q : ℕ). kind_no (q % 4)) a.byte0 in (
      rw (carry-by memory m a.one a.reads, carry-by memory n a.two a.also, k, a.commands),
      rw (outcome-is memory m a.one a.reads, outcome-is memory n a.two a.also, k, a.commands),
    )

pub list-aside : ListAside
list-aside memory [] [] a = (refl, refl)
list-aside memory [] (n ∷ ns) a = absurd a
list-aside memory (m ∷ ms) [] a = absurd a
list-aside memory (m ∷ ms) (n ∷ ns) a =
    let p = tag-aside memory m n a.0 in
    let r = list-aside (terms.carry memory m) ms ns a.1 in (
      r.0 ∙ ap (λ (x : List ℕ). made terms x ns) p.0,
      ap (λ (l : List Outcome). terms.outcome memory m ∷ l) r.1
          ∙ ap (λ (x : List ℕ). terms.outcome memory m ∷ results terms x ns) p.0
          ∙ ap (λ (o : Outcome). o ∷ results terms (terms.carry memory n) ns) p.1,
    )

-- part by part
parts-aside : (memory : List ℕ) (ps qs : List (List (List ℕ))) → Alike AlikeLists ps qs
    → foldl (made terms) memory ps ≡ foldl (made terms) memory qs
parts-aside memory [] [] a = refl
parts-aside memory [] (q ∷ qs) a = absurd a
parts-aside memory (p ∷ ps) [] a = absurd a
parts-aside memory (p ∷ ps) (q ∷ qs) a =
    parts-aside (made terms memory p) ps qs a.1
    ∙ ap (λ (x : List ℕ). foldl (made terms) x qs) (list-aside memory p q a.0).0

pub lives-aside : LivesAside
lives-aside c h ls l a b ps q =
    lives-memory c h ls l a b
    ∙ parts-aside c.memory (parts window restarts c ls ++ part_of window restarts (left c ls) l ∷ []) ps q

-- Two bytes 0 of the same kind and the same addresses: what fits the one fits the other, with as many words.
module _ (b c : ℕ) (kind : kind_of c ≡ kind_of b) (address : address_words c ≡ address_words b) where
  fits-also : (x : Command) → FitsCommand b x → FitsCommand c x
  fits-also x f =
      record {
        byte = f.byte;
        twelve = f.twelve;
        counted = rw kind f.counted;
        enabled = rw kind f.enabled;
        reaches = rw address f.reaches;
        long = rw kind f.long;
        words = f.words;
      }

  -- those that were looked at, and those that follow
  all-also : (xs ys : List Command) → All (FitsCommand c) xs → All (FitsCommand b) ys → All (FitsCommand c) (xs ++ ys)
  all-also xs [] f g = rw (append-nil xs) f
  all-also xs (y ∷ ys) f g =
      subst (All (FitsCommand c)) (append_assoc xs (y ∷ []) ys)
      (all-also (xs ++ y ∷ []) ys (all_more _ xs y f (fits-also y (all_first _ y ys g))) (all_rest _ y ys g))

  long-also : (last : Bool) (x : Command) → FitsCommand b x
      → length (command_words c last x) ≡ length (command_words b last x)
  long-also last x f =
      command-long c last x (fits-also x f) ∙ ap (λ (n : ℕ). 1 + n) body ∙ sym (command-long b last x f)
    where
      body : body_words c x.count ≡ body_words b x.count
      body = rw (address, kind)

  -- one command more, LAST or not
  more-also : (last : Bool) (xs : List Command) (y : Command) → FitsCommand b y
      → length (open_words c xs) ≡ length (open_words b xs)
      → length (open_words c xs ++ command_words c last y) ≡ length (open_words b xs ++ command_words b last y)
  more-also last xs y f e =
      length-append (open_words c xs) (command_words c last y)
      ∙ rw (e, long-also last y f) (sym (length-append (open_words b xs) (command_words b last y)))

  words-also : (xs : List Command) (y : Command) (ys : List Command)
      → length (open_words c xs) ≡ length (open_words b xs) → All (FitsCommand b) (y ∷ ys)
      → length (request_words c (xs ++ y ∷ ys)) ≡ length (request_words b (xs ++ y ∷ ys))
  words-also xs y [] e g =
      rw (request-more c xs y, request-more b xs y) (more-also true xs y (all_first _ y [] g) e)
  words-also xs y (z ∷ ys) e g =
      let o : length (open_words c (xs ++ y ∷ [])) ≡ length (open_words b (xs ++ y ∷ [])) =
      rw (open_more c xs y, open_more b xs y) (more-also false xs y (all_first _ y (z ∷ ys) g) e) in
      subst (λ (l : List Command). length (request_words c l) ≡ length (request_words b l))
      (append_assoc xs (y ∷ []) (z ∷ ys)) (words-also (xs ++ y ∷ []) z ys o (all_rest _ y (z ∷ ys) g))

  replies-also : (xs : List Command) → replies c xs ≡ replies b xs
  replies-also [] = replies-none c ∙ sym (replies-none b)
  replies-also (x ∷ xs) = rw (replies-more c x xs, replies-more b x xs, kind, replies-also xs)

-- the same request with another tag
module _ (tag : ℕ) (r : Request) (small : tag < 16) (f : Fits r) where
  abbrev b : ℕ
  b = r.byte0

  abbrev c : ℕ
  c = (with_tag tag r).byte0

  same_kind : kind_of c ≡ kind_of b
  same_kind = ap kind_no (omega arith)

  same_address : address_words c ≡ address_words b
  same_address =
      let n : c / 64 % 2 ≡ b / 64 % 2 = omega arith in
      rw (same_kind, n)

  some_words : (xs : List Command) → none xs ≡ false → All (FitsCommand b) xs
      → length (request_words c xs) ≡ length (request_words b xs)
  some_words [] e g = absurd (false≢true (sym e))
  some_words (x ∷ xs) e g = words-also b c same_kind same_address [] x xs (rw (open_none c, open_none b)) g

  fits-tagged : Fits (with_tag tag r)
  fits-tagged =
      let a = f.asked in
      record {
        asked =
            record {
              byte = omega (arith, a.byte);
              asking = rw same_kind a.asking;
              some = a.some;
              all = all-also b c same_kind same_address [] r.commands (all_none _) a.all;
              short = rw (some_words r.commands a.some a.all) a.short;
            };
        answer = rw (replies-also b c same_kind same_address r.commands) f.answer;
      }

has-tag : (tag : ℕ) (r : Request) → tag < 16 → tag_of (with_tag tag r).byte0 ≡ tag
has-tag tag r small = omega arith

-- and the message that is tagged anew
reads-tagged : (tag : ℕ) (message : List ℕ) → tag < 16 → (p : Plain message)
    → read (tagged tag message) ≡ Means (with_tag tag p.request)
reads-tagged tag message small p =
    let r = p.request in
    let f = fits-tagged tag r small (written_read message r p.bytes p.is).0 in
    rw (asked_is message r p.is) (read-written (with_tag tag r) f)

pub tagged-anew : TaggedAnew
tagged-anew tag message small p =
    let r = p.request in
    let t = reads-tagged tag message small p in
    record {
      alike = record { one = r; two = with_tag tag r; reads = p.is; also = t; byte0 = omega arith; commands = refl };
      has = ap tag_of (read_first (tagged tag message) (with_tag tag r) t).1 ∙ has-tag tag r small;
    }

pub list-anew : ListAnew
list-anew tag [] small a = tt
list-anew tag (message ∷ ms) small a =
    ((tagged-anew tag message small a.0).alike, list-anew (next_tag tag) ms (omega arith) a.1)

pub tagged-fits : TaggedFits
tagged-fits s message p =
    let tag = new_tag s.sender in
    let small = new-small s.sender in
    let r = p.request in
    let q = with_tag tag (request_of message) in
    let c = (with_tag tag r).byte0 in
    let t = reads-tagged tag message small p in
    let n : c / 128 % 2 ≡ r.byte0 / 128 % 2 = omega (arith, small) in
    let clear : discovery_of c ≡ false = ap (λ (m : ℕ). not (eqb m 0)) n ∙ p.clear in
    let first = sym (read_first (tagged tag message) (with_tag tag r) t).1 in
    record {
      bytes = subst Bytes (written_is q.byte0 q.commands) (bytes_below (request_words q.byte0 q.commands));
      asked =
          sym (asks-tag (eqb tag) (tagged tag message) (with_tag tag r) t c first clear)
          ∙ eq-eqb tag (tag_of c) (sym (has-tag tag r small));
    }
