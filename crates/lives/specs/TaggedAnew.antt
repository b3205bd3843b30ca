-- [10] "begins its list, tagged anew": what a message makes of memory and what it comes to do not depend on its tag. So
-- a list means the same in every life, whatever tags it gets there. The theorems are in proofs/TaggedAnew.antt. Assumes
-- nothing.
use Rattle.std.specs.Prelude.{ℕ, ◌+◌, ◌*◌, ◌/◌, ◌<◌, ◌≡◌, get_or}
use mathlib.Core.List.{List, [], ◌∷◌, ◌++◌, foldl}
use Rattle.word.specs.Words.{bytes_of}
use Rattle.header.specs.Header.{tag_of, next_tag}
use Rattle.message.specs.Request.{Request, Means, written}
use Rattle.message.specs.Walk.{read, request_of}
use Rattle.completer.specs.Controller.{Controller}
use Rattle.initiator.specs.Places.{new_tag}
use Rattle.once.specs.Promise.{made, results}
use Rattle.once.specs.Lives.{Life, Lives, end_of, part_of, parts}
use Rattle.exchange.specs.Ends.{Loader, ends}
use Rattle.exchange.specs.Terms.{Plain, Offers, terms, Sound}
use Rattle.exchange.specs.Promise.{window}
use Rattle.lives.specs.Lives.{restarts, left, Lived, AllLived}

-- Two messages that are alike but for the tag: byte 0, which every header has, but for its bits 3:0, and the commands.
pub record AlikeButTag (message other : List ℕ) : Type 0 where
  pub one : Request
  pub two : Request
  pub reads : read message ≡ Means one
  pub also : read other ≡ Means two
  pub byte0 : one.byte0 / 16 ≡ two.byte0 / 16
  pub commands : one.commands ≡ two.commands

abbrev pub TagAside : Type 0
TagAside =
    (memory message other : List ℕ) → AlikeButTag message other
    → (terms.carry memory message ≡ terms.carry memory other)
    × (terms.outcome memory message ≡ terms.outcome memory other)

-- lists of such messages, as many in one as in the other
abbrev pub Alike : {X : Type 0} → (X → X → Type 0) → List X → List X → Type 0
Alike Pair [] [] = Unit {0}
Alike Pair [] (y ∷ ys) = ⊥
Alike Pair (x ∷ xs) [] = ⊥
Alike Pair (x ∷ xs) (y ∷ ys) = Pair x y × Alike Pair xs ys

abbrev pub AlikeLists : List (List ℕ) → List (List ℕ) → Type 0
AlikeLists ms ns = Alike AlikeButTag ms ns

abbrev pub ListAside : Type 0
ListAside =
    (memory : List ℕ) (ms ns : List (List ℕ)) → AlikeLists ms ns
    → (made terms memory ms ≡ made terms memory ns) × (results terms memory ms ≡ results terms memory ns)

-- Memory is what the lives make of it by any lists that are alike but for the tags: as by lists without tags.
abbrev pub LivesAside : Type 0
LivesAside =
    (c : Controller) → Sound c → (ls : Lives ends) (l : Life ends) → AllLived c ls → Lived (left c ls) l
    → (ps : List (List (List ℕ)))
    → Alike AlikeLists (parts window restarts c ls ++ part_of window restarts (left c ls) l ∷ []) ps
    → (end_of window restarts (left c ls) l).memory ≡ foldl (made terms) c.memory ps

-- a request with this tag, and a message; and a list, from this tag on
abbrev pub with_tag : ℕ → Request → Request
with_tag tag r = record { byte0 = 16 * (r.byte0 / 16) + tag; commands = r.commands }

abbrev pub tagged : ℕ → List ℕ → List ℕ
tagged tag message = written (with_tag tag (request_of message))

abbrev pub tagged_from : ℕ → List (List ℕ) → List (List ℕ)
tagged_from tag [] = []
tagged_from tag (message ∷ ms) = tagged tag message ∷ tagged_from (next_tag tag) ms

-- Each message, well-formed and no discovery, can be tagged anew: there is one alike of each tag. So can each list.
pub record TaggedAs (tag : ℕ) (message : List ℕ) : Type 0 where
  pub alike : AlikeButTag message (tagged tag message)
  pub has : tag_of (get_or (tagged tag message) 0 0) ≡ tag

abbrev pub TaggedAnew : Type 0
TaggedAnew = (tag : ℕ) (message : List ℕ) → tag < 16 → Plain message → TaggedAs tag message

abbrev pub AllPlain : List (List ℕ) → Type 0
AllPlain [] = Unit {0}
AllPlain (message ∷ ms) = Plain message × AllPlain ms

abbrev pub ListAnew : Type 0
ListAnew = (tag : ℕ) (ms : List (List ℕ)) → tag < 16 → AllPlain ms → AlikeLists ms (tagged_from tag ms)

-- And it can be offered in any life, at any moment: it is "tagged as offering asks".
abbrev pub TaggedFits : Type 0
TaggedFits = (s : Loader) (message : List ℕ) → Plain message → Offers s (tagged (new_tag s.sender) message)

-- two commands, tag 3, tagged 15: byte 0 of both headers, and nothing else
abbrev pub Shown : Type 0
Shown =
    tagged 15 (bytes_of (0x00010F13 ∷ 0x00000004 ∷ 0x0A0B0C0D ∷ 0x80010313 ∷ 0x00000008 ∷ 0x13131313 ∷ []))
    ≡ bytes_of (0x00010F1F ∷ 0x00000004 ∷ 0x0A0B0C0D ∷ 0x8001031F ∷ 0x00000008 ∷ 0x13131313 ∷ [])
