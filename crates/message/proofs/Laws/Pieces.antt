-- A request's words piece by piece: an address, a command, one command more. Whoever writes a request cites these. Assumes nothing.
use Prim.Native.Nat.{ℕ, ◌+◌, ◌%◌, ◌<◌, ◌≤◌}
use mathlib.Core.Path.{◌≡◌, refl, sym, ◌∙◌}
use mathlib.Core.Bool.{Bool, true, false, cond, not, ◌&&◌, ◌||◌}
use mathlib.Core.List.{List, [], ◌∷◌, ◌++◌, append_assoc, append-nil}
use native.Mathlib.Omega.{arith}
use lib.ListN.{length, get_or}
use lib.Dec.{eqb}
use Rattle.word.specs.Words.{bytes_of, words_of, Words, Below}
use Rattle.word.proofs.Runs.{below-append}
use Rattle.word.proofs.Crossing.{words_back, bytes_below}
use Rattle.header.specs.Header.{kind_of, header_from, reply_words, address_words}
use Rattle.header.specs.Limits.{length_ok, limit}
use Rattle.header.specs.Refusal.{refused_at, refusal}
use Rattle.header.proofs.Laws.Header.{byte0-back}
use Rattle.message.specs.Request.{Command, All, replies, none, Refused, command_words, request_words, written, FitsCommand}
use Rattle.message.specs.Address.{address_in}
use Rattle.message.specs.Walk.{read}
use Rattle.message.specs.Faults.{asks, gapless, pattern_ok}
use Rattle.message.specs.Exactly.{open_words, fault_in, FaultAfter}
use Rattle.message.proofs.Laws.Round.{none_before, command-words, length-right}
use Rattle.message.proofs.Laws.Exactly.{exactly, counted-asks}

-- what holds of all holds of the first and of the rest
module _ {A : Type 0} (P : A → Type 0) (x : A) (xs : List A) where
  pub all_first : All P (x ∷ xs) → P x
  unfolding All
  all_first h = h.0

  pub all_rest : All P (x ∷ xs) → All P xs
  unfolding All
  all_rest h = h.1

-- a command's words: header, address, data
pub command-pieces : (byte0 : ℕ) (last : Bool) (c : Command)
    → command_words byte0 last c ≡ header_from byte0 c.byte1 c.count last ∷ (address_in (address_words byte0) c.address ++ c.payload)
unfolding command_words
command-pieces byte0 last c = refl

-- a request's bytes
pub written_is : (byte0 : ℕ) (cs : List Command) → bytes_of (request_words byte0 cs) ≡ written (record { byte0 = byte0; commands = cs })
unfolding written
written_is byte0 cs = refl

-- one command more
pub open_more : (byte0 : ℕ) (cs : List Command) (c : Command) → open_words byte0 (cs ++ c ∷ []) ≡ open_words byte0 cs ++ command_words byte0 false c
unfolding open_words
open_more byte0 [] c = append-nil (command_words byte0 false c)
open_more byte0 (d ∷ cs) c = rw (open_more byte0 cs c) (sym (append_assoc (command_words byte0 false d) (open_words byte0 cs) (command_words byte0 false c)))

-- and it is the last
pub request-more : (byte0 : ℕ) (cs : List Command) (c : Command) → request_words byte0 (cs ++ c ∷ []) ≡ open_words byte0 cs ++ command_words byte0 true c
unfolding open_words request_words
request-more byte0 [] c = append-nil (command_words byte0 true c)
request-more byte0 (d ∷ []) c = rw (request-more byte0 [] c) (sym (append_assoc (command_words byte0 false d) [] (command_words byte0 true c)))
request-more byte0 (d ∷ e ∷ cs) c =
    rw (request-more byte0 (e ∷ cs) c) (sym (append_assoc (command_words byte0 false d) (open_words byte0 (e ∷ cs)) (command_words byte0 true c)))

pub replies-more : (byte0 : ℕ) (cs : List Command) (c : Command)
    → replies byte0 (cs ++ c ∷ []) ≡ replies byte0 cs + (1 + reply_words (kind_of byte0) c.count)
unfolding replies
replies-more byte0 [] c = omega arith
replies-more byte0 (d ∷ cs) c = omega (arith, replies-more byte0 cs c)

pub all_more : {A : Type 0} (P : A → Type 0) (xs : List A) (x : A) → All P xs → P x → All P (xs ++ x ∷ [])
unfolding All
all_more P [] x a p = (p, tt)
all_more P (y ∷ xs) x a p = (a.0, all_more P xs x a.1 p)

pub all_none : {A : Type 0} (P : A → Type 0) → All P []
unfolding All
all_none P = tt

pub none_more : {A : Type 0} (xs : List A) (x : A) → none (xs ++ x ∷ []) ≡ false
none_more xs x = none_before xs x []

-- nothing added
pub open_none : (byte0 : ℕ) → open_words byte0 [] ≡ []
unfolding open_words
open_none byte0 = refl

pub replies-none : (byte0 : ℕ) → replies byte0 [] ≡ 0
unfolding replies
replies-none byte0 = refl

-- some enables of a write of each count are allowed at every address: all bytes
abbrev pub whole_last : ℕ → ℕ
whole_last count = cond (eqb count 1) 0 15

pub some_pattern : (count address : ℕ) → pattern_ok count address 15 (whole_last count) ≡ true
unfolding pattern_ok
some_pattern count address = go (eqb count 1) (eqb count 2 && eqb (address % 8) 0)
  where
    go : (b g : Bool) → cond b (eqb (cond b 0 15) 0) (not (eqb 15 0) && not (eqb (cond b 0 15) 0)) && (b || g || gapless 15 (cond b 0 15)) ≡ true
    go true g = refl
    go false true = refl
    go false false = refl

module _ (byte0 : ℕ) (hb : byte0 < 256) where
  asking : (cs : List Command) → none cs ≡ false → All (FitsCommand byte0) cs → asks (kind_of byte0) ≡ true
  unfolding All
  asking [] h f = cc
  asking (c ∷ cs) h f = counted-asks (kind_of byte0) c.count f.0.counted

  open-words : asks (kind_of byte0) ≡ true → (cs : List Command) → All (FitsCommand byte0) cs → Words (open_words byte0 cs)
  unfolding open_words All Below
  open-words a [] f = tt
  open-words a (c ∷ cs) f = below-append _ (command_words byte0 false c) (open_words byte0 cs) (command-words byte0 hb a false c f.0) (open-words a cs f.1)

  open-first : (cs : List Command) → none cs ≡ false → All (FitsCommand byte0) cs → get_or (bytes_of (open_words byte0 cs)) 0 0 ≡ byte0
  unfolding open_words command_words bytes_of All
  open-first [] h f = cc
  open-first (c ∷ cs) h f = byte0-back byte0 c.byte1 c.count false hb f.0.byte f.0.twelve

  open-some : (cs : List Command) → none cs ≡ false → 0 < length (open_words byte0 cs)
  unfolding open_words command_words
  open-some [] h = cc
  open-some (c ∷ cs) h = omega arith

  open-three : (cs : List Command) → none cs ≡ false → All (FitsCommand byte0) cs → length (open_words byte0 cs) ≤ limit
      → read (bytes_of (open_words byte0 cs)) ≡ Refused (refused_at 3 (length (open_words byte0 cs)))
  unfolding fault_in
  open-three cs h f k =
      let ws : List ℕ = open_words byte0 cs in
      let e : words_of (bytes_of ws) ≡ open_words byte0 cs ++ [] = words_back ws (open-words (asking cs h f) cs f) ∙ sym (append-nil ws) in
      let after : FaultAfter (get_or (bytes_of ws) 0 0) 3 (length ws) (words_of (bytes_of ws)) = rw (open-first cs h f) (record { good = cs; fit = f; tail = []; is = e; fault = refl; place = refl }) in
      ((exactly (bytes_of ws) (bytes_below ws)).faults 3 (length ws) (omega arith) (omega arith)).1 (length-right ws (open-some cs h) k, after)

  -- commands none of which is LAST are refused: 2 where there are none, else 3 behind them
  pub open-refused : (cs : List Command) → All (FitsCommand byte0) cs → length (open_words byte0 cs) ≤ limit
      → read (bytes_of (open_words byte0 cs)) ≡ Refused (cond (none cs) (refusal 2) (refused_at 3 (length (open_words byte0 cs))))
  unfolding read length_ok open_words bytes_of
  open-refused [] f k = refl
  open-refused (c ∷ cs) f k = open-three (c ∷ cs) refl f k
