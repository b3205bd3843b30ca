-- The promises of memory but for `LastWrite`: who changes it, and that it keeps its length and its words. Assumes nothing.
use Prim.Native.Nat.{ℕ}
use mathlib.Core.Path.{◌≡◌, refl, ap, ◌∙◌}
use mathlib.Core.Bool.{Bool, true, false, cond}
use mathlib.Core.List.{List, [], ◌∷◌, ◌++◌}
use lib.ListN.{length}
use Rattle.header.specs.declared.Kind.{Kind}
use Rattle.header.specs.declared.Kind.TheVariants.{Write}
use Rattle.header.specs.Header.{kind_of}
use Rattle.message.specs.Request.{Command, Request}
use Rattle.memory.specs.Moves.{fails, moves_of, moves, after_moves, memory_after}
use Rattle.memory.specs.Promises.{carried, Quiet, SameLength, StaysWords, asking}
use Rattle.memory.proofs.Laws.Moving.{after-append, length-after, words-after, command-quiet}

pub same_length : (r : Request) (memory : List ℕ) → SameLength r memory
unfolding memory_after
same_length r memory = length-after memory (moves (kind_of r.byte0) (length memory) r.commands)

pub stays-words : (r : Request) (memory : List ℕ) → StaysWords r memory
unfolding memory_after
stays-words r memory = words-after memory (moves (kind_of r.byte0) (length memory) r.commands)

-- the moves of a message, and the commands that are carried out, one by one
module _ (kind : Kind) (size : ℕ) where
  pub moves-none : moves kind size [] ≡ []
  unfolding moves
  moves-none = refl

  pub moves_more : (c : Command) (cs : List Command) → moves kind size (c ∷ cs) ≡ cond (fails kind size c) [] (moves_of kind c ++ moves kind size cs)
  unfolding moves
  moves_more c cs = refl

  pub carried-more : (c : Command) (cs : List Command) → carried kind size (c ∷ cs) ≡ cond (fails kind size c) [] (c ∷ carried kind size cs)
  unfolding carried
  carried-more c cs = refl

module _ (kind : Kind) where
  moves-quiet : (kind ≡ Write → ⊥) → (size : ℕ) (m : List ℕ) (cs : List Command) → after_moves m (moves kind size cs) ≡ m
  unfolding after_moves moves
  moves-quiet h size m [] = refl
  moves-quiet h size m (c ∷ cs) = go (fails kind size c) (moves-quiet h size m cs)
    where
      go : (b : Bool) → after_moves m (moves kind size cs) ≡ m → after_moves m (cond b [] (moves_of kind c ++ moves kind size cs)) ≡ m
      go true e = refl
      go false e = after-append m (moves_of kind c) (moves kind size cs) ∙ ap (λ (l : List ℕ). after_moves l (moves kind size cs)) (command-quiet kind m c h) ∙ e

  -- nothing behind a failing command is moved
  moves-stop : (size : ℕ) (c : Command) (after : List Command) → fails kind size c ≡ true → (before : List Command)
      → moves kind size (before ++ (c ∷ after)) ≡ moves kind size before
  unfolding moves
  moves-stop size c after f [] = rw f
  moves-stop size c after f (b ∷ before) = rw (moves-stop size c after f before)

pub quiet : (r : Request) (memory : List ℕ) → Quiet r memory
unfolding memory_after
quiet r memory h = moves-quiet (kind_of r.byte0) h (length memory) memory r.commands

-- memory after a message by its moves, and that nothing behind a failing command changes it
pub memory-by : (r : Request) (memory : List ℕ) → memory_after r memory ≡ after_moves memory (moves (kind_of r.byte0) (length memory) r.commands)
unfolding memory_after
memory-by r memory = refl

pub memory-stops : (r : Request) (memory : List ℕ) (before : List Command) (c : Command) (after : List Command)
    → r.commands ≡ before ++ (c ∷ after) → fails (kind_of r.byte0) (length memory) c ≡ true → memory_after r memory ≡ memory_after (asking r before) memory
unfolding memory_after
memory-stops r memory before c after e f = rw (e, moves-stop (kind_of r.byte0) (length memory) c after f before)
