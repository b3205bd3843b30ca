-- The words of an answer, put where they are sent and stored: what the code of carrying out goes by; nobody else needs
-- to read it. Assumes nothing.
use Rattle.std.specs.Prelude.{ℕ, ◌+◌, ◌*◌, ◌≤◌, ◌≡◌, Bool, cond, List, length}
use Rattle.word.specs.Words.{put, put_words}
use Rattle.header.specs.Limits.{limit, limit_bytes}
use Rattle.carrying.specs.declared.putting.Answer.{Answer}

-- s with the words ws from word n on, where the message is kept
unfoldable pub kept_in : Bool → List ℕ → ℕ → List ℕ → List ℕ
kept_in keep s n ws = cond keep (put s n ws) s

-- the words ws of an answer, put from word n on: in the output o, and in the stored words s where the message is kept
pub record Puts (keep : Bool) (n : ℕ) (ws s o s' o' : List ℕ) : Type 0 where
  pub stored : s' ≡ kept_in keep s n ws
  pub output : o' ≡ put_words o n ws

-- the words ws put behind the answer a, which is then b, in the same buffers
pub record Adds (ws : List ℕ) (a b : Answer) : Type 0 where
  pub stored : b.stored.ghost_name ≡ a.stored.ghost_name
  pub output : b.output.ghost_name ≡ a.output.ghost_name
  pub keep : b.keep ≡ a.keep
  pub words : b.words ≡ a.words + length ws
  pub puts : Puts a.keep a.words ws a.stored.now a.output.now b.stored.now b.output.now

-- room for n words more of the answer a
pub record RoomFor (n : ℕ) (a : Answer) : Type 0 where
  pub few : a.words + n ≤ limit
  pub stored : a.words + n ≤ length a.stored.now
  pub output : 4 * (a.words + n) ≤ length a.output.now

-- room for an answer of the limit
pub record Room (s o : List ℕ) : Type 0 where
  pub stored : limit ≤ length s
  pub output : limit_bytes ≤ length o
