-- The table's commands, each and one behind another: they may stand in their messages, and how long these are. Assumes
-- nothing.
use Prim.Native.Nat.{ℕ, zero, suc, ◌+◌, ◌*◌, ◌<◌, ◌≤◌}
use mathlib.Core.Path.{◌≡◌, refl, sym, ap, ◌∙◌}
use mathlib.Core.Bool.{Bool, true, false}
use mathlib.Core.List.{List, [], ◌∷◌, ◌++◌}
use native.Mathlib.Nat.{add-zero, zero-add}
use native.Mathlib.Omega.{arith}
use lib.ListN.{length, length-append}
use Rattle.word.specs.Words.{Words}
use Rattle.word.proofs.Runs.{below-take}
use Rattle.header.specs.declared.Kind.{Kind}
use Rattle.header.specs.declared.Kind.TheVariants.{Nop, Write, Read, Response}
use Rattle.header.specs.Limits.{limit, tag_count}
use Rattle.header.specs.Header.{kind_of, byte0_from, address_words, reply_words}
use Rattle.header.proofs.Laws.Header.{kind-back, wide_back}
use Rattle.message.specs.Faults.{asks}
use Rattle.message.specs.Request.{Command, All, replies, command_words, request_words, FitsCommand, Fits}
use Rattle.message.specs.Exactly.{open_words}
use Rattle.message.proofs.Laws.Addresses.{in_one, top_one}
use Rattle.message.proofs.Laws.Pieces.{command-pieces, open_more, open_none, request-more, replies-more}
use Rattle.message.proofs.Laws.Pieces.{replies-none, all_more, all_none, none_more, some_pattern}
use Rattle.layout.specs.Layout.{each_from, row_count, row_of, row_address, mark_address, row_write, row_read, mark_write}
use Rattle.layout.specs.Filling.{Below, row_by, Rowed, writes, reads}
use Rattle.layout.proofs.Laws.Layout.{row-long}

-- byte 0 of a message of the table
abbrev pub byte_of : Kind → ℕ → ℕ
byte_of kind tag = byte0_from tag kind false false

-- each of them, one at the end
end-from : {A : Type 0} (f : ℕ → A) (i n : ℕ) → each_from f i n ++ f (i + n) ∷ [] ≡ each_from f i (suc n)
unfolding each_from
end-from f i zero = rw (add-zero i) refl
end-from f i (suc n) =
    let e : i + suc n ≡ suc i + n = omega arith in
    rw e (ap (λ xs. f i ∷ xs) (end-from f (suc i) n))

pub each-end : {A : Type 0} (f : ℕ → A) (n : ℕ) → each_from f 0 n ++ f n ∷ [] ≡ each_from f 0 (suc n)
each-end f n = ap (λ (k : ℕ). each_from f 0 n ++ f k ∷ []) (sym (zero-add n)) ∙ end-from f 0 n

pub one_each : {A : Type 0} (x : A) → x ∷ [] ≡ each_from (λ (i : ℕ). x) 0 1
unfolding each_from
one_each x = refl

-- commands of one size, whose OK answers are of one size, in a message of this byte 0
pub record Shape (byte0 : ℕ) (f : ℕ → Command) (size answer : ℕ) : Type 0 where
  pub long : (last : Bool) (i : ℕ) → length (command_words byte0 last (f i)) ≡ size
  pub answered : (i : ℕ) → 1 + reply_words (kind_of byte0) (f i).count ≡ answer

module _ {byte0 : ℕ} {f : ℕ → Command} {size answer : ℕ} (s : Shape byte0 f size answer) where
  pub open-long : (n : ℕ) → length (open_words byte0 (each_from f 0 n)) ≡ size * n
  unfolding each_from
  open-long zero = ap length (open_none byte0) ∙ omega arith
  open-long (suc n) =
      rw (← each-end f n, open_more byte0 (each_from f 0 n) (f n))
      (length-append (open_words byte0 (each_from f 0 n)) _ ∙ omega (arith, open-long n, s.long false n))

  pub replies-long : (n : ℕ) → replies byte0 (each_from f 0 n) ≡ answer * n
  unfolding each_from
  replies-long zero = replies-none byte0 ∙ omega arith
  replies-long (suc n) =
      rw (← each-end f n) (replies-more byte0 (each_from f 0 n) (f n) ∙ omega (arith, replies-long n, s.answered n))

  pub request-long : (n : ℕ) → length (request_words byte0 (each_from f 0 (suc n))) ≡ size * suc n
  request-long n =
      rw (← each-end f n, request-more byte0 (each_from f 0 n) (f n))
      (length-append (open_words byte0 (each_from f 0 n)) _ ∙ omega (arith, open-long n, s.long true n))

  each_all : (n : ℕ) → ((i : ℕ) → i < n → FitsCommand byte0 (f i)) → All (FitsCommand byte0) (each_from f 0 n)
  unfolding each_from
  each_all zero h = all_none (FitsCommand byte0)
  each_all (suc n) h =
      rw (← each-end f n)
      (all_more (FitsCommand byte0) (each_from f 0 n) (f n) (each_all n (λ i k. h i (omega arith))) (h n (omega arith)))

  pub each_fits : byte0 < 256 → asks (kind_of byte0) ≡ true → (n : ℕ) → ((i : ℕ) → i < suc n → FitsCommand byte0 (f i))
      → size * suc n ≤ limit → answer * suc n ≤ limit → Fits (record { byte0 = byte0; commands = each_from f 0 (suc n) })
  each_fits hb a n h k m =
      record {
        asked = record {
          byte = hb;
          asking = a;
          some = rw (← each-end f n) (none_more (each_from f 0 n) (f n));
          all = each_all (suc n) h;
          short = omega (arith, request-long n);
        };
        answer = omega (arith, replies-long (suc n));
      }

-- a command with a 32-bit address
one-long : (byte0 : ℕ) (last : Bool) (c : Command) → address_words byte0 ≡ 1
    → length (command_words byte0 last c) ≡ 2 + length c.payload
one-long byte0 last c e = rw (command-pieces byte0 last c, e, in_one c.address) (omega arith)

-- the table's own
abbrev pub row_words : Kind → ℕ
row_words Nop = 2
row_words Write = 10
row_words Read = 2
row_words Response = 2

abbrev pub row_reply : Kind → ℕ
row_reply Nop = 9
row_reply Write = 1
row_reply Read = 9
row_reply Response = 9

module _ (tag : ℕ) (small : tag < tag_count) where
  one_word : {kind : Kind} → Rowed kind → address_words (byte_of kind tag) ≡ 1
  one_word writes = rw (kind-back tag Write false false small, wide_back tag Write false false small) refl
  one_word reads = rw (kind-back tag Read false false small, wide_back tag Read false false small) refl

  pub row-shape : {kind : Kind} → Rowed kind → (start : ℕ) (rows : List ℕ)
      → Shape (byte_of kind tag) (row_by kind start rows) (row_words kind) (row_reply kind)
  unfolding row_write row_read
  row-shape writes start rows =
      record {
        long = λ last i. one-long _ last (row_write start rows i) (one_word writes) ∙ omega (arith, row-long rows i);
        answered = λ i. rw (kind-back tag Write false false small) refl;
      }
  row-shape reads start rows =
      record {
        long = λ last i. one-long _ last (row_read start i) (one_word reads);
        answered = λ i. rw (kind-back tag Read false false small) refl;
      }

  pub mark-shape : (start value : ℕ) → Shape (byte_of Write tag) (λ (i : ℕ). mark_write start value) 3 1
  unfolding mark_write
  mark-shape start value =
      record {
        long = λ last i. one-long _ last (mark_write start value) (one_word writes);
        answered = λ i. rw (kind-back tag Write false false small) refl;
      }

  pub row_fits : {kind : Kind} → Rowed kind → (start : ℕ) (rows : List ℕ) (i : ℕ) → Below start → i < row_count
      → Words (row_of rows i) → FitsCommand (byte_of kind tag) (row_by kind start rows i)
  unfolding row_write row_read
  row_fits writes start rows i b h w =
      record {
        byte = omega arith;
        twelve = omega arith;
        counted = rw (kind-back tag Write false false small) refl;
        enabled = rw (kind-back tag Write false false small) (some_pattern 8 (row_address start i));
        reaches = rw (one_word writes, top_one) (omega arith);
        long = rw (kind-back tag Write false false small) (row-long rows i);
        words = w;
      }
  row_fits reads start rows i b h w =
      record {
        byte = omega arith;
        twelve = omega arith;
        counted = rw (kind-back tag Read false false small) refl;
        enabled = rw (kind-back tag Read false false small) refl;
        reaches = rw (one_word reads, top_one) (omega arith);
        long = rw (kind-back tag Read false false small) refl;
        words = below-take 4294967296 0 (row_of rows i) w;
      }

  pub mark-fits : (start value : ℕ) → Below start → Words (value ∷ [])
      → FitsCommand (byte_of Write tag) (mark_write start value)
  unfolding mark_write
  mark-fits start value b w =
      record {
        byte = omega arith;
        twelve = omega arith;
        counted = rw (kind-back tag Write false false small) refl;
        enabled = rw (kind-back tag Write false false small) (some_pattern 1 (mark_address start));
        reaches = rw (one_word writes, top_one) (omega arith);
        long = rw (kind-back tag Write false false small) refl;
        words = w;
      }
