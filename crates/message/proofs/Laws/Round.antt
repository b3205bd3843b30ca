-- A fitting request's bytes read as itself. Whoever writes a request cites `read-written`. Assumes nothing.
use Prim.Native.Nat.{ℕ, ◌+◌, ◌<◌, ◌≤◌}
use mathlib.Core.Path.{◌≡◌, refl, ◌∙◌}
use mathlib.Core.Bool.{Bool, true, false, cond, false≢true}
use mathlib.Core.List.{List, [], ◌∷◌, ◌++◌, append_assoc}
use native.Mathlib.Omega.{arith}
use borrow.Author.Tests.{eq-eqb, le-leb}
use lib.ListN.{length, get_or, length-append}
use lib.Seq.{take_at, drop_at}
use Rattle.word.specs.Words.{bytes_of, Words}
use Rattle.word.proofs.Runs.{below-append, length-bytes}
use Rattle.word.proofs.Crossing.{words_back}
use Rattle.header.specs.Limits.{limit, length_ok}
use Rattle.header.specs.Header.{kind_of, byte1_of, count_of, header_from, address_words, body_words, head_of, ends_ok}
use Rattle.header.proofs.Laws.Header.{byte0-back, byte1-back, count-back, reserved-back, last-back, header-lt, address-le}
use Rattle.header.proofs.Laws.Limits.{length-fits}
use Rattle.std.specs.Prelude.{Ok}
use Rattle.message.specs.Faults.{asks}
use Rattle.message.specs.Walk.{step_on, command_of, commands_from, ended, read}
use Rattle.message.specs.Request.{Command, Request, Means, before, command_words, none, request_words, written, FitsCommand, All, FitsAsked}
use Rattle.message.specs.Address.{address_from, address_in}
use Rattle.message.specs.Promises.{ReadWritten}
use Rattle.message.proofs.Laws.Faults.{Sound, faultless, step-read, skipped}
use Rattle.message.proofs.Laws.Addresses.{address-long, address-back, address-words}

-- a fitting command's words
pub command-long : (byte0 : ℕ) (last : Bool) (c : Command) → FitsCommand byte0 c → length (command_words byte0 last c) ≡ 1 + body_words byte0 c.count
unfolding command_words
command-long byte0 last c f =
    let ad : List ℕ = address_in (address_words byte0) c.address in
    omega (arith, length-append ad c.payload, address-long (address_words byte0) c.address (address-le byte0), f.long)

-- something follows
pub none_before : {A : Type 0} (xs : List A) (y : A) (ys : List A) → none (xs ++ y ∷ ys) ≡ false
none_before [] y ys = refl
none_before (x ∷ xs) y ys = refl

-- LAST, and how many words are left behind a body of n
pub ends_at : (l : Bool) (n m : ℕ) → (l ≡ true → m ≡ 0) → ends_ok l n (n + m) ≡ true
ends_at true n m h = eq-eqb (n + m) n (omega (arith, h refl))
ends_at false n m h = refl

-- a fitting command's header has no fault where its body follows, and nothing more after LAST
module _ (byte0 : ℕ) (hb : byte0 < 256) (asking : asks (kind_of byte0) ≡ true) where
  module _ (l : Bool) (c : Command) (f : FitsCommand byte0 c) where
    abbrev h : ℕ
    h = header_from byte0 c.byte1 c.count l

    count-is : count_of h ≡ c.count
    count-is = count-back byte0 _ _ l hb f.byte f.twelve

    byte1-is : byte1_of h ≡ c.byte1
    byte1-is = byte1-back byte0 _ _ l hb f.byte f.twelve

    pub sound-header : (m : ℕ) → (l ≡ true → m ≡ 0) → Sound byte0 h (body_words byte0 c.count + m) c.address
    sound-header m e =
        record {
          same = byte0-back byte0 _ _ l hb f.byte f.twelve;
          asking = asking;
          clear = reserved-back byte0 _ _ l hb f.byte f.twelve;
          counted = rw count-is f.counted;
          enabled = rw (count-is, byte1-is) f.enabled;
          within = rw count-is (omega arith);
          ends = rw (last-back byte0 _ _ l hb f.byte f.twelve, count-is) (ends_at l (body_words byte0 c.count) m e);
        }

    -- its body
    abbrev ad : List ℕ
    ad = address_in (address_words byte0) c.address

    ad-long : length ad ≡ address_words byte0
    ad-long = address-long (address_words byte0) c.address (address-le byte0)

    pub body-long : length (ad ++ c.payload) ≡ body_words byte0 c.count
    body-long = length-append ad c.payload ∙ rw (ad-long, f.long)

    address_is : (r : List ℕ) → address_from (address_words byte0) (ad ++ c.payload ++ r) ≡ c.address
    address_is r = rw (append_assoc ad c.payload r) (address-back (address_words byte0) c.address (c.payload ++ r) f.reaches)

    pub command-is : (r : List ℕ) → command_of byte0 h (ad ++ c.payload ++ r) ≡ c
    unfolding command_of
    command-is r =
        rw (
          count-is,
          byte1-is,
          address_is r,
          append_assoc ad c.payload r,
          drop_at ad (c.payload ++ r) (address_words byte0) ad-long,
          take_at c.payload r _ f.long,
        )

    -- one command's words, whatever follows them where LAST is clear
    pub one-back : (at : ℕ) (r : List ℕ) → (l ≡ true → length r ≡ 0)
        → commands_from byte0 at 0 (command_words byte0 l c ++ r) ≡ cond l (Means (c ∷ [])) (before c (commands_from byte0 (at + 1 + body_words byte0 c.count) 0 r))
    unfolding commands_from command_words head_of
    one-back at r e =
        let whole : length (ad ++ c.payload ++ r) ≡ body_words byte0 c.count + length r = length-append (ad ++ c.payload) r ∙ rw body-long in
        let st : step_on byte0 at h (length (ad ++ c.payload ++ r)) (address_from (address_words byte0) (ad ++ c.payload ++ r)) ≡ Ok (head_of byte0 h) =
        rw (whole, address_is r) (step-read byte0 at h _ _ (faultless byte0 h _ _ (sound-header (length r) e))) in
        rw (
          st,
          command-is r,
          last-back byte0 c.byte1 c.count l hb f.byte f.twelve,
          count-is,
          skipped byte0 (at + 1 + body_words byte0 c.count) (body_words byte0 c.count) (ad ++ c.payload ++ r),
          drop_at (ad ++ c.payload) r (body_words byte0 c.count) body-long,
        )

  pub all_back : (at : ℕ) (cs : List Command) → none cs ≡ false → All (FitsCommand byte0) cs → commands_from byte0 at 0 (request_words byte0 cs) ≡ Means cs
  unfolding All request_words
  all_back at [] h f = cc
  all_back at (c ∷ []) h f = one-back true c f.0 at [] (λ e. refl)
  all_back at (c ∷ d ∷ cs) h f = one-back false c f.0 at (request_words byte0 (d ∷ cs)) (λ e. absurd (false≢true e)) ∙ rw (all_back (at + 1 + body_words byte0 c.count) (d ∷ cs) refl f.1)

  -- a fitting command's words are words
  pub command-words : (l : Bool) (c : Command) → FitsCommand byte0 c → Words (command_words byte0 l c)
  unfolding command_words Rattle.word.specs.Words.Below
  command-words l c f = (
    header-lt byte0 c.byte1 c.count l hb f.byte f.twelve,
    below-append _ (address_in (address_words byte0) c.address) c.payload (address-words (address_words byte0) c.address f.reaches) f.words,
  )

  pub request-words : (cs : List Command) → All (FitsCommand byte0) cs → Words (request_words byte0 cs)
  unfolding request_words All Rattle.word.specs.Words.Below
  request-words [] f = tt
  request-words (c ∷ cs) f = below-append _ (command_words byte0 (none cs) c) (request_words byte0 cs) (command-words (none cs) c f.0) (request-words cs f.1)

-- the first byte of a request's bytes is its byte 0
pub first_byte : (byte0 : ℕ) (cs : List Command) → byte0 < 256 → none cs ≡ false → All (FitsCommand byte0) cs → get_or (bytes_of (request_words byte0 cs)) 0 0 ≡ byte0
unfolding request_words command_words bytes_of All
first_byte byte0 [] hb h f = cc
first_byte byte0 (c ∷ cs) hb h f = byte0-back byte0 c.byte1 c.count (none cs) hb f.0.byte f.0.twelve

pub request-some : (byte0 : ℕ) (cs : List Command) → none cs ≡ false → 0 < length (request_words byte0 cs)
unfolding request_words command_words
request-some byte0 [] h = cc
request-some byte0 (c ∷ cs) h = omega arith

-- the length of some words' bytes is right where there are some words and not too many
pub length-right : (ws : List ℕ) → 0 < length ws → length ws ≤ limit → length_ok (length (bytes_of ws)) ≡ true
length-right ws h k =
    let n = length-bytes ws in
    length-fits (length (bytes_of ws)) (omega arith) (omega arith) (omega arith)

-- but for 10, a fitting request's bytes read as its commands
pub read_asked : (r : Request) → FitsAsked r → read (written r) ≡ ended r.byte0 (Means r.commands)
unfolding read written
read_asked r f =
    let ws = request_words r.byte0 r.commands in
    rw (
      length-right ws (request-some r.byte0 r.commands f.some) f.short,
      first_byte r.byte0 r.commands f.byte f.some f.all,
      words_back ws (request-words r.byte0 f.byte f.asking r.commands f.all),
      all_back r.byte0 f.byte f.asking 0 r.commands f.some f.all,
    )

pub read-written : ReadWritten
unfolding ended
read-written r f = rw (read_asked r f.asked, le-leb _ _ f.answer)
