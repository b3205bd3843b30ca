-- A datagram that reads as a meaning is that meaning's bytes, and the meaning fits. Whoever reads a request cites `written_read`.
-- Assumes nothing.
use Prim.Native.Nat.{ℕ, zero, suc, ◌+◌, ◌<◌, ◌≤◌}
use mathlib.Core.Path.{◌≡◌, refl, sym, ap}
use mathlib.Core.Bool.{Bool, true, false, cond}
use mathlib.Core.List.{List, [], ◌∷◌, ◌++◌, append_assoc}
use native.Mathlib.Omega.{arith}
use borrow.Author.Tests.{eqb-true, leb-true}
use lib.Dec.{leb, eqb}
use lib.ListN.{length, get_or, drop, length-drop, take-append-drop, drop_of_length-le}
use lib.Seq.{drop-drop, length-take-le}
use Rattle.word.specs.Words.{words_of, Words, Below}
use Rattle.word.proofs.Runs.{below-take, below-drop, below-nth}
use Rattle.word.proofs.Crossing.{bytes_back, words-below, length-words_of}
use Rattle.header.specs.Limits.{limit, length_ok}
use Rattle.header.specs.Header.{kind_of, byte1_of, count_of, last_of, header_from, address_words, data_words, body_words, head_of, ends_ok}
use Rattle.header.specs.Refusal.{refused_at}
use Rattle.header.proofs.Laws.Header.{header_is, address-le}
use Rattle.header.proofs.Laws.Limits.{right}
use Rattle.std.specs.Prelude.{Ok, Err}
use Rattle.message.specs.Faults.{asks}
use Rattle.message.specs.Walk.{step_on, command_of, turn, commands_from, ended, read, request_of}
use Rattle.message.specs.Request.{Command, Request, Reading, Refused, Means, before, replies, command_words, none, request_words, written, FitsCommand, All}
use Rattle.message.specs.Promises.{WrittenRead}
use Rattle.message.proofs.Laws.Faults.{SoundBefore, sound, fault_before, past, before-is}
use Rattle.message.proofs.Laws.Addresses.{address_is, address-top}

-- the command of a header that stands with its body
module _ (byte0 h : ℕ) (rest : List ℕ) (s : SoundBefore byte0 h rest) (hw : h < 4294967296) (each : Words rest) where
  pub one-fits : FitsCommand byte0 (command_of byte0 h rest)
  unfolding command_of
  one-fits =
      record {
        byte = omega arith;
        twelve = omega arith;
        counted = s.counted;
        enabled = s.enabled;
        reaches = address-top (address_words byte0) rest (omega (arith, s.within)) each;
        long = length-take-le (data_words (kind_of byte0) (count_of h)) (drop (address_words byte0) rest) (simp length-drop (omega (arith, s.within)));
        words = below-take _ (data_words (kind_of byte0) (count_of h)) (drop (address_words byte0) rest) (below-drop _ (address_words byte0) rest each);
      }

  pub one-is : command_words byte0 (last_of h) (command_of byte0 h rest) ++ drop (body_words byte0 (count_of h)) rest ≡ h ∷ rest
  unfolding command_words command_of
  one-is =
      let aw = address_words byte0 in
      let dw = data_words (kind_of byte0) (count_of h) in
      let hd : header_from byte0 (byte1_of h) (count_of h) (last_of h) ≡ h = rw (← s.same) (header_is h hw s.clear) in
      rw (hd, append_assoc, ← drop-drop dw aw rest, take-append-drop dw (drop aw rest), address_is aw rest (address-le byte0) (omega (arith, s.within)) each)

-- what the words of some commands come to
pub record Backed (byte0 : ℕ) (ws : List ℕ) (cs : List Command) : Type 0 where
  pub asking : asks (kind_of byte0) ≡ true
  pub some : none cs ≡ false
  pub all : All (FitsCommand byte0) cs
  pub is : request_words byte0 cs ≡ ws

ends-empty : (n : ℕ) (rest : List ℕ) → ends_ok true n (length rest) ≡ true → drop n rest ≡ []
ends-empty n rest e = let q = eqb-true (length rest) n e in drop_of_length-le rest {i = n} (omega arith)

module _ (byte0 h : ℕ) (rest : List ℕ) (s : SoundBefore byte0 h rest) (hw : h < 4294967296) (each : Words rest) where
  -- a LAST command
  last-backed : last_of h ≡ true → Backed byte0 (h ∷ rest) (command_of byte0 h rest ∷ [])
  unfolding request_words All
  last-backed l =
      let nil : drop (body_words byte0 (count_of h)) rest ≡ [] = ends-empty _ rest (rw l at s.ends) in
      record {
        asking = s.asking;
        some = refl;
        all = (one-fits byte0 h rest s hw each, tt);
        is = rw (← l, ← nil) (one-is byte0 h rest s hw each);
      }

  -- a command and those behind it
  more-backed : last_of h ≡ false → (ds : List Command) → Backed byte0 (drop (body_words byte0 (count_of h)) rest) ds → Backed byte0 (h ∷ rest) (command_of byte0 h rest ∷ ds)
  unfolding request_words All
  more-backed l ds b =
      record {
        asking = s.asking;
        some = refl;
        all = (one-fits byte0 h rest s hw each, b.all);
        is = rw (b.is, b.some, ← l) (one-is byte0 h rest s hw each);
      }

pub commands-backed : (byte0 at skip : ℕ) (ws : List ℕ) (cs : List Command) → Words ws → commands_from byte0 at skip ws ≡ Means cs → Backed byte0 (drop skip ws) cs
unfolding commands_from Below head_of step_on
commands-backed byte0 at zero [] cs e m = cc
commands-backed byte0 at (suc n) [] cs e m = cc
commands-backed byte0 at (suc n) (w ∷ ws) cs e m = commands-backed byte0 at n ws cs e.1 m
commands-backed byte0 at zero (h ∷ rest) cs e m = go (λ n ds x. commands-backed byte0 (at + 1 + n) n rest ds e.1 x) (eqb (fault_before byte0 h rest) 0) refl m
  where
    by : SoundBefore byte0 h rest → ((n : ℕ) (ds : List Command) → commands_from byte0 (at + 1 + n) n rest ≡ Means ds → Backed byte0 (drop n rest) ds)
        → (b : Bool) → last_of h ≡ b
        → cond b (Means (command_of byte0 h rest ∷ [])) (before (command_of byte0 h rest) (commands_from byte0 (at + 1 + body_words byte0 (count_of h)) (body_words byte0 (count_of h)) rest)) ≡ Means cs
        → Backed byte0 (h ∷ rest) cs
    by s ih true l x = let is : command_of byte0 h rest ∷ [] ≡ cs = cc in rw (← is) (last-backed byte0 h rest s e.0 e.1 l)
    by s ih false l x =
        let t = before-is (command_of byte0 h rest) (commands_from byte0 (at + 1 + body_words byte0 (count_of h)) (body_words byte0 (count_of h)) rest) cs x in
        rw t.2 (more-backed byte0 h rest s e.0 e.1 l t.0 (ih (body_words byte0 (count_of h)) t.0 t.1))

    go : ((n : ℕ) (ds : List Command) → commands_from byte0 (at + 1 + n) n rest ≡ Means ds → Backed byte0 (drop n rest) ds)
        → (b : Bool) → eqb (fault_before byte0 h rest) 0 ≡ b
        → turn (cond b (Ok (head_of byte0 h)) (Err (refused_at (fault_before byte0 h rest) at))) (command_of byte0 h rest) (λ n. commands_from byte0 (at + 1 + n) n rest) ≡ Means cs
        → Backed byte0 (h ∷ rest) cs
    go ih false z x = cc
    go ih true z x = by (sound byte0 h (length rest) _ (eqb-true _ _ z)) ih (last_of h) refl x

-- what was read, by its parts
pub ended_is : (byte0 : ℕ) (p : Reading (List Command)) (r : Request) → ended byte0 p ≡ Means r
    → (r.byte0 ≡ byte0) × (p ≡ Means r.commands) × (replies byte0 r.commands ≤ limit)
unfolding ended
ended_is byte0 (Refused n) r e = cc
ended_is byte0 (Means cs) r e =
    let p = past (leb (replies byte0 cs) limit) _ _ e in
    let q : record { byte0 = byte0; commands = cs } ≡ r = cc in
    (ap (λ (x : Request). x.byte0) (sym q), ap (λ (x : Request). Means x.commands) q, rw (← ap (λ (x : Request). x.commands) q) (leb-true _ _ p.0))

pub written_read : WrittenRead
unfolding read written
written_read dg r h m =
    let p = past (length_ok (length dg)) _ _ m in
    let t = ended_is (get_or dg 0 0) (commands_from (get_or dg 0 0) 0 0 (words_of dg)) r p.1 in
    let n = right (length dg) p.0 in
    let b : Backed r.byte0 (words_of dg) r.commands = rw t.0 (commands-backed (get_or dg 0 0) 0 0 (words_of dg) r.commands (words-below dg h) t.1) in (
      record {
        asked = record {
          byte = rw t.0 (below-nth 256 dg 0 h (omega arith));
          asking = b.asking;
          some = b.some;
          all = b.all;
          short = rw (b.is, length-words_of dg) (omega (arith, n.most));
        };
        answer = rw t.0 t.2;
      },
      rw b.is (sym (bytes_back dg h n.whole)),
    )

-- what a datagram asks is what it means
pub asked_is : (dg : List ℕ) (r : Request) → read dg ≡ Means r → request_of dg ≡ r
unfolding request_of
asked_is dg r e = rw e

pub means-asked : (dg : List ℕ) (r : Request) → read dg ≡ Means r → read dg ≡ Means (request_of dg)
means-asked dg r e = rw (asked_is dg r e) e
