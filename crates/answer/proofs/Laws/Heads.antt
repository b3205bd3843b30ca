-- Laws of an answer's header: its status, its byte 0, its faults passed one by one. The laws of answers cite these. Assumes nothing.
use Prim.Native.Nat.{ℕ, zero, suc, ◌<◌, ◌≤◌}
use mathlib.Core.Path.{◌≡◌, refl, sym}
use mathlib.Core.Bool.{Bool, true, false, beq}
use native.Mathlib.Omega.{arith}
use borrow.Author.Tests.{eqb-true, leb-true, ltb-true, eq-eqb, le-leb, lt-ltb}
use lib.Dec.{ltb, leb, eqb}
use Rattle.header.specs.declared.Kind.TheVariants.{Response}
use Rattle.header.specs.Header.{tag_of, wide_of, discovery_of, kind_of, byte0_of, byte1_of, count_of, reserved_of, last_of, reply_words, ends_ok}
use Rattle.header.proofs.Laws.Header.{tag_back, discovery-back, byte0-lt, reply-le}
use Rattle.header.proofs.Laws.Refusal.{passed}
use Rattle.answer.specs.declared.Status.{Status}
use Rattle.answer.specs.declared.Status.TheVariants.{Ok, Timeout, Error}
use Rattle.answer.specs.Answer.{code_of, status_no, answer_byte, wanted, stops, answer_fault}

-- a status is what its code names, and the other way
pub status-code : (s : Status) → status_no (code_of s) ≡ s
unfolding status_no
status-code Ok = refl
status-code Timeout = refl
status-code Error = refl

pub code-status : (n : ℕ) → n < 3 → code_of (status_no n) ≡ n
unfolding status_no
code-status zero h = refl
code-status (suc zero) h = refl
code-status (suc (suc zero)) h = refl
code-status (suc (suc (suc n))) h = absurd (omega arith)

pub code_lt : (s : Status) → code_of s < 3
code_lt Ok = omega arith
code_lt Timeout = omega arith
code_lt Error = omega arith

pub answer_lt : (byte0 : ℕ) → answer_byte byte0 < 256
unfolding answer_byte
answer_lt byte0 = byte0-lt (tag_of byte0) _ (wide_of byte0) (discovery_of byte0) (omega arith)

-- it keeps tag, width and discovery
pub answer-tag : (byte0 : ℕ) → tag_of (answer_byte byte0) ≡ tag_of byte0
unfolding answer_byte
answer-tag byte0 = tag_back (tag_of byte0) Response (wide_of byte0) (discovery_of byte0) (omega arith)

pub answer-discovery : (byte0 : ℕ) → discovery_of (answer_byte byte0) ≡ discovery_of byte0
unfolding answer_byte
answer-discovery byte0 = discovery-back (tag_of byte0) Response (wide_of byte0) (discovery_of byte0) (omega arith)

pub wanted-le : (byte0 count : ℕ) (s : Status) → wanted byte0 count s ≤ count
wanted-le byte0 count Ok = reply-le (kind_of byte0) count
wanted-le byte0 count Timeout = omega arith
wanted-le byte0 count Error = omega arith

pub wanted-reply : (byte0 count : ℕ) (s : Status) → wanted byte0 count s ≤ reply_words (kind_of byte0) count
wanted-reply byte0 count Ok = omega arith
wanted-reply byte0 count Timeout = omega arith
wanted-reply byte0 count Error = omega arith

-- an answer that does not stop is OK, and not that of the last command
pub stops-clear : (s : Status) (last : Bool) → stops s last ≡ false → (s ≡ Ok) × (last ≡ false)
stops-clear Ok last e = (refl, e)
stops-clear Timeout last e = cc
stops-clear Error last e = cc

-- one flag beside another
pub same_flag : (a b : Bool) → beq a b ≡ true → a ≡ b
same_flag true true e = refl
same_flag false false e = refl
same_flag true false e = cc
same_flag false true e = cc

pub flag_same : (a b : Bool) → a ≡ b → beq a b ≡ true
flag_same true true e = refl
flag_same false false e = refl
flag_same true false e = sym e
flag_same false true e = e

-- what stands in an answer's header without fault
pub record Fair (byte0 count : ℕ) (last : Bool) (h left : ℕ) : Type 0 where
  pub same : byte0_of h ≡ answer_byte byte0
  pub clear : reserved_of h ≡ 0
  pub known : byte1_of h < 3
  pub counted : count_of h ≡ wanted byte0 count (status_no (byte1_of h))
  pub within : count_of h ≤ left
  pub stopped : last_of h ≡ stops (status_no (byte1_of h)) last
  pub ends : ends_ok (last_of h) (count_of h) left ≡ true

module _ (byte0 count : ℕ) (last : Bool) (h left : ℕ) where
  pub fair : answer_fault byte0 count last h left ≡ 0 → Fair byte0 count last h left
  unfolding answer_fault
  fair e =
      let p1 = passed (eqb (byte0_of h) (answer_byte byte0)) 34 _ (omega arith) e in
      let p2 = passed (eqb (reserved_of h) 0) 34 _ (omega arith) p1.1 in
      let p3 = passed (ltb (byte1_of h) 3) 34 _ (omega arith) p2.1 in
      let p4 = passed (eqb (count_of h) (wanted byte0 count (status_no (byte1_of h)))) 34 _ (omega arith) p3.1 in
      let p5 = passed (leb (count_of h) left) 35 _ (omega arith) p4.1 in
      let p6 = passed (beq (last_of h) (stops (status_no (byte1_of h)) last)) 35 _ (omega arith) p5.1 in
      let p7 = passed (ends_ok (last_of h) (count_of h) left) 35 0 (omega arith) p6.1 in
      record {
        same = eqb-true _ _ p1.0;
        clear = eqb-true _ _ p2.0;
        known = ltb-true _ _ p3.0;
        counted = eqb-true _ _ p4.0;
        within = leb-true _ _ p5.0;
        stopped = same_flag _ _ p6.0;
        ends = p7.0;
      }

  pub fair-fault : Fair byte0 count last h left → answer_fault byte0 count last h left ≡ 0
  unfolding answer_fault
  fair-fault f =
      rw (
        eq-eqb _ _ f.same,
        eq-eqb _ _ f.clear,
        lt-ltb _ _ f.known,
        eq-eqb _ _ f.counted,
        le-leb _ _ f.within,
        flag_same _ _ f.stopped,
        f.ends,
      )
