-- The sender's calls in figures, from bytes. `proofs/Laws/Benched.antt` computes them. Assumes nothing.
use Rattle.std.specs.Prelude.{ℕ, ◌+◌, Bool, true, false, List, [], ◌∷◌, replicate}
use Rattle.word.specs.Words.{bytes_of}
use Rattle.header.specs.declared.refusal.Refusal.{Refusal}
use Rattle.header.specs.Refusal.{refused_at, refusal}
use Rattle.initiator.specs.declared.sender.Sender.{Sender}
use Rattle.initiator.specs.declared.sender.Moved.{Moved}
use Rattle.initiator.specs.declared.sender.Taken.{Taken}
use Rattle.initiator.specs.Sender.{offer_of, send_of, send_fault, take_of}
use Rattle.initiator.specs.Examples.{Line, write, write_a, read_two, two_writes}

-- a sender of this next tag at which so many wait, and its marks: of the second, the third and the fourth
abbrev pub waits : ℕ → ℕ → Bool → Bool → Bool → Sender
waits next n second third fourth =
    record { next = next; waiting = n; second = second; third = third; fourth = fourth }

-- none waits, one does, four do; and with every mark set
abbrev pub idle : ℕ → Sender
idle next = waits next 0 false false false

abbrev pub waiting : ℕ → Sender
waiting next = waits next 1 false false false

abbrev pub four : ℕ → Sender
four next = waits next 4 false false false

abbrev pub all_marked : ℕ → ℕ → Sender
all_marked next n = waits next n true true true

abbrev pub moved : Refusal → Sender → Moved
moved r s = record { refusal = r; sender = s }

-- the bench sheet's write (a) under each tag that these lines have, and the header of an answer to it
abbrev pub write_as : ℕ → List ℕ
write_as tag = write (0x80010F10 + tag)

abbrev pub ok_as : ℕ → List ℕ
ok_as tag = bytes_of ((0x80000030 + tag) ∷ [])

-- "the fixed discovery", with the figures of [6]
abbrev pub fixed_discovery : List ℕ
fixed_discovery = bytes_of (0x80020080 ∷ 0x0000230C ∷ 0x00000000 ∷ [])

-- offering: refused, "sender unchanged"; accepted, one more waits
abbrev pub offer_refused : Sender → List ℕ → ℕ → ℕ → Line Moved
offer_refused s message n at = record { given = offer_of s message; is = moved (refused_at n at) s }

abbrev pub offered : Sender → List ℕ → Sender → Line Moved
offered s message after = record { given = offer_of s message; is = moved (refusal 0) after }

unfoldable pub offers : List (Line Moved)
offers =
    -- 37, at 16 and above, and for five and more that wait; before 36 and before 31
    offer_refused (idle 16) write_a 37 0
    ∷ offer_refused (idle 255) write_a 37 0
    ∷ offer_refused (waits 0 5 false false false) (write_as 5) 37 0
    ∷ offer_refused (all_marked 0 255) (write_as 15) 37 0
    ∷ offer_refused (four 16) (write_as 4) 37 0
    ∷ offer_refused (idle 16) [] 37 0
    ∷ offer_refused (waits 0 5 false false false) [] 37 0
    -- 36, also for what could be offered, and where answered ones are among the four; before 31
    ∷ offer_refused (four 0) (write_as 4) 36 0
    ∷ offer_refused (four 15) (write_as 3) 36 0
    ∷ offer_refused (all_marked 0 4) (write_as 4) 36 0
    ∷ offer_refused (four 0) [] 36 0
    ∷ offer_refused (four 0) (two_writes 0x90010F10) 36 0
    -- 31: what 2, 3, 6 at a later header, and 10 refuse; the discovery bit; a tag one more, one less, and 0 for 15
    ∷ offer_refused (idle 0) [] 31 0
    ∷ offer_refused (idle 0) (replicate 8976 0) 31 0
    ∷ offer_refused (idle 0) (write 0x00010F10) 31 3
    ∷ offer_refused (idle 0) (two_writes 0x90010F10) 31 3
    ∷ offer_refused (idle 0) (bytes_of (0x88C30020 ∷ 0x00000000 ∷ [])) 31 0
    ∷ offer_refused (idle 0) (write 0x80010F90) 31 0
    ∷ offer_refused (idle 0) fixed_discovery 31 0
    ∷ offer_refused (idle 0) (write_as 1) 31 0
    ∷ offer_refused (idle 1) write_a 31 0
    ∷ offer_refused (idle 15) write_a 31 0
    -- the tag of one that waits, the one behind the right one, and the next tag where others wait past 15
    ∷ offer_refused (waiting 0) write_a 31 0
    ∷ offer_refused (waiting 0) (write_as 2) 31 0
    ∷ offer_refused (waits 14 3 false false false) (write_as 14) 31 0
    ∷ offer_refused (waits 14 3 false false false) write_a 31 0
    -- 31's causes in their order: no LAST before the discovery bit, and before the tag
    ∷ offer_refused (idle 0) (write 0x00010F90) 31 3
    ∷ offer_refused (idle 1) (write 0x00010F10) 31 3
    -- none; an answer of 2,243 words
    ∷ offered (idle 0) write_a (waiting 0)
    ∷ offered (idle 0) (bytes_of (0x88C20020 ∷ 0x00000000 ∷ [])) (waiting 0)
    ∷ offered (idle 15) (write_as 15) (waiting 15)
    ∷ offered (idle 0) read_two (waiting 0)
    ∷ offered (idle 0) (bytes_of (0x80000000 ∷ [])) (waiting 0)
    -- a second, a third and a fourth, past 15; those that are answered stay so
    ∷ offered (waiting 14) (write_as 15) (waits 14 2 false false false)
    ∷ offered (waits 14 2 true false false) write_a (waits 14 3 true false false)
    ∷ offered (waits 14 3 true true false) (write_as 1) (waits 14 4 true true false)
    -- marks of messages that do not wait are cleared
    ∷ offered (all_marked 0 0) write_a (waiting 0)
    ∷ offered (all_marked 0 1) (write_as 1) (waits 0 2 false false false)
    ∷ offered (all_marked 0 2) (write_as 2) (waits 0 3 true false false)
    ∷ offered (all_marked 0 3) (write_as 3) (waits 0 4 true true false)
    ∷ []

-- sending: its refusal, and the bytes that it hands back, none where it is refused
pub record Sent : Type 0 where
  pub refusal : Refusal
  pub bytes : List ℕ

abbrev pub sent : Sender → List ℕ → Sent
sent s message = record { refusal = send_fault s message; bytes = send_of s message }

abbrev pub send_refused : Sender → List ℕ → ℕ → ℕ → Line Sent
send_refused s message n at = record { given = sent s message; is = record { refusal = refused_at n at; bytes = [] } }

abbrev pub handed : Sender → List ℕ → Line Sent
handed s message = record { given = sent s message; is = record { refusal = refusal 0; bytes = message } }

unfoldable pub sends : List (Line Sent)
sends =
    -- 37 before 30 and before 31
    send_refused (idle 16) write_a 37 0
    ∷ send_refused (waiting 16) write_a 37 0
    ∷ send_refused (waiting 16) [] 37 0
    ∷ send_refused (waits 0 5 false false false) write_a 37 0
    ∷ send_refused (waits 0 5 false false false) [] 37 0
    -- 30, also for what could be sent, whatever the marks are; before 31
    ∷ send_refused (idle 0) write_a 30 0
    ∷ send_refused (all_marked 0 0) write_a 30 0
    ∷ send_refused (idle 0) (write 0x00010F10) 30 0
    -- 31
    ∷ send_refused (waiting 0) [] 31 0
    ∷ send_refused (waiting 0) (write 0x00010F10) 31 3
    ∷ send_refused (waiting 0) (write 0x80010F90) 31 0
    ∷ send_refused (waiting 1) write_a 31 0
    ∷ send_refused (waiting 0) (write_as 1) 31 0
    -- of four past 15 the tag before the oldest, and the one behind the newest; each that is answered
    ∷ send_refused (four 14) (write_as 13) 31 0
    ∷ send_refused (four 14) (write_as 2) 31 0
    ∷ send_refused (waits 14 4 true false false) (write_as 15) 31 0
    ∷ send_refused (waits 14 4 false true false) write_a 31 0
    ∷ send_refused (waits 14 4 false false true) (write_as 1) 31 0
    -- none
    ∷ handed (waiting 0) write_a
    ∷ handed (waiting 15) (write_as 15)
    -- each of four past 15, whatever the others are
    ∷ handed (all_marked 14 4) (write_as 14)
    ∷ handed (waits 14 4 false true true) (write_as 15)
    ∷ handed (waits 14 4 true false true) write_a
    ∷ handed (waits 14 4 true true false) (write_as 1)
    -- the newest of them, whatever the marks behind it are
    ∷ handed (all_marked 0 1) write_a
    ∷ handed (waits 0 2 false true true) (write_as 1)
    ∷ handed (waits 0 3 false false true) (write_as 2)
    ∷ []

-- taking: refused, "sender unchanged" and nothing ended; accepted, this is the sender, and so many ended
abbrev pub take_refused : Sender → List ℕ → List ℕ → ℕ → ℕ → Line Taken
take_refused s message answer n at =
    record { given = take_of s message answer; is = record { refusal = refused_at n at; sender = s; ended = 0 } }

abbrev pub taken : Sender → List ℕ → ℕ → Sender → ℕ → Line Taken
taken s message h after ended =
    record {
      given = take_of s message (bytes_of (h ∷ []));
      is = record { refusal = refusal 0; sender = after; ended = ended };
    }

-- an OK answer to the write of this tag
abbrev pub answered : Sender → ℕ → Sender → ℕ → Line Taken
answered s tag after ended = taken s (write_as tag) (0x80000030 + tag) after ended

unfoldable pub takes : List (Line Taken)
takes =
    -- 37 before 30, before 31 and before 32
    take_refused (idle 16) write_a (ok_as 0) 37 0
    ∷ take_refused (waiting 16) (write 0x00010F10) [] 37 0
    ∷ take_refused (waits 0 5 false false false) write_a (ok_as 0) 37 0
    ∷ take_refused (waits 0 5 false false false) (write 0x00010F10) [] 37 0
    -- 30, also for what could be taken; before 31 and before 32
    ∷ take_refused (idle 0) write_a (ok_as 0) 30 0
    ∷ take_refused (all_marked 0 0) write_a (ok_as 0) 30 0
    ∷ take_refused (idle 0) (write 0x00010F10) [] 30 0
    -- 31, before 32: no LAST, the discovery bit, another tag; before 33, 34 and 35
    ∷ take_refused (waiting 0) (write 0x00010F10) [] 31 3
    ∷ take_refused (waiting 0) (write 0x80010F90) [] 31 0
    ∷ take_refused (waiting 1) write_a [] 31 0
    ∷ take_refused (waiting 0) (write 0x80010F90) (bytes_of (0x800000B0 ∷ [])) 31 0
    ∷ take_refused (waiting 1) write_a (ok_as 1) 31 0
    ∷ take_refused (waiting 1) write_a (bytes_of (0x10000030 ∷ [])) 31 0
    ∷ take_refused (waiting 1) write_a (bytes_of (0x00000030 ∷ [])) 31 0
    -- its own answer to one that is answered already, to the one behind the newest, and to the one before the oldest
    ∷ take_refused (waits 0 2 true false false) (write_as 1) (ok_as 1) 31 0
    ∷ take_refused (waits 0 2 true false false) (write_as 2) (ok_as 2) 31 0
    ∷ take_refused (waits 0 2 true false false) (write_as 15) (ok_as 15) 31 0
    -- 32, before 33, also of a word past the limit; 33, before 34; 34, before 35; 35
    ∷ take_refused (waiting 0) write_a (0x31 ∷ 0x00 ∷ 0x00 ∷ []) 32 0
    ∷ take_refused (waiting 0) write_a (replicate 8976 0x31) 32 0
    ∷ take_refused (waiting 0) write_a (replicate 8972 0x31) 33 0
    ∷ take_refused (waiting 0) write_a (bytes_of (0x90000031 ∷ [])) 33 0
    ∷ take_refused (waiting 0) write_a (bytes_of (0x10000030 ∷ [])) 34 0
    ∷ take_refused (waiting 0) (two_writes 0x80010F10) (bytes_of (0x00000030 ∷ 0x00000330 ∷ [])) 34 1
    ∷ take_refused (waiting 0) write_a (bytes_of (0x00000030 ∷ [])) 35 0
    ∷ take_refused (waiting 0) (two_writes 0x80010F10) (bytes_of (0x00000030 ∷ [])) 35 1
    -- "33 judges by the request lent": the answer to one that waits, with another lent that waits
    ∷ take_refused (four 14) (write_as 14) (ok_as 15) 33 0
    ∷ take_refused (four 14) (write_as 15) (ok_as 14) 33 0
    ∷ take_refused (waits 0 2 true false false) write_a (ok_as 1) 33 0
    -- none: OK, Timeout, the bench sheet's Error; tag 14, and 0 after 15
    ∷ taken (waiting 0) write_a 0x80000030 (idle 1) 1
    ∷ taken (waiting 0) write_a 0x80000130 (idle 1) 1
    ∷ taken (waiting 0) read_two 0x80000230 (idle 1) 1
    ∷ answered (waiting 14) 14 (idle 15) 1
    ∷ answered (waiting 15) 15 (idle 0) 1
    -- of four past 15 the fourth, the second and the third, also by an Error; then the oldest ends all four
    ∷ answered (four 14) 1 (waits 14 4 false false true) 0
    ∷ taken (waits 14 4 false false true) (write_as 15) 0x8000023F (waits 14 4 true false true) 0
    ∷ answered (waits 14 4 true false true) 0 (all_marked 14 4) 0
    ∷ answered (all_marked 14 4) 14 (idle 2) 4
    -- the oldest alone, though the third or the fourth is answered; two; three
    ∷ answered (four 14) 14 (waits 15 3 false false false) 1
    ∷ answered (waits 14 4 false true false) 14 (waits 15 3 true false false) 1
    ∷ answered (waits 14 4 false true true) 14 (waits 15 3 true true false) 1
    ∷ answered (waits 14 4 true false false) 14 (waits 0 2 false false false) 2
    ∷ answered (waits 14 4 true false true) 14 (waits 0 2 true false false) 2
    ∷ answered (waits 14 4 true true false) 14 (waiting 1) 3
    -- fewer wait: all of them, and one
    ∷ answered (waits 15 3 true true false) 15 (idle 2) 3
    ∷ answered (waits 15 2 true false false) 15 (idle 1) 2
    ∷ answered (waits 15 3 false true false) 15 (waits 0 2 true false false) 1
    -- marks of messages that do not wait are not looked at
    ∷ answered (all_marked 0 1) 0 (idle 1) 1
    ∷ answered (all_marked 0 2) 0 (idle 2) 2
    ∷ answered (all_marked 0 3) 0 (idle 3) 3
    ∷ answered (waits 0 2 false true true) 0 (waiting 1) 1
    ∷ answered (waits 0 2 false true true) 1 (waits 0 2 true false false) 0
    ∷ []
