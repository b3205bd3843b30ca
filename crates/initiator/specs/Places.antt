-- The messages that wait at a sender, by their places, 0 for the oldest; and the record once one more waits, one more
-- is answered, or the oldest end. Assumes nothing.
use Rattle.std.specs.Prelude.{ℕ, zero, suc, ◌+◌, ◌-◌, ◌%◌, Bool, false, not, ◌&&◌, ◌||◌, ltb, leb, eqb}
use Rattle.header.specs.Limits.{tag_count}
use Rattle.header.specs.Refusal.{unless}
use Rattle.initiator.specs.declared.sender.Sender.{Sender}

-- "The sender may have up to four messages waiting"
abbrev pub most : ℕ
most = 4

-- not "next tag over 15", "37 also for more" than four waiting
unfoldable pub sender_ok : Sender → Bool
sender_ok s = ltb s.next tag_count && leb s.waiting most

-- not "36 is given when four wait"
unfoldable pub has_room : Sender → Bool
has_room s = ltb s.waiting most

-- the place of a tag among those that wait, one tag after another: 0 for the oldest, whose tag is the next one
unfoldable pub place_in : Sender → ℕ → ℕ
place_in s tag = (tag + tag_count - s.next) % tag_count

-- the mark of a place; the oldest has none, being never answered
unfoldable pub mark_at : Sender → ℕ → Bool
mark_at s zero = false
mark_at s (suc zero) = s.second
mark_at s (suc (suc zero)) = s.third
mark_at s (suc (suc (suc zero))) = s.fourth
mark_at s (suc (suc (suc (suc place)))) = false

-- "A message answered before an older one still counts as waiting": one of them stands at this place. The mark of a
-- message that does not wait is not looked at
unfoldable pub answered_at : Sender → ℕ → Bool
answered_at s place = ltb place s.waiting && mark_at s place

-- "later 31's tag is that of any waiting message not yet answered"
unfoldable pub waits_for : Sender → ℕ → Bool
waits_for s tag = ltb (place_in s tag) s.waiting && not (answered_at s (place_in s tag))

-- "Offering takes the tag after the newest"
unfoldable pub new_tag : Sender → ℕ
new_tag s = (s.next + s.waiting) % tag_count

-- the record of this next tag, at which so many wait and the answered ones are these
abbrev pub record_of : ℕ → ℕ → (ℕ → Bool) → Sender
record_of next waiting answered =
    record { next = next; waiting = waiting; second = answered 1; third = answered 2; fourth = answered 3 }

-- an accepted offer: one more waits, and is not answered
unfoldable pub with_one : Sender → Sender
with_one s = record_of s.next (s.waiting + 1) (answered_at s)

-- the message of this place, a younger one, is answered now: it "still counts as waiting until the older one ends"
unfoldable pub marked : Sender → ℕ → Sender
marked s place = record_of s.next s.waiting (λ p. eqb p place || answered_at s p)

-- how many end with the oldest: it, and the answered ones right behind it
unfoldable pub ending_of : Sender → ℕ
ending_of s = unless (answered_at s 1) 1 (unless (answered_at s 2) 2 (unless (answered_at s 3) 3 4))

-- so many of the oldest end, "and the next tag is" as many more, modulo 16
unfoldable pub without : Sender → ℕ → Sender
without s n = record_of ((s.next + n) % tag_count) (s.waiting - n) (λ p. answered_at s (p + n))
