-- The promises of the record, by its held tags. Assumes nothing.
use Prim.Native.Nat.{ℕ, ◌+◌, ◌-◌, ◌%◌, ◌≤◌, ◌<◌}
use mathlib.Core.Path.{◌≡◌, refl}
use mathlib.Core.Bool.{Bool, true, false}
use mathlib.Core.Logic.{◌⊎◌, inl, inr}
use native.Mathlib.Omega.{arith}
use borrow.Author.Tests.{eqb-true, eq-eqb}
use Rattle.header.specs.Limits.{tag_count}
use Rattle.tags.specs.declared.record.TagRecord.{TagRecord}
use Rattle.tags.specs.Record.{places, place_of, is_fresh, back, words_at, request_at, record_ok}
use Rattle.tags.specs.Promises.{HoldsRight, AllowedExactly, HeldExactly, PlacesApart}
use Rattle.tags.proofs.Laws.Record.{Held, held-room, held_fits, fresh-fits, held_back, back-held, held-lengths}

-- a held place is that of a held tag
place-tag : (newest p : ℕ) → newest < 16 → p < places → (place_of ((newest + 16 - (newest + (places - p)) % places) % 16) ≡ p) × (back newest ((newest + 16 - (newest + (places - p)) % places) % 16) ≡ (newest + (places - p)) % places)
place-tag newest p n l = (omega arith, omega arith)

holds-right : (tags : TagRecord) → HoldsRight tags → Held tags
unfolding words_at request_at
holds-right tags h =
    record {
      few = h.few;
      tag = h.newest;
      lengths =
          λ p l b.
          let t = (tags.tag + 16 - (tags.tag + (places - p)) % places) % 16 in
          let e = place-tag tags.tag p h.newest l in
          let r = h.lengths t (omega arith) (back-held tags t (rw e.1 b)) in
          let w = rw e.0 at r.words in
          record { some = rw e.0 at r.some; words = w; asked = rw e.0 at r.asked; request = rw e.0 at r.request };
    }

pub allowed-exactly : (tags : TagRecord) → AllowedExactly tags
allowed-exactly tags = record { fine = fine; only = λ e. only e (is_fresh tags) refl }
  where
    fine : (tags.held ≡ 0) ⊎ HoldsRight tags → record_ok tags ≡ true
    fine (inl z) = fresh-fits tags (eq-eqb tags.held 0 z)
    fine (inr h) = held_fits tags (holds-right tags h)

    only : record_ok tags ≡ true → (f : Bool) → is_fresh tags ≡ f → (tags.held ≡ 0) ⊎ HoldsRight tags
    only e true f = inl (eqb-true tags.held 0 f)
    only e false f =
        let r = held-room tags e f in
        inr (record { few = r.few; newest = r.tag; lengths = λ t s h. let l = held-lengths tags t e s h in record { some = l.some; words = l.words; asked = l.asked; request = l.request } })

pub held-exactly : (tags : TagRecord) (tag : ℕ) → tag < 16 → tags.tag < 16 → HeldExactly tags tag
held-exactly tags tag s n =
    record {
      held = λ j l e. back-held tags tag (omega (arith, l, e, so_far tags.tag tag j s e));
      only = λ h. let b = (held_back tags tag h).1 in (back tags.tag tag, b, omega arith);
    }
  where
    so_far : (newest t j : ℕ) → t < 16 → (t + j) % tag_count ≡ newest → back newest t ≤ j
    so_far newest t j s e = omega arith

pub places-apart : PlacesApart
places-apart tag i j a b e = omega arith
