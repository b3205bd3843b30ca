-- `tags::record::all_ok` meets its contract: every place is held. Assumes nothing.
use Prim.Native.Nat.{ℕ, ◌+◌, ◌-◌, ◌%◌, ◌<◌}
use native.Mathlib.Omega.{arith}
use Rattle.tags.specs.Record.{places, places_ok}
use Rattle.tags.proofs.Laws.Record.{place-held}
use Rattle.tags.proofs.record.all_ok.Goals as goal

pub returns : goal.returns
unfolding places_ok
returns c =
    let t = c.args.tags in
    let held : (p : ℕ) → (t.tag + (places - p)) % places < t.held = λ p. omega (arith, c.requires) in
    rw (
      c.lengths_ok-a.ensures,
      c.lengths_ok-b.ensures,
      c.lengths_ok-c.ensures,
      c.lengths_ok-d.ensures,
      place-held _ _ _ _ (held 0),
      place-held _ _ _ _ (held 1),
      place-held _ _ _ _ (held 2),
      place-held _ _ _ _ (held 3),
    )
