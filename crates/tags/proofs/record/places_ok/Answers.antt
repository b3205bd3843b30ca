-- `tags::record::places_ok` meets its contract: all at once, or place by place. Assumes nothing.
use Rattle.tags.specs.Record.{places_ok}
use Rattle.tags.proofs.record.places_ok.Goals as goal

pub returns : goal.returns
unfolding places_ok
returns c =
    rw (c.place_ok-a.ensures, c.place_ok-b.ensures, c.place_ok-c.ensures, c.place_ok-d.ensures)
