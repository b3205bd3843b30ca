-- The answer to the fixed discovery. Whoever starts a sender from it cites this. Assumes nothing.
use Prim.Native.Nat.{ℕ}
use mathlib.Core.Path.{◌∙◌}
use mathlib.Core.List.{List}
use Rattle.message.specs.Discovery.{discovery_byte, discovery_request, discovery_bytes}
use Rattle.message.proofs.Laws.Back.{asked_is}
use Rattle.message.proofs.Laws.Fixed.{discovery-bit, discovery-read}
use Rattle.carrying.proofs.Laws.Promises.{discovery-quiet, discovery-words}
use Rattle.std.specs.Prelude.{Ok}
use Rattle.tags.specs.declared.rule.Verdict.TheVariants.{Discovery}
use Rattle.tags.specs.Record.{mark_of}
use Rattle.tags.proofs.Laws.Record.{rule-finds}
use Rattle.completer.specs.Controller.{Controller}
use Rattle.completer.specs.Serving.{answer_by}
use Rattle.completer.specs.Called.{DiscoveryAnswered}
use Rattle.completer.proofs.Laws.Called.{called-by}

pub discovery-answered : (c : Controller) (o : List ℕ) → DiscoveryAnswered c o
unfolding answer_by
discovery-answered c o a =
    called-by c o discovery_bytes a (Ok Discovery) (rw (discovery-read, rule-finds c.tags discovery_byte discovery-bit))
    ∙ rw (asked_is discovery_bytes discovery_request discovery-read, discovery-quiet c.memory, discovery-words (mark_of c.tags) c.memory)
