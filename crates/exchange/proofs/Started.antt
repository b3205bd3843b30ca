-- The answer to the fixed discovery makes a sender whose next tag is the one after the stored. Assumes nothing.
use Prim.Native.Nat.{ℕ, ◌<◌}
use mathlib.Core.Path.{◌≡◌}
use mathlib.Core.List.{[], ◌∷◌}
use Rattle.word.specs.Words.{bytes_of}
use Rattle.header.specs.Limits.{limit_bytes}
use Rattle.answer.specs.declared.Status.TheVariants.{Ok}
use Rattle.answer.specs.Discovery.{discovery_answer}
use Rattle.answer.proofs.Laws.Fixed.{discovery-judged}
use Rattle.initiator.specs.Sender.{started_at, start_of}
use Rattle.initiator.proofs.Laws.Starting.{start-means}

pub started-at : (mark : ℕ) → mark < 4294967296 → start_of (bytes_of (discovery_answer mark)) ≡ started_at mark
started-at mark small = start-means (bytes_of (discovery_answer mark)) (record { status = Ok; payload = limit_bytes ∷ mark ∷ [] }) [] (discovery-judged mark small)
