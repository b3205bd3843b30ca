-- `channel_run::controller::Controller::fresh` meets its contract: the record is fresh. Assumes nothing.
use Rattle.std.proofs.Common.{ℕ, ◌*◌, ◌∙◌, ap}
use Rattle.std.proofs.Math.ListN.{replicate}
use Rattle.header.specs.Limits.{limit, limit_bytes}
use Rattle.tags.specs.declared.record.TagRecord.{TagRecord}
use Rattle.tags.specs.Record.{places}
use Rattle.channel_run.specs.declared.controller.Controller.{Controller}
use Rattle.channel_run.proofs.controller.Controller.fresh.Goals as goal

pub returns : goal.returns
returns c =
    let byte = c.args.byte in
    let with : ℕ → TagRecord → Controller = λ word t. record {
      stored = replicate (places * limit) (16843009 * word);
      kept = replicate (places * limit_bytes) byte;
      tags = t;
    } in
    ap (λ (word : ℕ). with word c.fresh.result) c.from.ensures ∙ ap (with byte) c.fresh.ensures
