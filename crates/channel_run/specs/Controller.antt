-- The controller as the programs hold it, and an arrival. Assumes nothing.
use Rattle.std.specs.Prelude.{ℕ, ◌*◌, List, replicate}
use Rattle.header.specs.Limits.{limit, limit_bytes}
use Rattle.tags.specs.Record.{places, fresh_record}
use Rattle.completer.specs.Controller.{Controller as Whole, lent, After}
use Rattle.completer.specs.Serving.{after}
use Rattle.channel_run.specs.declared.controller.Controller.{Controller}
use Rattle.channel_run.specs.declared.controller.Arrived.{Arrived}
use Rattle.channel_run.specs.declared.controller.Answering.{Answering}
use Rattle.channel_run.specs.Bytes.{first_of, zeros, placed}

-- a fresh record, and this byte throughout the stored answers and the kept requests
abbrev pub fresh_with : ℕ → Controller
fresh_with byte = record {
  stored = replicate (places * limit) (16843009 * byte);
  kept = replicate (places * limit_bytes) byte;
  tags = fresh_record;
}

-- what is there after a datagram has come to the controller over this memory, an output of zeros lent
abbrev pub after_in : List ℕ → Controller → List ℕ → After
after_in memory c dg = after (lent memory c.stored c.kept c.tags) zeros dg

-- of that, what an arrival leaves in the controller: all but the memory, which is lent
abbrev pub held_by : Whole → Controller
held_by c = record { stored = c.stored; kept = c.kept; tags = c.tags }

-- and what it hands back: the refusal, and the answer
abbrev pub arrived_by : After → Arrived
arrived_by a = record { refusal = a.refusal; answer = first_of a.output a.sent }

-- after datagram i has come: its answer stands in the channel, where there is one
abbrev pub answering_after : {words : ℕ} → Answering words → ℕ → List ℕ → Answering words
answering_after a i dg =
    let then = after_in a.memory a.controller dg in
    record {
      controller = held_by then.controller;
      memory = then.controller.memory;
      answers = record { places = placed a.answers.places i (arrived_by then).answer };
    }
