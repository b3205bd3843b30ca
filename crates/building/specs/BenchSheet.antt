-- Building in figures: the bench sheet's lines, and whole messages of each kind. `proofs/Laws/Benched.antt` computes
-- them. Assumes nothing.
use Rattle.std.specs.Prelude.{ℕ, ◌-◌, ◌≡◌, Bool, true, false, List, [], ◌∷◌, length, replicate}
use Rattle.word.specs.Words.{bytes_of}
use Rattle.header.specs.Limits.{limit_bytes}
use Rattle.header.specs.Refusal.{refusal}
use Rattle.message.specs.Request.{All}
use Rattle.message.specs.Examples.{gapped_words, gapped}
use Rattle.building.specs.declared.record.Building.{Building}
use Rattle.building.specs.declared.asked.Asked.{Asked}
use Rattle.building.specs.Build.{Built}
use Rattle.building.specs.Build.{gives, begun, added, added_to, closed, closed_to}
use Rattle.building.specs.Sequence.{built_bytes}
use Rattle.building.specs.Examples.{ask}

-- a line of the sheet: a write of tag 0 in 32-bit mode is begun, this command added, the message closed; the number
-- that adding it gets, and the message's words
pub record Line : Type 0 where
  pub asked : Asked
  pub payload : List ℕ
  pub number : ℕ
  pub words : List ℕ

-- the output and the record at first, and after the add
unfoldable pub bench_out : List ℕ
bench_out = replicate limit_bytes 0xAA

abbrev pub bench_begun : Building
bench_begun = (begun limit_bytes 1 0 false false).building

abbrev pub bench_added : Line → Built
bench_added l = added bench_out bench_begun l.asked l.payload

abbrev pub bench_added_to : Line → List ℕ
bench_added_to l = added_to bench_out bench_begun l.asked l.payload

-- the line holds
pub record Right (l : Line) : Type 0 where
  pub refused : (bench_added l).refusal ≡ refusal l.number
  pub words : built_bytes (closed (bench_added_to l) (bench_added l).building).building
      (closed_to (bench_added_to l) (bench_added l).building) ≡ bytes_of l.words

-- asked for: the write that the controller's lines have, enables 5 and A
abbrev pub gapped_at : ℕ → ℕ → List ℕ → Line
gapped_at address number words =
    record {
      asked = record { address = address; first = 0x5; last = 0xA; count = 0 };
      payload = gapped_words;
      number = number;
      words = words;
    }

-- [3] "Add a bench line for each side, at addresses 8 and 12": added, and 24; beyond 2^32 24 comes before 25
unfoldable pub bench_sheet : List Line
bench_sheet = gapped_at 8 0 (gapped 8) ∷ gapped_at 12 24 [] ∷ gapped_at 4294967304 25 [] ∷ gapped_at 4294967308 24 [] ∷ []

-- of the record beside a refused begin, 21, which no call gives: adding the first line's command and closing are 21 too
pub record Stops (b : Built) : Type 0 where
  pub begin : b.refusal ≡ refusal 21
  pub add : (added bench_out b.building (gapped_at 8 0 []).asked gapped_words).refusal ≡ refusal 21
  pub close : (closed bench_out b.building).refusal ≡ refusal 21

-- begun with an output a byte short, with kind 3, with tag 16
unfoldable pub refused_begins : List Built
refused_begins =
    begun (limit_bytes - 1) 1 0 false false ∷ begun limit_bytes 3 0 false false ∷ begun limit_bytes 1 16 false false ∷ []

-- a command and the data words lent with it
pub record Lending : Type 0 where
  pub asked : Asked
  pub payload : List ℕ

abbrev pub with : Asked → List ℕ → Lending
with asked payload = record { asked = asked; payload = payload }

-- a message: begin's four, the commands added, its words when it is closed, the place of the last header and the words
-- of the all-OK answer
pub record Message : Type 0 where
  pub kind : ℕ
  pub tag : ℕ
  pub wide : Bool
  pub discovery : Bool
  pub commands : List Lending
  pub words : List ℕ
  pub last : ℕ
  pub answer : ℕ

-- the record and the output after the commands
abbrev pub record_after : Building → List ℕ → List Lending → Building
record_after b out [] = b
record_after b out (c ∷ more) =
    record_after (added out b c.asked c.payload).building (added_to out b c.asked c.payload) more

abbrev pub out_after : Building → List ℕ → List Lending → List ℕ
out_after b out [] = out
out_after b out (c ∷ more) =
    out_after (added out b c.asked c.payload).building (added_to out b c.asked c.payload) more

abbrev pub first : Message → Building
first m = (begun limit_bytes m.kind m.tag m.wide m.discovery).building

abbrev pub filled : Message → Building
filled m = record_after (first m) bench_out m.commands

abbrev pub filled_out : Message → List ℕ
filled_out m = out_after (first m) bench_out m.commands

-- closing it gives this record and these words
pub record Builds (m : Message) : Type 0 where
  pub closes : closed (filled_out m) (filled m)
      ≡ gives 0
      (record {
        kind = m.kind;
        tag = m.tag;
        wide = m.wide;
        discovery = m.discovery;
        words = length m.words;
        last = m.last;
        answer = m.answer;
        closed = true;
      })
  pub bytes : built_bytes (closed (filled_out m) (filled m)).building (closed_to (filled_out m) (filled m))
      ≡ bytes_of m.words

unfoldable pub messages : List Message
messages =
    -- the fixed discovery [6]; NOPs of 64 bits have no address, and their enables and counts are not looked at
    record {
      kind = 0;
      tag = 0;
      wide = false;
      discovery = true;
      commands = with (ask 0 0 0 0) (0x0000230C ∷ 0x00000000 ∷ []) ∷ [];
      words = 0x80020080 ∷ 0x0000230C ∷ 0x00000000 ∷ [];
      last = 0;
      answer = 3;
    }
    ∷ record {
      kind = 0;
      tag = 15;
      wide = true;
      discovery = false;
      commands = with (ask 18446744073709551615 16 99 9) [] ∷ with (ask 4 15 0 0) (0xFEEDC0DE ∷ []) ∷ [];
      words = 0x0000004F ∷ 0x8001004F ∷ 0xFEEDC0DE ∷ [];
      last = 1;
      answer = 3;
    }
    -- the bench sheet's writes (a) and (c), one behind the other under tag 1; writes of 64 bits
    ∷ record {
      kind = 1;
      tag = 1;
      wide = false;
      discovery = false;
      commands = with (ask 4 0xF 0 0) (0xFEEDC0DE ∷ []) ∷ with (ask 4 0x4 0 0) (0xAABBCCDD ∷ []) ∷ [];
      words = 0x00010F11 ∷ 0x00000004 ∷ 0xFEEDC0DE ∷ 0x80010411 ∷ 0x00000004 ∷ 0xAABBCCDD ∷ [];
      last = 3;
      answer = 2;
    }
    ∷ record {
      kind = 1;
      tag = 0;
      wide = true;
      discovery = false;
      commands =
          with (ask 4294967300 0 0 9) (0x11111111 ∷ [])
          ∷ with (ask 18446744073709551615 0xC 0x3 0) (0x22222222 ∷ 0x33333333 ∷ 0x44444444 ∷ [])
          ∷ [];
      words =
          0x00010050
          ∷ 0x00000004
          ∷ 0x00000001
          ∷ 0x11111111
          ∷ 0x80033C50
          ∷ 0xFFFFFFFF
          ∷ 0xFFFFFFFF
          ∷ 0x22222222
          ∷ 0x33333333
          ∷ 0x44444444
          ∷ [];
      last = 4;
      answer = 2;
    }
    -- reads: byte 1 is 0 whatever the enables, and data lent with them are not sent; the bench sheet's discovery read
    ∷ record {
      kind = 2;
      tag = 2;
      wide = false;
      discovery = false;
      commands = with (ask 16 15 0 1) [] ∷ with (ask 4 99 99 2) (0x11111111 ∷ []) ∷ [];
      words = 0x00010022 ∷ 0x00000010 ∷ 0x80020022 ∷ 0x00000004 ∷ [];
      last = 2;
      answer = 5;
    }
    ∷ record {
      kind = 2;
      tag = 0;
      wide = false;
      discovery = true;
      commands = with (ask 16 0 0 1) [] ∷ [];
      words = 0x800100A0 ∷ 0x00000010 ∷ [];
      last = 0;
      answer = 2;
    }
    ∷ []

-- every line holds
pub record BenchHolds : Type 0 where
  pub sheet : All Right bench_sheet
  pub refused : All Stops refused_begins
  pub messages : All Builds messages
