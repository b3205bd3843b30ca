-- What the calls inside `write` go by; nobody else needs to read it. Assumes nothing.
use Rattle.std.specs.Prelude.{ℕ, ◌+◌, ◌<◌, ◌≤◌, ◌≡◌, false, List, [], ◌∷◌, Result, IsOkAnd}
use Rattle.header.specs.declared.refusal.Refusal.{Refusal}
use Rattle.header.specs.declared.Kind.{Kind}
use Rattle.header.specs.declared.Kind.TheVariants.{Nop, Write, Read, Response}
use Rattle.header.specs.Limits.{tag_count}
use Rattle.header.specs.Header.{byte0_from}
use Rattle.message.specs.Request.{Command}
use Rattle.building.specs.declared.record.Building.{Building}
use Rattle.building.specs.Record.{byte0_by}
use Rattle.building.specs.Sequence.{Adding}
use Rattle.layout.specs.declared.Stage.{Stage}
use Rattle.layout.specs.Layout.{each_from, row_write, row_read, mark_write, kind_at, commands_at}

-- begun over the output o, of this kind and tag, these commands added
pub record Going (o : List ℕ) (kind : Kind) (tag : ℕ) (cs : List Command) (b : Building) (out : List ℕ) : Type 0 where
  pub adding : Adding o cs b out
  pub small : tag < tag_count
  pub byte0 : byte0_by b ≡ byte0_from tag kind false false

-- the table's addresses are below 2^32
abbrev pub Below : ℕ → Type 0
Below start = start + 772 ≤ 4294967296

-- the command of row i in a message of this kind, of writes or of reads
abbrev pub row_by : Kind → ℕ → List ℕ → ℕ → Command
row_by Nop start rows i = row_read start i
row_by Write start rows i = row_write start rows i
row_by Read start rows i = row_read start i
row_by Response start rows i = row_read start i

pub data Rowed : Kind → Type 0 where
  writes : Rowed Write
  reads : Rowed Read

-- the commands of i rows are added
abbrev pub Row : List ℕ → Kind → ℕ → ℕ → List ℕ → ℕ → Building → List ℕ → Type 0
Row o kind tag start rows i b out = Going o kind tag (each_from (row_by kind start rows) 0 i) b out

-- one row's command more; n rows' more, of none; a write to the mark, a stage's commands more, of none: none is
-- refused, whatever the output was before anything was added
abbrev pub RowAdded : ℕ → List ℕ → ℕ → Building → List ℕ → Result Building Refusal → List ℕ → Type 0
RowAdded start rows i b out result out' =
    (o : List ℕ) (kind : Kind) (tag : ℕ) → Rowed kind → Row o kind tag start rows i b out
    → IsOkAnd result (λ b'. Row o kind tag start rows (i + 1) b' out')

abbrev pub RowsAdded : ℕ → List ℕ → ℕ → Building → List ℕ → Result Building Refusal → List ℕ → Type 0
RowsAdded start rows n b out result out' =
    (o : List ℕ) (kind : Kind) (tag : ℕ) → Rowed kind → Row o kind tag start rows 0 b out
    → IsOkAnd result (λ b'. Row o kind tag start rows n b' out')

abbrev pub MarkAdded : ℕ → ℕ → Building → List ℕ → Result Building Refusal → List ℕ → Type 0
MarkAdded start value b out result out' =
    (o : List ℕ) (tag : ℕ) → Going o Write tag [] b out
    → IsOkAnd result (λ b'. Going o Write tag (mark_write start value ∷ []) b' out')

abbrev pub StageAdded : Stage → ℕ → List ℕ → Building → List ℕ → Result Building Refusal → List ℕ → Type 0
StageAdded stage start rows b out result out' =
    (o : List ℕ) (tag : ℕ) → Going o (kind_at stage) tag [] b out
    → IsOkAnd result (λ b'. Going o (kind_at stage) tag (commands_at stage start rows) b' out')
