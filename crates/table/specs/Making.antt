-- What a table is made of: the preamble as it is read, or what stands for it where it is refused.
use Rattle.std.specs.Prelude.{◌≡◌, ℕ, ◌<◌, ◌≤◌, List, [], ◌∷◌, length, take, pos, Some, None, Ok, Err, Option, Result, slice_index_or}
use Rattle.faults.specs.declared.Fault.{Fault}
use Rattle.measure.specs.declared.measurer.Measurer.{Ghosts as Meaning}
use Rattle.lengths.specs.declared.order.Order.TheVariants.{Points}
use Rattle.lengths.specs.Gaps.{Parts, parts, parts_of, gap_of}
use Rattle.ledger.specs.declared.records.Room.{Room}
use Rattle.ledger.specs.Refusals.{out_of_range}
use Rattle.ledger.specs.Calls.{Template}
use Rattle.ledger.specs.Preambles.{Preamble, preamble_of}
use Rattle.ledger.specs.declared.records.ColumnRecord.{ColumnRecord}
use Rattle.ledger.specs.Chunks.{total}
use Rattle.ledger.specs.Items.{taken}
use Rattle.templates.specs.declared.memory.Templates.{Templates}
use Rattle.templates.specs.declared.memory.Read.{Read}
use Rattle.templates.specs.Readings.{templates_in, gaps_in}
use Rattle.templates.specs.Kept.{Lies, Kept}
use Rattle.table.specs.declared.make.Start.{Start}

-- the starting gap, if its numbers are in their ranges
abbrev pub start_of : Start → Option Parts
start_of s = gap_of s.natural s.stretch s.order

-- 27 for the starting gap first of all, then what reading the preamble gives
abbrev pub read_from : {X : Type 0} → List ℕ → (List ℕ → Result X ℕ) → Option Parts → Result Preamble Fault
read_from text meaning None = Err out_of_range
read_from text meaning (Some g) = preamble_of text meaning g

-- .. by a measurer's meaning, with the starting gap of a host's numbers
abbrev pub read_with : {X E : Type 0} → Meaning X E → X → List ℕ → Start → Result Preamble Fault
read_with m x text s = read_from text (m.meaning x) (start_of s)

-- the bytes read, or the fault
abbrev pub bytes_read : Result Preamble Fault → Result ℕ Fault
bytes_read (Ok p) = Ok p.bytes
bytes_read (Err f) = Err f

-- a refused table has one column with an empty template, and no gaps
abbrev pub no_gap : Parts
no_gap = parts (pos 0) (pos 0) Points

abbrev pub templates_made : Result Preamble Fault → List Template
templates_made (Ok p) = p.templates
templates_made (Err f) = record { u = []; v = [] } ∷ []

abbrev pub with_start : Option Parts → List Parts → List Parts
with_start (Some g) gs = g ∷ gs
with_start None gs = no_gap ∷ gs

abbrev pub gaps_made : Option Parts → Result Preamble Fault → List Parts
gaps_made start (Ok p) = with_start start p.gaps
gaps_made start (Err f) = no_gap ∷ no_gap ∷ []

abbrev pub text_made : List ℕ → Result Preamble Fault → List ℕ
text_made text (Ok p) = take p.bytes text
text_made text (Err f) = []

-- .. and room for no line, so that it takes none
abbrev pub room_made : Result Preamble Fault → Room → Room
room_made (Ok p) r = r
room_made (Err f) r = record { items = r.items; entries = r.entries; lines = 0; text = r.text }

-- what was read lies in the memory
pub record Lying {E : Type 0} (text : List ℕ) (t : Templates E) (d : Read) : Type 0 where
  pub some : 1 ≤ d.columns
  pub few : d.columns ≤ 32
  pub room : d.pieces ≤ 4096
  pub inside : d.bytes ≤ length text
  pub columns : (c : ℕ) (e : ColumnRecord E) → c < d.columns → Lies d.pieces (slice_index_or t.columns c e).template
  pub bare : total taken (take d.pieces t.pieces) ≡ 0
  pub long-columns : d.columns ≤ length t.columns
  pub long-pieces : d.pieces ≤ length t.pieces

-- .. and is these templates and gaps
pub record Shaped {E : Type 0} (text : List ℕ) (t : Templates E) (d : Read) (ts : List Template) (gs : List Parts) : Type 0 where
  pub lying : Lying text t d
  pub templates : templates_in (take d.bytes text) d.pieces d.columns t ≡ ts
  pub gaps : parts_of t.start ∷ gaps_in d.columns t ≡ gs

-- where a preamble was read, the starting gap is the one that was given
abbrev pub KeptFrom : {E : Type 0} → List ℕ → Option Parts → Templates E → Result Read Fault → Type 0
KeptFrom text start t (Ok d) = (g : Parts) × (start ≡ Some g) × Kept text g t d
KeptFrom text start t (Err f) = Unit {0}

-- how many lines there is room for
abbrev pub lines_kept : Result ℕ Fault → ℕ → ℕ
lines_kept (Ok b) n = n
lines_kept (Err f) n = 0
