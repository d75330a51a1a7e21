-- What the lent memory says of a preamble: of one that is read, and of one that is being read. Assumes nothing.
use Rattle.std.specs.Prelude.{ℕ, ◌+◌, Bool, false, List, [], map, take, drop, Ok, Err, Result, slice_set}
use Rattle.std.specs.declared.ops.ControlFlow.{ControlFlow}
use Rattle.std.specs.declared.ops.ControlFlow.TheVariants.{Continue, Break}
use Rattle.faults.specs.declared.Fault.{Fault}
use Rattle.lengths.specs.declared.gap.Gap.{Gap}
use Rattle.lengths.specs.Gaps.{Parts, parts_of}
use Rattle.ledger.specs.declared.records.ItemRecord.{ItemRecord}
use Rattle.ledger.specs.declared.records.ColumnRecord.{ColumnRecord}
use Rattle.ledger.specs.declared.records.Owed.{Owed}
use Rattle.ledger.specs.Ledger.{Item}
use Rattle.ledger.specs.Calls.{Template}
use Rattle.ledger.specs.Items.{decoded_items, template_in}
use Rattle.ledger.specs.Preambles.{Reading, Preamble, Outcome, goes_on, ends, refuses}
use Rattle.templates.specs.declared.memory.Templates.{Templates}
use Rattle.templates.specs.declared.memory.Read.{Read}
use Rattle.templates.specs.declared.memory.Hand.{Hand}

-- the items of a part, n from one on
abbrev pub part_of : List ℕ → ℕ → ℕ → List ItemRecord → List Item
part_of text from n pieces = decoded_items text (take n (drop from pieces)) []

-- a column's template over items, and the gap after it
abbrev pub template_by : {E : Type 0} → List ℕ → List ItemRecord → ColumnRecord E → Template
template_by text pieces c = template_in text pieces c.template

abbrev pub gap_by : {E : Type 0} → ColumnRecord E → Parts
gap_by c = parts_of c.gap

-- the templates of the first n columns over the first p items
abbrev pub templates_in : {E : Type 0} → List ℕ → ℕ → ℕ → Templates E → List Template
templates_in text p n t = map (template_by text (take p t.pieces)) (take n t.columns)

-- the gaps after the first n columns
abbrev pub gaps_in : {E : Type 0} → ℕ → Templates E → List Parts
gaps_in n t = map gap_by (take n t.columns)

-- how many items are written
abbrev pub written : {E : Type 0} → Hand E → ℕ
written h = h.column.template.from + (h.column.template.u + h.column.template.v)

-- the reading that a hand and the memory stand for
abbrev pub reading_of : {E : Type 0} → List ℕ → Hand E → Templates E → Reading
reading_of text h t = record {
  place = h.place;
  templates = templates_in text h.column.template.from h.columns t;
  gaps = gaps_in h.columns t;
  u = part_of text h.column.template.from h.column.template.u t.pieces;
  v = part_of text (h.column.template.from + h.column.template.u) h.column.template.v t.pieces;
  marked = h.marked;
  gap = gap_by h.column;
}

-- the preamble that was read, over a text
abbrev pub preamble_by : {E : Type 0} → List ℕ → Templates E → Read → Preamble
preamble_by text t d = record { templates = templates_in text d.pieces d.columns t; gaps = gaps_in d.columns t; bytes = d.bytes }

-- what a token made of the reading
abbrev pub next_in : {E : Type 0} → List ℕ → Templates E → Result (ControlFlow Read (Hand E)) Fault → Outcome
next_in text t (Ok (Continue h)) = goes_on (reading_of text h t)
next_in text t (Ok (Break d)) = ends (preamble_by text t d)
next_in text t (Err f) = refuses f

-- what was read, over the bytes that it takes of the text, or why not
abbrev pub read_in : {E : Type 0} → List ℕ → Templates E → Result Read Fault → Result Preamble Fault
read_in text t (Ok d) = Ok (preamble_by (take d.bytes text) t d)
read_in text t (Err f) = Err f

-- a meaning that knows no word, for tokens that have none
abbrev pub unmeant : List ℕ → Result ℕ ℕ
unmeant w = Err 0

-- the memory with one more item
abbrev pub with_piece : {E : Type 0} → Templates E → ℕ → ItemRecord → Templates E
with_piece t i x = record { start = t.start; columns = t.columns; pieces = slice_set t.pieces i x }

-- .. with the starting gap
abbrev pub with_start : {E : Type 0} → Templates E → Gap → Templates E
with_start t g = record { start = g; columns = t.columns; pieces = t.pieces }

-- .. and with the column in hand
abbrev pub with_column : {E : Type 0} → Templates E → Hand E → Templates E
with_column t h = record { start = t.start; columns = slice_set t.columns h.columns h.column; pieces = t.pieces }

-- a column whose template has no items yet, from an item on
abbrev pub empty_with : {E : Type 0} → ℕ → Owed E → Gap → ColumnRecord E
empty_with from w g = record { template = record { from = from; u = 0; v = 0 }; widths = w; gap = g }

-- the hand further on, with a mark and a gap
abbrev pub moved : {E : Type 0} → Hand E → ℕ → Bool → Gap → Hand E
moved h end m g = record { place = end; columns = h.columns; marked = m; column = record { template = h.column.template; widths = h.column.widths; gap = g } }

-- the hand at the next column, with nothing of its template yet
abbrev pub renewed : {E : Type 0} → Hand E → ℕ → Owed E → Hand E
renewed h end w = record { place = end; columns = h.columns + 1; marked = false; column = empty_with (written h) w h.column.gap }

-- the column in hand with one more item of u, or of v
abbrev pub longer_u : {E : Type 0} → Hand E → E → ColumnRecord E
longer_u h w = record {
  template = record { from = h.column.template.from; u = h.column.template.u + 1; v = h.column.template.v };
  widths = record { u = w; v = h.column.widths.v };
  gap = h.column.gap;
}

abbrev pub longer_v : {E : Type 0} → Hand E → E → ColumnRecord E
longer_v h w = record {
  template = record { from = h.column.template.from; u = h.column.template.u; v = h.column.template.v + 1 };
  widths = record { u = h.column.widths.u; v = w };
  gap = h.column.gap;
}

-- the hand with that column, behind the item
abbrev pub more : {E : Type 0} → Hand E → ℕ → ColumnRecord E → Hand E
more h end c = record { place = end; columns = h.columns; marked = h.marked; column = c }
