-- What always holds of rows.
use Rattle.std.specs.Prelude.{◌≡◌, ℕ, ◌+◌, ◌<◌, ◌≤◌, min, Bool, true, false, List, [], map, length, Some, None, Option, if◌then◌else◌, ◌==◌}
use Rattle.ledger.specs.declared.records.ItemRecord.{ItemRecord}
use Rattle.rows.specs.declared.state.Marks.{Marks}
use Rattle.ledger.specs.Ledger.{OpenRow, Ledger}
use Rattle.ledger.specs.declared.records.Room.{Room}
use Rattle.ledger.specs.Calls.{Template}
use Rattle.rows.specs.declared.state.Memory.{Memory}
use Rattle.rows.specs.declared.state.State.{State}
use Rattle.rows.specs.declared.state.Stage.{Stage}
use Rattle.rows.specs.declared.state.Stage.TheVariants.{Closed, Fresh, Begun, Omitted}
use Rattle.rows.specs.declared.state.Cell.{Cell}
use Rattle.rows.specs.declared.state.Cell.TheVariants as cell
use Rattle.ledger.specs.declared.records.Column.{Column}
use Rattle.rows.specs.declared.preamble.Preamble.{Preamble}
use Rattle.rows.specs.Columns.{columns_in, column_at}
use Rattle.rows.specs.declared.draft.Draft.{Draft}
use Rattle.rows.specs.declared.state.EntryRecord.{EntryRecord}
use Rattle.rows.specs.Held.{Fit, Held, held_of}
use Rattle.ledger.specs.Items.{u_in, v_in, template_in}

-- one for a row in hand
abbrev pub one : Stage → ℕ
one Closed = 0
one Fresh = 1
one Begun = 1
one Omitted = 1

-- how many items are owed
abbrev pub owed : Stage → Column → ℕ
owed Closed c = 0
owed Fresh c = c.u + c.v
owed Begun c = c.v
owed Omitted c = 0

-- the marks fit the memory, and the room for what is owed is kept
pub record Good {E : Type 0} (s : State E) (m : Memory E) (q : Preamble E) : Type 0 where
  pub fit : Fit s m
  pub column : s.row.column + one s.stage ≤ length (columns_in q.columns.now)
  pub items : s.marks.items + owed s.stage (column_at (columns_in q.columns.now) s.row.column) ≤ min 16384 (length m.items.now)
  pub entries : s.marks.entries + one s.stage ≤ min 8192 (length m.entries.now)
  pub lines : s.lines + one s.stage ≤ min 1024 (length m.lines.now)
  pub text : s.marks.text ≤ min 65535 (length m.text.now)

-- the room that the host's memory gives
abbrev pub room_in : {E : Type 0} → Memory E → Room
room_in m = record { items = min 16384 (length m.items.now); entries = min 8192 (length m.entries.now); lines = min 1024 (length m.lines.now); text = min 65535 (length m.text.now) }

-- the items of u and of v
abbrev pub u_pieces : {E : Type 0} → Preamble E → Column → List ItemRecord
u_pieces q c = u_in q.pieces.now c

abbrev pub v_pieces : {E : Type 0} → Preamble E → Column → List ItemRecord
v_pieces q c = v_in q.pieces.now c

abbrev pub template_of : {E : Type 0} → Preamble E → Column → Template
template_of q c = template_in q.text.now q.pieces.now c

abbrev pub templates_of : {E : Type 0} → Preamble E → List Template
templates_of q = map (template_of q) (columns_in q.columns.now)

-- the ledger that a table stands for
abbrev pub hand_by : Stage → ℕ → ℕ → Held → Option OpenRow
hand_by Closed c f h = None
hand_by Fresh c f h = Some (record { column = c; begun = false; omitted = false; first = f; done = h.done; items = h.items })
hand_by Begun c f h = Some (record { column = c; begun = true; omitted = false; first = f; done = h.done; items = h.items })
hand_by Omitted c f h = Some (record { column = c; begun = true; omitted = true; first = f; done = h.done; items = h.items })

abbrev pub ledger_by : Stage → ℕ → ℕ → Held → Ledger
ledger_by s c f h = record { lines = h.lines; hand = hand_by s c f h }

abbrev pub ledger_of : {E : Type 0} → Preamble E → State E → Memory E → Ledger
ledger_of q s m = ledger_by s.stage s.row.column s.row.first (held_of q.text.now s m)

-- nothing is laid and no row is open
abbrev pub none : Marks
none = record { items = 0; entries = 0; text = 0 }

abbrev pub unused : {E : Type 0} → E → State E
unused z = record { lines = 0; laid = none; marks = none; stage = Closed; row = record { column = 0; first = 0; begin = 0; width = z } }

abbrev pub new_ledger : Ledger
new_ledger = record { lines = []; hand = None }

-- what the acts make of the state
abbrev pub moved : {E : Type 0} → State E → ℕ → ℕ → State E
moved s i b = record { lines = s.lines; laid = s.laid; marks = record { items = s.marks.items + i; entries = s.marks.entries; text = s.marks.text + b }; stage = s.stage; row = s.row }

abbrev pub moved_on : {E : Type 0} → State E → ℕ → State E
moved_on s i = record { lines = s.lines; laid = s.laid; marks = record { items = s.marks.items + i; entries = s.marks.entries; text = s.marks.text }; stage = s.stage; row = s.row }

abbrev pub ended : {E : Type 0} → State E → State E
ended s = record {
  lines = s.lines;
  laid = s.laid;
  marks = record { items = s.marks.items; entries = s.marks.entries + 1; text = s.marks.text };
  stage = s.stage;
  row = record { column = s.row.column; first = s.row.first; begin = s.marks.items; width = s.row.width };
}

abbrev pub based : {E : Type 0} → State E → State E
based s = record { lines = s.lines + 1; laid = s.marks; marks = s.marks; stage = s.stage; row = s.row }

abbrev pub lined : {E : Type 0} → State E → State E
lined s = record { lines = s.lines + 1; laid = s.laid; marks = s.marks; stage = s.stage; row = s.row }

abbrev pub back : {E : Type 0} → State E → State E
back s = record {
  lines = s.lines;
  laid = s.laid;
  marks = s.laid;
  stage = s.stage;
  row = record { column = s.row.column; first = s.row.first; begin = s.laid.items; width = s.row.width };
}

pub record Lens : Type 0 where
  pub items : ℕ
  pub entries : ℕ
  pub lines : ℕ
  pub text : ℕ

abbrev pub lens_of : {E : Type 0} → Memory E → Lens
lens_of m = record { items = length m.items.now; entries = length m.entries.now; lines = length m.lines.now; text = length m.text.now }

-- what a step makes of a draft: f of what is held, es in the memory of the entries; the marks fit, and no slice has another length
pub record Acts {E : Type 0} (f : List ℕ → Held → Held) (es : List (EntryRecord E)) (d d' : Draft E) : Type 0 where
  pub held : (p : List ℕ) → held_of p d'.state d'.memory ≡ f p (held_of p d.state d.memory)
  pub fit : Fit d'.state d'.memory
  pub entries : d'.memory.entries.now ≡ es
  pub lens : lens_of d'.memory ≡ lens_of d.memory

-- stages
abbrev pub open_in : Stage → Bool
open_in Closed = false
open_in Fresh = true
open_in Begun = true
open_in Omitted = true

abbrev pub fresh_in : Stage → Bool
fresh_in Closed = false
fresh_in Fresh = true
fresh_in Begun = false
fresh_in Omitted = false

abbrev pub begun_in : Stage → Bool
begun_in Closed = false
begun_in Fresh = false
begun_in Begun = true
begun_in Omitted = true

-- a cell is the one in hand
abbrev pub holding : Stage → ℕ → Cell → Bool
holding st c (cell.Fresh d) = if fresh_in st then (c == d) else false
holding st c (cell.Begun d) = if begun_in st then (c == d) else false

abbrev pub v_of : {E : Type 0} → Preamble E → Stage → ℕ → List ItemRecord
v_of q Closed c = []
v_of q Fresh c = []
v_of q Begun c = v_pieces q (column_at (columns_in q.columns.now) c)
v_of q Omitted c = []

abbrev pub omitted_in : Stage → Bool
omitted_in Closed = false
omitted_in Fresh = false
omitted_in Begun = false
omitted_in Omitted = true

-- the numbers of a state that an entry's end leaves
pub record Finished {E : Type 0} (q : Preamble E) (s s' : State E) : Type 0 where
  pub items : s'.marks.items ≡ s.marks.items + length (v_of q s.stage s.row.column)
  pub entries : s'.marks.entries ≡ s.marks.entries + 1
  pub text : s'.marks.text ≡ s.marks.text
  pub lines : s'.lines ≡ s.lines
  pub laid : s'.laid ≡ s.laid
  pub stage : s'.stage ≡ s.stage
  pub column : s'.row.column ≡ s.row.column
  pub first : s'.row.first ≡ s.row.first
  pub begin : s'.row.begin ≡ s'.marks.items

-- a begun cell may go on to the next column, with x entries more than now
pub record Goes {E : Type 0} (x : ℕ) (s : State E) (m : Memory E) (q : Preamble E) (c : ℕ) : Type 0 where
  pub begun : begun_in s.stage ≡ true
  pub same : s.row.column ≡ c
  pub next : s.row.column + 1 < length (columns_in q.columns.now)
  pub items : s.marks.items + owed s.stage (column_at (columns_in q.columns.now) s.row.column) + ((column_at (columns_in q.columns.now) (s.row.column + 1)).u + (column_at (columns_in q.columns.now) (s.row.column + 1)).v) ≤ min 16384 (length m.items.now)
  pub entries : s.marks.entries + 1 + x ≤ min 8192 (length m.entries.now)
