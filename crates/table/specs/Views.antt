-- A table as its calls speak of it: preamble, room, ledger, and the widths that it keeps.
use Rattle.std.specs.Prelude.{◌≡◌, ℕ, List, ◌∷◌, map, length, ℤ}
use Rattle.lengths.specs.Gaps.{Parts, parts_of}
use Rattle.measure.specs.declared.measurer.Measurer.{Ghosts as Meaning}
use Rattle.extent.specs.declared.Extent.{Ghosts as Sides}
use Rattle.widths.specs.declared.Entry.{Entry as Sized}
use Rattle.ledger.specs.declared.records.Room.{Room}
use Rattle.ledger.specs.declared.records.ColumnRecord.{ColumnRecord}
use Rattle.ledger.specs.Ledger.{Item, Ledger}
use Rattle.ledger.specs.Calls.{Template, laid_entries}
use Rattle.ledger.specs.Naturals.{wide_of, natural_by}
use Rattle.ledger.specs.Lawful.{FineTemplates, Lawful}
use Rattle.rows.specs.declared.preamble.Preamble.{Preamble}
use Rattle.rows.specs.Columns.{columns_in as templates_on}
use Rattle.rows.specs.Views.{templates_at, room_at, ledger_at}
use Rattle.rows.specs.Sound.{Sound}
use Rattle.table.specs.declared.table.Table.{Table}

-- the three things that a table is
abbrev pub templates_in : {X E : Type 0} {m : Meaning X E} {s : Sides E} → Table X E m s → List Template
templates_in t = templates_at t.rows

abbrev pub gap_after : {E : Type 0} → ColumnRecord E → Parts
gap_after c = parts_of c.gap

abbrev pub gaps_of : {E : Type 0} → Preamble E → List Parts
gaps_of q = parts_of q.start ∷ map gap_after q.columns.now

abbrev pub gaps_in : {X E : Type 0} {m : Meaning X E} {s : Sides E} → Table X E m s → List Parts
gaps_in t = gaps_of t.rows.preamble

abbrev pub room_of : {X E : Type 0} {m : Meaning X E} {s : Sides E} → Table X E m s → Room
room_of t = room_at t.rows

abbrev pub ledger_in : {X E : Type 0} {m : Meaning X E} {s : Sides E} → Table X E m s → Ledger
ledger_in t = ledger_at t.rows

-- the number of columns
abbrev pub columns_in : {X E : Type 0} {m : Meaning X E} {s : Sides E} → Table X E m s → ℕ
columns_in t = length (templates_on t.rows.preamble.columns.now)

-- natural lengths: of the starting gap and of the gap after each column
abbrev pub natural_in : Parts → ℤ
natural_in g = g.natural

abbrev pub lengths_of : {E : Type 0} → Preamble E → List ℤ
lengths_of q = map natural_in (gaps_of q)

abbrev pub lengths_in : {X E : Type 0} {m : Meaning X E} {s : Sides E} → Table X E m s → List ℤ
lengths_in t = lengths_of t.rows.preamble

-- what no call changes
pub record Kept {X E : Type 0} {m : Meaning X E} {s : Sides E} (t t' : Table X E m s) : Type 0 where
  pub preamble : t'.rows.preamble ≡ t.rows.preamble
  pub room : room_at t'.rows ≡ room_at t.rows
  pub measurer : t'.measurer ≡ t.measurer
  pub made : t'.made ≡ t.made

-- an item's width on a side, by the meaning of the table's measurer
abbrev pub wide_in : {X E : Type 0} {m : Meaning X E} {s : Sides E} → Table X E m s → Item → ℕ → ℤ
wide_in {m = m} {s = s} t = wide_of m s t.measurer.now

-- the widths that a table keeps are natural widths by that meaning: so it is of every table
abbrev pub ByMeaning : {X E : Type 0} {m : Meaning X E} {s : Sides E} → Table X E m s → Type 0
ByMeaning {s = s} t = Sound s.count s.num (wide_in t) t.rows.preamble t.rows.draft.state t.rows.draft.memory

pub by_meaning : {X E : Type 0} {m : Meaning X E} {s : Sides E} (t : Table X E m s) → ByMeaning t
by_meaning t = t.meant

-- its templates are fine, and what holds of every ledger holds of its ledger: so it is of every table
abbrev pub IsFitting : {X E : Type 0} {m : Meaning X E} {s : Sides E} → Table X E m s → Type 0
IsFitting {m = m} t = FineTemplates (m.meaning t.measurer.now) (templates_in t)

pub fitting_of : {X E : Type 0} {m : Meaning X E} {s : Sides E} (t : Table X E m s) → IsFitting t
fitting_of t = t.fitting

abbrev pub IsLawful : {X E : Type 0} {m : Meaning X E} {s : Sides E} → Table X E m s → Type 0
IsLawful {m = m} {s = s} t = Lawful (m.meaning t.measurer.now) s.count (wide_in t) (templates_in t) (ledger_in t)

pub lawful_of : {X E : Type 0} {m : Meaning X E} {s : Sides E} (t : Table X E m s) → IsLawful t
lawful_of t = t.lawful

-- the laid entries with their natural widths on side k
abbrev pub laid_in : {X E : Type 0} {m : Meaning X E} {s : Sides E} → Table X E m s → ℕ → List (Sized ℤ)
laid_in t k = map (natural_by (wide_in t) k) (laid_entries (ledger_in t))
