-- The extents that a table keeps are those of its ledger's items.
use Rattle.std.specs.Prelude.{◌≡◌, ℕ, ◌<◌, ◌≤◌, true, map, length, get_or, take, ℤ, ◌+ℤ◌, slice_index_or}
use Rattle.extent.specs.Sizes.{Within}
use Rattle.widths.specs.declared.Entry.{Entry as Sized}
use Rattle.ledger.specs.declared.records.Owed.{Owed}
use Rattle.ledger.specs.Ledger.{Item}
use Rattle.ledger.specs.Calls.{template_at, laid_entries, done_of}
use Rattle.ledger.specs.Naturals.{natural, natural_by, owed_of, items_now}
use Rattle.rows.specs.Columns.{columns_in, widths_in}
use Rattle.rows.specs.declared.state.EntryRecord.{EntryRecord}
use Rattle.rows.specs.declared.state.Memory.{Memory}
use Rattle.rows.specs.declared.state.State.{State}
use Rattle.rows.specs.declared.preamble.Preamble.{Preamble}
use Rattle.rows.specs.Held.{part}
use Rattle.rows.specs.Good.{templates_of, ledger_of, open_in}

-- the entry that a record stands for
abbrev pub span_of : {E : Type 0} → EntryRecord E → Sized E
span_of e = e.entry

-- the width of an entry as it is stored, on a side
abbrev pub stored_by : {E : Type 0} → (E → ℕ → ℤ) → ℕ → EntryRecord E → Sized ℤ
stored_by num k e = record { first = e.entry.first; last = e.entry.last; width = num e.entry.width k }

-- an entry lies in n columns
abbrev pub Lies : {E : Type 0} → ℕ → EntryRecord E → Type 0
Lies n e = (e.entry.first ≤ e.entry.last) × (e.entry.last < n)

-- the widths that a table keeps are those of its ledger's items
pub record Sound {E : Type 0} (count : ℕ) (num : E → ℕ → ℤ) (wide : Item → ℕ → ℤ) (q : Preamble E) (s : State E) (m : Memory E) : Type 0 where
  pub row : open_in s.stage ≡ true → (k : ℕ) → k < count → num s.row.width k ≡ natural wide (items_now (ledger_of q s m).hand) k
  pub near : open_in s.stage ≡ true → (k : ℕ) → k < count → Within 1073741823 (natural wide (items_now (ledger_of q s m).hand) k +ℤ natural wide (owed_of (templates_of q) (ledger_of q s m).hand) k)
  pub us : (c k : ℕ) (d : Owed E) → k < count → c < length (columns_in q.columns.now) → num (get_or (widths_in q.columns.now) c d).u k ≡ natural wide (template_at (templates_of q) c).u k
  pub vs : (c k : ℕ) (d : Owed E) → k < count → c < length (columns_in q.columns.now) → num (get_or (widths_in q.columns.now) c d).v k ≡ natural wide (template_at (templates_of q) c).v k
  pub small_u : (c k : ℕ) → k < count → Within 68719476736 (natural wide (template_at (templates_of q) c).u k)
  pub small_v : (c k : ℕ) → k < count → Within 68719476736 (natural wide (template_at (templates_of q) c).v k)
  pub laid : (k : ℕ) → k < count → map (stored_by num k) (take s.laid.entries m.entries.now) ≡ map (natural_by wide k) (laid_entries (ledger_of q s m))
  pub done : open_in s.stage ≡ true → (k : ℕ) → k < count → map (stored_by num k) (part s.laid.entries s.marks.entries m.entries.now) ≡ map (natural_by wide k) (done_of (ledger_of q s m).hand)
  pub sized : (k t : ℕ) (d : EntryRecord E) → k < count → t < s.laid.entries → Within 1073741823 (num (get_or m.entries.now t d).entry.width k)
  pub sized-done : open_in s.stage ≡ true → (k t : ℕ) (d : EntryRecord E) → k < count → t < s.marks.entries → Within 1073741823 (num (get_or m.entries.now t d).entry.width k)
  -- entries lie in the columns, and the one in hand begins before its cell
  pub lies : (t : ℕ) (d : EntryRecord E) → t < s.laid.entries → Lies (length (columns_in q.columns.now)) (slice_index_or m.entries.now t d)
  pub lies-done : open_in s.stage ≡ true → (t : ℕ) (d : EntryRecord E) → t < s.marks.entries → Lies (length (columns_in q.columns.now)) (slice_index_or m.entries.now t d)
  pub begins : open_in s.stage ≡ true → s.row.first ≤ s.row.column
