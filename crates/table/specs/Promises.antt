-- What the calls of a table answer, by its preamble, its room and its ledger.
use Rattle.std.specs.Prelude.{◌≡◌, ℕ, ◌-◌, ◌<◌, Bool, cond, ◌&&◌, List, ℤ, Some, None, Ok, Err, Option, Result, nat_le}
use Rattle.faults.specs.declared.Fault.{Fault}
use Rattle.faults.specs.declared.Cause.TheVariants as cause
use Rattle.faults.specs.Faults.{fault_at}
use Rattle.widths.specs.declared.Entry.{Entry as Sized}
use Rattle.widths.specs.Merging.{width, seen}
use Rattle.widths.specs.Entries.{widest}
use Rattle.extent.specs.Sizes.{Within}
use Rattle.ledger.specs.Ledger.{Item}
use Rattle.table.specs.declared.cells.Fresh.{Fresh}
use Rattle.table.specs.declared.cells.Begun.{Begun}
use Rattle.table.specs.declared.cells.Refusal.{Refusal}
use Rattle.table.specs.declared.cells.InHand.{InHand}
use Rattle.table.specs.declared.cells.InHand.TheVariants as held
use Rattle.rows.specs.declared.state.Cell.{Cell}
use Rattle.rows.specs.declared.state.Cell.TheVariants as cell

-- an extent is an item's width on each side
abbrev pub Fitting : {E : Type 0} → ℕ → (E → ℕ → ℤ) → (Item → ℕ → ℤ) → E → Item → Type 0
Fitting count num wide e a = (k : ℕ) → k < count → (num e k ≡ wide a k) × Within 1073741823 (num e k)

-- a call that takes a cell: refused, it hands the cell back
abbrev pub handing : {C Y : Type 0} → C → Option Fault → Y → Result Y (Refusal C)
handing c None y = Ok y
handing c (Some f) y = Err (record { cell = c; fault = f })

abbrev pub fresh_cell : ℕ → Fresh
fresh_cell c = record { column = c }

abbrev pub begun_cell : ℕ → Begun
begun_cell c = record { column = c }

-- a cell of either kind, as its row knows it
abbrev pub place_of : InHand → Cell
place_of (held.Fresh f) = cell.Fresh f.column
place_of (held.Begun b) = cell.Begun b.column

-- ask: 24, or what is merged; columns are counted from 1
abbrev pub has_column : ℕ → ℕ → Bool
has_column n c = nat_le 1 c && nat_le c n

abbrev pub no_column : Fault
no_column = fault_at cause.NoSuchColumn 0

abbrev pub ask_on : List (Sized ℤ) → (ℕ → ℤ) → ℕ → ℕ → Result (Option ℤ) Fault
ask_on es g n c = cond (has_column n c) (Ok (width (widest es) g (c - 1))) (Err no_column)

-- side k of an answer
abbrev pub answer_on : {E : Type 0} → (E → ℕ → ℤ) → ℕ → Result (Option E) Fault → Result (Option ℤ) Fault
answer_on num k (Ok o) = Ok (seen num k o)
answer_on num k (Err f) = Err f
