-- A table set: its columns on one side, and what set answers. Assumes nothing.
use Rattle.std.specs.Prelude.{ℕ, ◌-◌, cond, List, map, ℤ, Err, Option, Result}
use Rattle.std.specs.List.{range_with_len}
use Rattle.faults.specs.declared.Fault.{Fault}
use Rattle.faults.specs.declared.Cause.TheVariants as cause
use Rattle.faults.specs.Faults.{fault_at}
use Rattle.measure.specs.declared.measurer.Measurer.{Ghosts as Meaning}
use Rattle.extent.specs.declared.Extent.{Ghosts as Sides}
use Rattle.lengths.specs.Gaps.{Parts}
use Rattle.widths.specs.Merging.{width}
use Rattle.widths.specs.Entries.{widest}
use Rattle.spans.specs.Tables.{after}
use Rattle.sharing.specs.declared.Aim.{Aim}
use Rattle.sharing.specs.declared.SideGap.{SideGap}
use Rattle.sharing.specs.Columns.{width_set}
use Rattle.sharing.specs.Views.{widths_on, gaps_on}
use Rattle.packer.specs.Looks.{Look, look_of}
use Rattle.packer.specs.Boxes.{Columns}
use Rattle.packer.specs.Settings.{Setting, columns_set, set_by, has_side}
use Rattle.table.specs.declared.table.Table.{Table}
use Rattle.table.specs.Views.{columns_in, gaps_in, lengths_in, ledger_in, laid_in}

-- the widths of the columns on side k, as ask answers them
abbrev pub widths_of : {X E : Type 0} {m : Meaning X E} {s : Sides E} → Table X E m s → ℕ → List (Option ℤ)
widths_of {s = s} t k = map (width (widest (laid_in t k)) (after s.entered k (lengths_in t))) (range_with_len 0 (columns_in t))

-- a gap on side k: its length as it enters there, its stretch as it is
abbrev pub gap_on : (ℕ → ℤ → ℤ) → ℕ → Parts → SideGap
gap_on entered k p = record { natural = entered k p.natural; stretch = p.stretch; order = p.order }

abbrev pub side_gaps : {X E : Type 0} {m : Meaning X E} {s : Sides E} → Table X E m s → ℕ → List SideGap
side_gaps {s = s} t k = map (gap_on s.entered k) (gaps_in t)

abbrev pub look_on : {X E : Type 0} {m : Meaning X E} {s : Sides E} → Table X E m s → ℕ → Look
look_on {m = m} {s = s} t k = look_of m s t.measurer.now k

-- the columns as they are set on side k, and the lines between them
abbrev pub columns_at : {X E : Type 0} {m : Meaning X E} {s : Sides E} → Table X E m s → ℕ → Aim → Columns
columns_at t k a = columns_set (widths_on (widths_of t k)) (gaps_on (side_gaps t k)) (columns_in t) a

abbrev pub width_at : {X E : Type 0} {m : Meaning X E} {s : Sides E} → Table X E m s → ℕ → Aim → Option ℤ
width_at t k a = width_set (widths_on (widths_of t k)) (gaps_on (side_gaps t k)) (columns_in t) a

abbrev pub set_at : {X E : Type 0} {m : Meaning X E} {s : Sides E} → Table X E m s → ℕ → Aim → Result Setting Fault
set_at t k a = set_by (look_on t k) (columns_at t k a) (ledger_in t).lines (width_at t k a)

-- the table set on a side, counted from 1: 24, then 23
abbrev pub setting_in : {X E : Type 0} {m : Meaning X E} {s : Sides E} → Table X E m s → ℕ → Aim → Result Setting Fault
setting_in {s = s} t side a = cond (has_side s.count side) (set_at t (side - 1) a) (Err (fault_at cause.NoSuchSide 0))
