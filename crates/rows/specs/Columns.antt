-- Columns as they are read.
use Rattle.std.specs.Prelude.{ℕ, List, map, slice_index_or}
use Rattle.ledger.specs.declared.records.Column.{Column}
use Rattle.ledger.specs.declared.records.ColumnRecord.{ColumnRecord}
use Rattle.ledger.specs.declared.records.Owed.{Owed}

-- the templates of the columns, and the natural widths of their parts
abbrev pub columns_in : {E : Type 0} → List (ColumnRecord E) → List Column
columns_in cs = map (λ r. r.template) cs

abbrev pub widths_in : {E : Type 0} → List (ColumnRecord E) → List (Owed E)
widths_in cs = map (λ r. r.widths) cs

-- the column at a place
abbrev pub column_at : List Column → ℕ → Column
column_at cs c = slice_index_or cs c (record { from = 0; u = 0; v = 0 })
