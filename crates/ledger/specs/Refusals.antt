-- The faults of the row calls, all without a place in a text. Assumes nothing.
use Rattle.faults.specs.declared.Fault.{Fault}
use Rattle.faults.specs.declared.Cause.TheVariants as cause
use Rattle.faults.specs.Faults.{fault_at}

abbrev pub foreign_cell : Fault
foreign_cell = fault_at cause.RowInHand 0

abbrev pub table_full : Fault
table_full = fault_at cause.Full 0

abbrev pub entry_wide : Fault
entry_wide = fault_at cause.EntryTooWide 0

abbrev pub columns_over : Fault
columns_over = fault_at cause.TooManyColumns 0

abbrev pub out_of_range : Fault
out_of_range = fault_at cause.OutOfRange 0
