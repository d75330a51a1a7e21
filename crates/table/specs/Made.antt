-- A table as make answers it.
use Rattle.std.specs.Prelude.{◌≡◌, ℕ, List, Option, Result}
use Rattle.std.specs.Borrow.{Bor}
use Rattle.faults.specs.declared.Fault.{Fault}
use Rattle.lengths.specs.Gaps.{Parts}
use Rattle.measure.specs.declared.measurer.Measurer.{Ghosts as Meaning}
use Rattle.extent.specs.declared.Extent.{Ghosts as Sides}
use Rattle.ledger.specs.declared.records.Room.{Room}
use Rattle.ledger.specs.Preambles.{Preamble}
use Rattle.rows.specs.Good.{new_ledger}
use Rattle.table.specs.declared.table.Table.{Table}
use Rattle.table.specs.Making.{bytes_read, templates_made, gaps_made, text_made, room_made}
use Rattle.table.specs.Views.{templates_in, gaps_in, room_of, ledger_in}

-- a table of the preamble that was read, or of what stands for it: its ledger is empty, its room is the memory's
pub record MadeFrom {X E : Type 0} {m : Meaning X E} {s : Sides E} (R : Result Preamble Fault) (b : List ℕ) (g0 : Option Parts) (k : Room) (x : Bor X) (t : Table X E m s) : Type 0 where
  pub answer : t.made ≡ bytes_read R
  pub templates : templates_in t ≡ templates_made R
  pub gaps : gaps_in t ≡ gaps_made g0 R
  pub text : t.rows.preamble.text.now ≡ text_made b R
  pub ledger : ledger_in t ≡ new_ledger
  pub room : room_of t ≡ room_made R k
  pub measurer : t.measurer ≡ x
