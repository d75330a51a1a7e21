-- A table set: what is answered, and what becomes of the records. Assumes nothing.
use Rattle.std.specs.Prelude.{ℕ, Bool, cond, ◌&&◌, List, length, ℤ, pos, Some, None, Ok, Err, Option, Result, nat_le}
use Rattle.faults.specs.declared.Fault.{Fault}
use Rattle.faults.specs.declared.Cause.TheVariants as cause
use Rattle.faults.specs.Faults.{fault_at}
use Rattle.boxlist.specs.declared.BoxRecord.{BoxRecord}
use Rattle.boxlist.specs.Over.{over}
use Rattle.lengths.specs.Gaps.{Parts}
use Rattle.sharing.specs.declared.Aim.{Aim}
use Rattle.sharing.specs.Columns.{first_set, gaps_set}
use Rattle.ledger.specs.Ledger.{Line}
use Rattle.packer.specs.declared.Laid.{Laid}
use Rattle.packer.specs.Looks.{Look}
use Rattle.packer.specs.Boxes.{Columns}
use Rattle.packer.specs.Lines.{table_boxes, total_height}

-- what is drawn: the width, the total height, and the boxes
pub record Setting : Type 0 where
  pub width : ℤ
  pub height : ℤ
  pub boxes : List BoxRecord

-- n columns of these widths, between the gaps as they are set
abbrev pub columns_set : (ℕ → Option ℤ) → (ℕ → Parts) → ℕ → Aim → Columns
columns_set w g n a = record { widths = w; first = first_set w g n a; gaps = gaps_set w g n a }

-- lines as they are set to a width that can be had
abbrev pub lines_set : Look → Columns → List Line → ℤ → Setting
lines_set l c ss t = record { width = t; height = total_height l ss; boxes = table_boxes l c t (pos 0) 0 ss }

abbrev pub set_by : Look → Columns → List Line → Option ℤ → Result Setting Fault
set_by l c ss (Some t) = Ok (lines_set l c ss t)
set_by l c ss None = Err (fault_at cause.CannotSet 0)

-- sides are counted from 1
abbrev pub has_side : ℕ → ℕ → Bool
has_side n k = nat_le 1 k && nat_le k n

abbrev pub laid_of : Setting → Laid
laid_of s = record { width = s.width; height = s.height; boxes = length s.boxes }

-- the answer where there are so many records: 26 comes last
abbrev pub set_answer : ℕ → Result Setting Fault → Result Laid Fault
set_answer room (Ok s) = cond (nat_le (length s.boxes) room) (Ok (laid_of s)) (Err (fault_at cause.TooLittleRoom 0))
set_answer room (Err f) = Err f

-- the records afterwards
abbrev pub set_records : Result Setting Fault → List BoxRecord → List BoxRecord
set_records (Ok s) old = cond (nat_le (length s.boxes) (length old)) (over old 0 s.boxes) old
set_records (Err f) old = old
