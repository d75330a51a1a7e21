-- What a line is, in the words of its tokens and calls. Assumes nothing.
use Rattle.std.specs.Prelude.{◌≡◌, ℕ, List, ℤ, Some, None, Ok, Err, Option, Result}
use Rattle.faults.specs.declared.Fault.{Fault}
use Rattle.ledger.specs.declared.records.Room.{Room}
use Rattle.ledger.specs.Ledger.{Item, Ledger}
use Rattle.ledger.specs.Calls.{Template}
use Rattle.lines.specs.Spelled.{Leads, line_calls}
use Rattle.lines.specs.Ended.{EndsLine}
use Rattle.lines.specs.Refused.{Refuses}

module _ {X : Type 0} (text : List ℕ) (meaning : List ℕ → Result X ℕ) (P : List Template) (count : ℕ) (wide : Item → ℕ → ℤ) (m : Room) where
  -- a line that was read ends in the text, behind its last token, and the calls that it spells, none of them refused, lead from
  -- the ledger before to the ledger after; where nothing was read, or the line is refused, the ledger is as it was, and a refusal is
  -- the first fault of the leftmost token that is at fault
  abbrev pub ReadsLine : Ledger → Ledger → Result (Option ℕ) Fault → Type 0
  ReadsLine g g' (Ok (Some n)) = EndsLine text n × Leads text meaning P count wide m (line_calls text meaning P) g g'
  ReadsLine g g' (Ok None) = g' ≡ g
  ReadsLine g g' (Err f) = (g' ≡ g) × Refuses text meaning P count wide m g f
