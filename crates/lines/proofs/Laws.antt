-- A line is what its tokens and calls say. Assumes nothing.
use Rattle.std.proofs.Common.{ℕ, List, ℤ, Some, None, Ok, Err, Option, Result, refl}
use Rattle.faults.specs.declared.Fault.{Fault}
use Rattle.ledger.specs.declared.records.Room.{Room}
use Rattle.ledger.specs.Ledger.{Item, Ledger}
use Rattle.ledger.specs.Calls.{Template}
use Rattle.lines.specs.Lines.{LineRead, bytes_read, ledger_after, line_of}
use Rattle.lines.specs.Spelled.{LeadsTo}
use Rattle.lines.specs.Ended.{EndsAt}
use Rattle.lines.specs.Refused.{RefusesAt}
use Rattle.lines.specs.Laws.{ReadsLine}
use Rattle.lines.proofs.Spelled.{line-leads}
use Rattle.lines.proofs.Ended.{line-ends}
use Rattle.lines.proofs.Refused.{line-refused}

module _ {X : Type 0} (text : List ℕ) (meaning : List ℕ → Result X ℕ) (P : List Template) (count : ℕ) (wide : Item → ℕ → ℤ) (m : Room) where
  all-laws : (g : Ledger) (o : Result (Option LineRead) Fault) → LeadsTo text meaning P count wide m g o → EndsAt text o → RefusesAt text meaning P count wide m g o → ReadsLine text meaning P count wide m g (ledger_after o g) (bytes_read o)
  all-laws g (Ok (Some r)) l e x = (e, l)
  all-laws g (Ok None) l e x = refl
  all-laws g (Err f) l e x = (refl, x)

  pub reads-line : (g : Ledger) → ReadsLine text meaning P count wide m g (ledger_after (line_of text meaning P count wide m g) g) (bytes_read (line_of text meaning P count wide m g))
  reads-line g = all-laws g (line_of text meaning P count wide m g) (line-leads text meaning P count wide m g) (line-ends text meaning P count wide m g) (line-refused text meaning P count wide m g)
