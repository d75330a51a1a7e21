-- What the code's values say, in the words of the definition of a line. Assumes nothing.
use Rattle.std.specs.Prelude.{◌≡◌, ℕ, ◌<◌, ◌≤◌, true, List, length, ℤ, Ok, Err, Result}
use Rattle.std.specs.declared.ops.ControlFlow.{ControlFlow}
use Rattle.std.specs.declared.ops.ControlFlow.TheVariants.{Continue, Break}
use Rattle.faults.specs.declared.Fault.{Fault}
use Rattle.extent.specs.Sizes.{Within}
use Rattle.ledger.specs.Ledger.{Item, Ledger}
use Rattle.ledger.specs.Items.{meant}
use Rattle.rows.specs.declared.rows.Rows.{Rows}
use Rattle.rows.specs.Good.{open_in}
use Rattle.rows.specs.Views.{ledger_at, SoundAt, Stays}
use Rattle.lines.specs.declared.acts.Action.{Action}
use Rattle.lines.specs.declared.acts.Action.TheVariants as action
use Rattle.lines.specs.declared.acts.Opening.{Opening}
use Rattle.lines.specs.declared.acts.Opening.TheVariants as opening
use Rattle.lines.specs.Lines.{Act, adds, kerns, tabs_on, spans_on, lays_row, Lead, drops, bares, begins, Outcome, goes_on, lies, refuses, LineRead, moved_to}

-- a meaning that knows no word, for tokens that have none
abbrev pub unmeant : List ℕ → Result ℕ ℕ
unmeant w = Err 0

-- what a token is to a cell, with the preamble text p
abbrev pub act_in : {E : Type 0} → List ℕ → Action E → Act
act_in p (action.Add put) = adds (meant p put.item put.word.now)
act_in p action.Kern = kerns
act_in p action.Tab = tabs_on
act_in p action.Span = spans_on
act_in p action.Lay = lays_row

abbrev pub acts_in : {E : Type 0} → List ℕ → Result (Action E) Fault → Result Act Fault
acts_in p (Ok a) = Ok (act_in p a)
acts_in p (Err f) = Err f

-- .. and the width of what it adds is that item's
abbrev pub Measured : {E : Type 0} → ℕ → (E → ℕ → ℤ) → (Item → ℕ → ℤ) → Action E → Type 0
Measured count num wide (action.Add put) = (p : List ℕ) (k : ℕ) → k < count → (num put.width k ≡ wide (meant p put.item put.word.now) k) × Within 1073741823 (num put.width k)
Measured count num wide action.Kern = Unit {0}
Measured count num wide action.Tab = Unit {0}
Measured count num wide action.Span = Unit {0}
Measured count num wide action.Lay = Unit {0}

-- what a token is at the start of a cell
abbrev pub lead_in : Opening → Lead
lead_in opening.Space = drops
lead_in opening.Omit = bares
lead_in opening.Other = begins

-- a row call's answer, with its fault at a place of the text
abbrev pub placed_at : ℕ → Result (Unit {0}) Fault → Result (Unit {0}) Fault
placed_at p (Ok x) = Ok tt
placed_at p (Err f) = Err (moved_to p f)

-- .. and what comes next where it is accepted
abbrev pub stepped_by : ℕ → ControlFlow ℕ ℕ → Result (Unit {0}) Fault → Result (ControlFlow ℕ ℕ) Fault
stepped_by p next (Ok x) = Ok next
stepped_by p next (Err f) = Err (moved_to p f)

-- on to a place with this ledger, or a line that ends there
abbrev pub outcome_by : ControlFlow ℕ ℕ → Ledger → Outcome
outcome_by (Continue p) g = goes_on p g
outcome_by (Break p) g = lies p g

-- what a token made of rows
abbrev pub next_in : {E : Type 0} → Rows E → Result (ControlFlow ℕ ℕ) Fault → Outcome
next_in r (Ok s) = outcome_by s (ledger_at r)
next_in r (Err f) = refuses f

-- no line is added before the row is laid, and a row stays in hand
abbrev pub Hand : {E : Type 0} → Rows E → Rows E → Result (ControlFlow ℕ ℕ) Fault → Type 0
Hand r r' (Ok (Continue p)) = ((ledger_at r').lines ≡ (ledger_at r).lines) × (open_in r'.draft.state.stage ≡ true)
Hand r r' (Ok (Break p)) = Unit {0}
Hand r r' (Err f) = (ledger_at r').lines ≡ (ledger_at r).lines

-- each token takes a byte
abbrev pub Further : List ℕ → ℕ → Result (ControlFlow ℕ ℕ) Fault → Type 0
Further text place (Ok (Continue p)) = (place < p) × (p ≤ length text)
Further text place (Ok (Break p)) = Unit {0}
Further text place (Err f) = Unit {0}

-- a token's outcome, with the row still in hand or laid
pub record Turns {E : Type 0} (count : ℕ) (num : E → ℕ → ℤ) (wide : Item → ℕ → ℤ) (text : List ℕ) (place : ℕ) (r : Rows E) (o : Outcome) (r' : Rows E) (s : Result (ControlFlow ℕ ℕ) Fault) : Type 0 where
  pub is : SoundAt count num wide r → next_in r' s ≡ o
  pub sound : SoundAt count num wide r → SoundAt count num wide r'
  pub stays : Stays r r'
  pub hand : Hand r r' s
  pub further : Further text place s

-- what was read, with the ledger that holds it
abbrev pub line_in : {E : Type 0} → Rows E → Result ℕ Fault → Result LineRead Fault
line_in r (Ok b) = Ok (record { bytes = b; ledger = ledger_at r })
line_in r (Err f) = Err f

-- a refusal adds no line
abbrev pub Lines : {E : Type 0} → Rows E → Rows E → Result ℕ Fault → Type 0
Lines r r' (Ok b) = Unit {0}
Lines r r' (Err f) = (ledger_at r').lines ≡ (ledger_at r).lines

-- a whole line
pub record Reads {E : Type 0} (count : ℕ) (num : E → ℕ → ℤ) (wide : Item → ℕ → ℤ) (r : Rows E) (l : Result LineRead Fault) (r' : Rows E) (s : Result ℕ Fault) : Type 0 where
  pub is : SoundAt count num wide r → line_in r' s ≡ l
  pub sound : SoundAt count num wide r → SoundAt count num wide r'
  pub stays : Stays r r'
  pub lines : Lines r r' s
