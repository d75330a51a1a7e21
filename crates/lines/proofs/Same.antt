-- What has no word does not look at the meaning of words. Assumes nothing.
use Rattle.std.proofs.Common.{◌≡◌, ℕ, List, ℤ, Ok, Err, Result, refl, ap}
use Rattle.faults.specs.declared.Fault.{Fault}
use Rattle.reader.specs.declared.tokens.Control.{Control}
use Rattle.reader.specs.declared.tokens.Control.TheVariants as control
use Rattle.lengths.specs.declared.length.Length.{Length}
use Rattle.lengths.specs.Lengths.{length_at}
use Rattle.ledger.specs.declared.records.Room.{Room}
use Rattle.ledger.specs.Ledger.{Item, Ledger}
use Rattle.ledger.specs.Calls.{Template}
use Rattle.lines.specs.Lines.{Act, adds, kerns, tabs_on, spans_on, lays_row, control_act, act_step, kern_step, start_step, unless_at, column_of, started}
use Rattle.ledger.specs.Naturals.{start_verdict}
use Rattle.lines.specs.Steps.{unmeant}

module _ {X : Type 0} (text : List ℕ) (meaning : List ℕ → Result X ℕ) (P : List Template) where
  pub control-same : (place c : ℕ) (w : Control) → control_act text unmeant P place c w ≡ control_act text meaning P place c w
  control-same place c control.Kern = refl
  control-same place c control.Hfil = refl
  control-same place c control.Tabskip = refl
  control-same place c control.Cr = refl
  control-same place c control.Omit = refl
  control-same place c control.Span = refl
  control-same place c control.Noalign = refl
  control-same place c control.Hrule = refl
  control-same place c control.Vskip = refl

  module _ (count : ℕ) (wide : Item → ℕ → ℤ) (m : Room) where
    kern-same : (g : Ledger) (at : ℕ) (l : Result Length Fault) → kern_step text unmeant P count wide m g at l ≡ kern_step text meaning P count wide m g at l
    kern-same g at (Ok l) = refl
    kern-same g at (Err f) = refl

    pub act-same : (g : Ledger) (place end : ℕ) (a : Act) → act_step text unmeant P count wide m g place end a ≡ act_step text meaning P count wide m g place end a
    act-same g place end (adds i) = refl
    act-same g place end kerns = kern-same g end (length_at text end)
    act-same g place end tabs_on = refl
    act-same g place end spans_on = refl
    act-same g place end lays_row = refl

    pub start-same : (g : Ledger) (place end : ℕ) (a : Act) → start_step text unmeant P count wide m g place end (Ok a) ≡ start_step text meaning P count wide m g place end (Ok a)
    start-same g place end a = ap (unless_at place (start_verdict count wide P g (column_of g.hand))) (act-same (started P g) place end a)
