-- Calls that take a cell: accepted they answer the next one, refused they hand it back. Assumes nothing.
use Rattle.std.proofs.Common.{◌≡◌, Some, None, Ok, Err, Option, Result, ap, ◌∙◌}
use Rattle.faults.specs.declared.Fault.{Fault}
use Rattle.rows.specs.Answers.{unless}
use Rattle.table.specs.declared.cells.Refusal.{Refusal}
use Rattle.table.specs.Promises.{handing}

pub handed-answer : {C Y : Type 0} (cell : C) (o : Result (Unit {0}) Fault) (v : Option Fault) (y : Y) (r : Result Y (Refusal C)) (Gives : Y → Type 0)
    → o ≡ unless v tt → (o ≡ Ok tt → (d : Y) × (Gives d × (r ≡ Ok d))) → ((f : Fault) → o ≡ Err f → r ≡ Err (record { cell = cell; fault = f })) → ((d : Y) → Gives d → d ≡ y) → r ≡ handing cell v y
handed-answer cell o None y r Gives e accepted refused only = let a = accepted e in a.1.1 ∙ ap (λ d. handing cell None d) (only a.0 a.1.0)
handed-answer cell o (Some f) y r Gives e accepted refused only = refused f e
