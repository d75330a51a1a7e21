-- What calls answer, and what a refused one leaves.
use Rattle.std.specs.Prelude.{Some, None, Ok, Err, Option, Result}
use Rattle.faults.specs.declared.Fault.{Fault}
use Rattle.ledger.specs.Ledger.{Ledger}

-- a call that is refused for a fault, or answered with y
abbrev pub unless : {Y : Type 0} → Option Fault → Y → Result Y Fault
unless None y = Ok y
unless (Some f) y = Err f

-- a refused call changes nothing
abbrev pub followed : {X Y : Type 0} → Result X Y → Ledger → Ledger → Ledger
followed (Ok x) g next = next
followed (Err y) g next = g
