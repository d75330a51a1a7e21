-- What any bytes measure by a measurer's meaning. Assumes nothing.
use Rattle.std.specs.Prelude.{◌≡◌, ℕ, ◌⊎◌, List, Some, None, Ok, Err, Option, Result}
use Rattle.faults.specs.declared.Cause.TheVariants as cause
use Rattle.faults.specs.declared.Fault.{Fault}
use Rattle.faults.specs.Faults.{fault_at}
use Rattle.measure.specs.Words.{IsWord, Unfit, unfit}

-- a place without a character, as a fault
abbrev pub characterless : {X : Type 0} → Result X ℕ → Result X Fault
characterless (Ok x) = Ok x
characterless (Err p) = Err (fault_at cause.NoCharacter p)

abbrev pub unless_unfit : {X : Type 0} → Option Fault → Result X Fault → Result X Fault
unless_unfit (Some f) r = Err f
unless_unfit None r = r

-- what is no word is refused, and a word is measured
unfoldable pub measured_by : {X : Type 0} → (List ℕ → Result X ℕ) → List ℕ → Result X Fault
measured_by meaning w = unless_unfit (unfit w) (characterless (meaning w))

-- what an answer says: a word has the metrics that are meant; refused is what is no word, or a word's byte that has no
-- character
abbrev pub Measured : {X : Type 0} → (List ℕ → Result X ℕ) → List ℕ → Result X Fault → Type 0
Measured meaning w (Ok x) = IsWord w × (meaning w ≡ Ok x)
Measured meaning w (Err f) = Unfit w f ⊎ ((p : ℕ) × IsWord w × (meaning w ≡ Err p) × (f ≡ fault_at cause.NoCharacter p))
