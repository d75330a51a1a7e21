-- What a word with a byte that has no character measures.
use Rattle.std.proofs.Common.{◌≡◌, ℕ, List, None, Err, Result, sym, ap, ◌∙◌}
use Rattle.faults.specs.declared.Cause.TheVariants as cause
use Rattle.faults.specs.declared.Fault.{Fault}
use Rattle.faults.specs.Faults.{fault_at}
use Rattle.measure.specs.Words.{unfit}
use Rattle.measure.specs.Asked.{characterless, measured_by}
use Rattle.measure.proofs.Worded.{word_fits, measured-word}

module _ {X : Type 0} (meaning : List ℕ → Result X ℕ) (w : List ℕ) where
  pub measured-missing : (f : Fault) (p : ℕ) → None ≡ unfit w → Err p ≡ meaning w → f ≡ fault_at cause.NoCharacter p → Err f ≡ measured_by meaning w
  measured-missing f p e d q = measured-word meaning w (word_fits w (sym e)) (Err f) (ap Err q ∙ ap characterless d)
