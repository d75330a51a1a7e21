-- The fault where a length is missing, case by case. Assumes nothing.
use Rattle.std.proofs.Common.{◌≡◌, ℕ, ◌<◌, ◌≤◌, leb, List, length, Ok, Err, refl, ap, ◌∙◌, arith}
use Rattle.std.proofs.lemmas.Bool.{cond-true, cond-false, le-leb, lt-leb}
use Rattle.faults.specs.declared.Fault.{Fault}
use Rattle.faults.specs.declared.Cause.{Cause}
use Rattle.faults.specs.declared.Cause.TheVariants as cause
use Rattle.faults.specs.Faults.{fault_at, number_of}
use Rattle.reader.specs.declared.tokens.Lexeme.{Lexeme}
use Rattle.reader.specs.Tokens.{token_at}
use Rattle.lengths.specs.Lengths.{in_its_stead, missing_at}

-- every cause but the first two has a larger number
pub number-above : (k : Cause) → (k ≡ cause.BadByte → ⊥) → (k ≡ cause.UnknownControl → ⊥) → 2 < number_of k
number-above cause.BadByte a b = absurd (a refl)
number-above cause.UnknownControl a b = absurd (b refl)
number-above cause.BadLength a b = omega arith
number-above cause.Misplaced a b = omega arith
number-above cause.TemplateMark a b = omega arith
number-above cause.TooManyColumns a b = omega arith
number-above cause.TextOver a b = omega arith
number-above cause.WordLength a b = omega arith
number-above cause.EntryTooWide a b = omega arith
number-above cause.RowInHand a b = omega arith
number-above cause.Full a b = omega arith
number-above cause.CannotSet a b = omega arith
number-above cause.NoSuchColumn a b = omega arith
number-above cause.NoSuchSide a b = omega arith
number-above cause.TooLittleRoom a b = omega arith
number-above cause.OutOfRange a b = omega arith
number-above cause.MeasurerRange a b = omega arith
number-above cause.BadBox a b = omega arith
number-above cause.NoCharacter a b = omega arith

module _ (text : List ℕ) (place : ℕ) where
  pub missing-end : length text ≤ place → missing_at text place ≡ fault_at cause.BadLength (length text)
  unfolding missing_at
  missing-end over = cond-true (leb (length text) place) _ _ (le-leb (length text) place over)

  pub missing-stead : place < length text → missing_at text place ≡ in_its_stead (token_at text place) place
  unfolding missing_at
  missing-stead inside = cond-false (leb (length text) place) _ _ (lt-leb (length text) place inside)

  pub missing-token : (t : Lexeme) → place < length text → token_at text place ≡ Ok t → missing_at text place ≡ fault_at cause.BadLength place
  missing-token t inside e = missing-stead inside ∙ ap (λ r. in_its_stead r place) e

  pub missing-fault : (f : Fault) → place < length text → token_at text place ≡ Err f → number_of f.cause ≤ 2 → missing_at text place ≡ f
  missing-fault f inside e small = missing-stead inside ∙ ap (λ r. in_its_stead r place) e ∙ cond-true (leb (number_of f.cause) 2) _ _ (le-leb (number_of f.cause) 2 small)

  pub missing-other : (f : Fault) → place < length text → token_at text place ≡ Err f → 2 < number_of f.cause → missing_at text place ≡ fault_at cause.BadLength place
  missing-other f inside e large = missing-stead inside ∙ ap (λ r. in_its_stead r place) e ∙ cond-false (leb (number_of f.cause) 2) _ _ (lt-leb (number_of f.cause) 2 large)
