-- A verdict as an answer. Assumes nothing.
use Rattle.std.proofs.Common.{◌≡◌, ℕ, Bool, true, false, not, Some, None, Ok, Err, Option, Result, refl, ap, ◌∙◌, arith}
use Rattle.ledger.specs.Calls.{when}
use Rattle.faults.specs.declared.Fault.{Fault}
use Rattle.rows.specs.Answers.{unless}

-- refused for the fault that the verdict says
pub refused : {Y : Type 0} (f g : Fault) (v : Option Fault) (y : Y) → f ≡ g → Some g ≡ v → Err f ≡ unless v y
refused {Y} f g v y e s = ap (λ (x : Fault). unless (Some x) y) e ∙ ap (λ (x : Option Fault). unless x y) s

-- accepted, where the verdict says nothing
pub accepted : {Y : Type 0} (v : Option Fault) (y : Y) → None ≡ v → Ok y ≡ unless v y
accepted v y s = ap (λ (x : Option Fault). unless x y) s

-- a refusal is one whatever would have been answered
pub refusal-of : {Y Z : Type 0} (f : Fault) (v : Option Fault) (y : Y) (z : Z) → Err f ≡ unless v y → Err f ≡ unless v z
refusal-of f None y z e = let n : ◌≡◌ {A = ℕ} 0 1 = cc in absurd (omega arith)
refusal-of f (Some g) y z e = let same : f ≡ g = cc in ap (λ (x : Fault). unless (Some x) z) same

-- what a test that passed, or refused, says
pub passed : (b : Bool) (f : Fault) → ◌≡◌ {A = Result (Unit {0}) Fault} (Ok tt) (unless (when (not b) f) tt) → true ≡ b
passed true f e = refl
passed false f e = cc

pub vacant : (b : Bool) (f : Fault) → ◌≡◌ {A = Result (Unit {0}) Fault} (Ok tt) (unless (when b f) tt) → b ≡ false
vacant true f e = cc
vacant false f e = refl

pub stopped : (b : Bool) (f g : Fault) → ◌≡◌ {A = Result (Unit {0}) Fault} (Err f) (unless (when b g) tt) → (true ≡ b) × (f ≡ g)
stopped true f g e = (refl, cc)
stopped false f g e = cc
