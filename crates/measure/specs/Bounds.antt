-- What measurers answer, in its ranges on each side of their kind of extent. Assumes nothing.
use Rattle.std.specs.Prelude.{ℕ, ◌<◌, ℤ}
use Rattle.extent.specs.Sizes.{Within}
use Rattle.measure.specs.Ranges.{Upto}
use Rattle.measure.specs.declared.measurer.Metrics.{Metrics}

-- the metrics of a word
abbrev pub Bounded : {E : Type 0} → ℕ → (E → ℕ → ℤ) → Metrics E → Type 0
Bounded count num x = (k : ℕ) → k < count → Within 1073741823 (num x.width k) × Upto 16777215 (num x.height k) × Upto 16777215 (num x.depth k)

-- the width of a space
abbrev pub Spaced : {E : Type 0} → ℕ → (E → ℕ → ℤ) → E → Type 0
Spaced count num e = (k : ℕ) → k < count → Upto 16777215 (num e k)
