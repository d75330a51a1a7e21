-- What two measurers of plain extents mean together. Assumes nothing.
use Rattle.std.specs.Prelude.{◌≡◌, ℕ, ◌⊎◌, Ok, Err, Result}
use Rattle.extent.specs.declared.Plain.{Plain}
use Rattle.extent.specs.declared.Twin.{Twin}
use Rattle.measure.specs.declared.measurer.Metrics.{Metrics}

-- the strip of the first, the window of the second
abbrev pub both_sides : Plain → Plain → Twin
both_sides a b = record { strip = a.strip; window = b.strip }

abbrev pub both_metrics : Metrics Plain → Metrics Plain → Metrics Twin
both_metrics a b = record { width = both_sides a.width b.width; height = both_sides a.height b.height; depth = both_sides a.depth b.depth }

-- the first refusal is its own
abbrev pub twin_meaning : Result (Metrics Plain) ℕ → Result (Metrics Plain) ℕ → Result (Metrics Twin) ℕ
twin_meaning (Ok a) (Ok b) = Ok (both_metrics a b)
twin_meaning (Ok a) (Err p) = Err p
twin_meaning (Err p) _ = Err p

-- every side is its own measurer's; a refusal is the first's, or the second's where the first has an answer
abbrev pub Beside : Plain → Plain → Twin → Type 0
Beside a b e = (e.strip ≡ a.strip) × (e.window ≡ b.strip)

abbrev pub TwinOf : Result (Metrics Plain) ℕ → Result (Metrics Plain) ℕ → Result (Metrics Twin) ℕ → Type 0
TwinOf a b (Ok x) = (y : Metrics Plain) × (z : Metrics Plain) × (a ≡ Ok y) × (b ≡ Ok z) × Beside y.width z.width x.width × Beside y.height z.height x.height × Beside y.depth z.depth x.depth
TwinOf a b (Err p) = (a ≡ Err p) ⊎ (((y : Metrics Plain) × (a ≡ Ok y)) × (b ≡ Err p))
