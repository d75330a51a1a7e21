-- The ranges of a natural length and of a size. Assumes nothing.
use Rattle.std.specs.Prelude.{ℤ, pos, negsuc, ◌≤ℤ◌}

-- a natural length: within ±16,777,215
abbrev pub NaturalRange : ℤ → Type 0
NaturalRange z = (negsuc 16777214 ≤ℤ z) × (z ≤ℤ pos 16777215)

-- a stretch, and a length without a sign: from 0 to 16,777,215
abbrev pub SizeRange : ℤ → Type 0
SizeRange z = (pos 0 ≤ℤ z) × (z ≤ℤ pos 16777215)
