-- Sizes of whole numbers. Assumes nothing.
use Rattle.std.specs.Prelude.{ℕ, ◌^◌, ℤ, pos, neg_ℤ, ◌≤ℤ◌}

-- from -b to b
abbrev pub Within : ℕ → ℤ → Type 0
Within b z = (neg_ℤ (pos b) ≤ℤ z) × (z ≤ℤ pos b)

-- the range in which extents are exact
abbrev pub Near : ℤ → Type 0
Near = Within (2 ^ 40)
