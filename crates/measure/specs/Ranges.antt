-- Ranges of whole numbers. Assumes nothing.
use Rattle.std.specs.Prelude.{ℕ, ℤ, pos, ◌≤ℤ◌}

-- from a to b
abbrev pub FromTo : ℕ → ℕ → ℤ → Type 0
FromTo a b z = (pos a ≤ℤ z) × (z ≤ℤ pos b)

-- from 0 to b
abbrev pub Upto : ℕ → ℤ → Type 0
Upto = FromTo 0

-- a monospaced measurer's pitch, height, depth and last byte
abbrev pub MonoRanges : ℤ → ℤ → ℤ → ℤ → Type 0
MonoRanges pitch height depth last = Upto 4194304 pitch × Upto 16777215 height × Upto 16777215 depth × FromTo 32 126 last
