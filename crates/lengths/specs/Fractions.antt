-- A decimal fraction in 65,536ths: the steps of The Program, §102, and what they are to give. Assumes nothing.
use Rattle.std.specs.Prelude.{ℕ, ◌+◌, ◌-◌, ◌*◌, ◌/◌, ◌^◌, ◌<◌, ◌≤◌, List, [], ◌∷◌, map, length}
use mathlib.Core.HLevel.{×₃_prop}
use Rattle.std.specs.Coded.{Unit-prop, le_prop}
use Rattle.std.specs.Int.Digits.{number_from_digits}

-- each byte is one of 0 to 9
abbrev pub Digits : List ℕ → Type 0
Digits [] = Unit {0}
Digits (d ∷ ds) = (48 ≤ d) × (d ≤ 57) × Digits ds

-- any two proofs of it are equal, which a ghost field needs
pub Digits-prop : (ds : List ℕ) → IsProp (Digits ds)
Digits-prop [] = Unit-prop
Digits-prop (d ∷ ds) = ×₃_prop le_prop le_prop (Digits-prop ds)

-- the digits as one whole number
abbrev pub numeral : List ℕ → ℕ
numeral ds = number_from_digits 10 (map (λ d. d - 48) ds)

-- r is the whole number nearest to 65536 * numeral ds / 10 ^ length ds, and at a half the one above it
abbrev pub Nearest : List ℕ → ℕ → Type 0
Nearest ds r =
    (2 * r * 10 ^ length ds ≤ 2 * 65536 * numeral ds + 10 ^ length ds)
    × (2 * 65536 * numeral ds + 10 ^ length ds < 2 * (r + 1) * 10 ^ length ds)

-- the steps: in units of 2^-17, rounded down from the last digit on
abbrev pub scaled : List ℕ → ℕ
scaled [] = 0
scaled (d ∷ ds) = (scaled ds + (d - 48) * 131072) / 10

abbrev pub rounded : List ℕ → ℕ
rounded ds = (scaled ds + 1) / 2
