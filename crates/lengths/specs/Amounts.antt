-- An amount as it is read from the first byte on. Assumes nothing.
use Rattle.std.specs.Prelude.{ℕ, ◌+◌, ◌*◌, Bool, cond, ◌&&◌, ◌||◌, List, [], ◌∷◌, take, drop, Some, None, Option, ◌==◌, nat_le, nat_lt}
use Rattle.std.specs.List.{prefix_len}
use Rattle.lengths.specs.declared.spelled.Spelled.{Spelled}
use Rattle.lengths.specs.Fractions.{numeral, rounded}

-- an amount in 65,536ths, and how many bytes spell it
abbrev pub Amount : Type 0
Amount = Spelled ℕ

abbrev pub digit_byte : ℕ → Bool
digit_byte b = nat_le 48 b && nat_le b 57

-- n digits behind a point
abbrev pub behind_point : List ℕ → ℕ → Option Amount
behind_point tail n = cond (n == 0 || nat_lt 17 n) None (Some (record { value = rounded (take n tail); len = n + 1 }))

-- a point (46) and its digits, or nothing
abbrev pub fraction_of : List ℕ → Option Amount
fraction_of [] = Some (record { value = 0; len = 0 })
fraction_of (b ∷ bs) = cond (b == 46) (behind_point bs (prefix_len digit_byte bs)) (Some (record { value = 0; len = 0 }))

-- a fraction behind n digits of value w
abbrev pub with_fraction : ℕ → ℕ → Option Amount → Option Amount
with_fraction w n None = None
with_fraction w n (Some f) = Some (record { value = w * 65536 + f.value; len = n + f.len })

abbrev pub behind_digits : List ℕ → ℕ → Option Amount
behind_digits s n = cond (n == 0 || nat_lt 8 n) None (with_fraction (numeral (take n s)) n (fraction_of (drop n s)))

abbrev pub amount_of : List ℕ → Option Amount
amount_of s = behind_digits s (prefix_len digit_byte s)
