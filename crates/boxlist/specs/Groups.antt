-- Numbers in groups of seven bits, the lowest first, the top bit set on all but the last. Assumes nothing.
use Rattle.std.specs.Prelude.{ℕ, zero, suc, ◌+◌, ◌*◌, ◌/◌, ◌%◌, cond, List, [], ◌∷◌, ℤ, pos, negsuc, nat_lt}
use Rattle.std.specs.List.{flat_map}

-- the groups of a number, with at most so many before the last
abbrev pub groups_by : ℕ → ℕ → List ℕ
groups_by zero n = n ∷ []
groups_by (suc turns) n = cond (nat_lt n 128) (n ∷ []) ((n % 128 + 128) ∷ groups_by turns (n / 128))

-- the groups of a number; n of them before the last are more than enough
unfoldable pub groups_of : ℕ → List ℕ
groups_of n = groups_by n n

-- the groups of numbers, one number behind the other
abbrev pub all_groups : List ℕ → List ℕ
all_groups ns = flat_map groups_of ns

-- a signed number as an unsigned one: 2n, or -2n - 1 below zero
abbrev pub zigzag : ℤ → ℕ
zigzag (pos n) = 2 * n
zigzag (negsuc n) = 2 * n + 1
