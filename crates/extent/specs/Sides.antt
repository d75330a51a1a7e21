-- The sides of an extent, counted from 0. Assumes nothing.
use Rattle.std.specs.Prelude.{ℕ, cond, ℤ, Some, None, Option, ◌==◌, nat_lt}

-- the first of two numbers on side 0, the second elsewhere
abbrev pub pick : ℕ → ℤ → ℤ → ℤ
pick k a b = cond (k == 0) a b

-- the number on a side, where there is such a side
abbrev pub side_of : {E : Type 0} → ℕ → (E → ℕ → ℤ) → E → ℕ → Option ℤ
side_of count num e k = cond (nat_lt k count) (Some (num e k)) None
